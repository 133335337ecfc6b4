use Rattle.std.proofs.Common.{◌≡◌, ◌++◌, drop, map}
use Rattle.std.specs.Prelude.{true}
use Rattle.rc_core.specs.Shapes.{ty_of}
use Rattle.rc_rlang.specs.RegionRuns.{pins_from}
use Rattle.rc_live.specs.Rows.{numbered}
use Rattle.rc_live.proofs.rows.references.Given as goal

abbrev pub invariant-loop-number : goal.invariant-loop-number
invariant-loop-number l = l.names.items ++ pins_from (map ty_of (drop l.number l.types)) l.number (λ y. true) ≡ numbered (map ty_of l.types)
