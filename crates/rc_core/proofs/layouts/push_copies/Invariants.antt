use Rattle.std.proofs.Common.{◌≡◌, ◌++◌, replicate}
use Rattle.std.specs.Prelude.{flat_map}
use Rattle.rc_core.proofs.layouts.push_copies.Given as goal

abbrev pub invariant-loop : goal.invariant-loop
invariant-loop l = l.kinds.items ≡ l.initial.kinds.items ++ flat_map (λ kinds. kinds) (replicate l.counter l.one)
