use Rattle.std.proofs.Common.{◌≡◌, ◌≤◌, ℕ, drop}
use Rattle.rc_core.specs.Laid.{AreLaidOut}
use Rattle.rc_rlang.specs.RegionPoints.{codes_points}
use Rattle.rc_rlang.specs.Shapes.{codes_of}
use Rattle.rc_plans.proofs.plans.busy.Given as goal

abbrev pub invariant-loop-i : goal.invariant-loop-i
invariant-loop-i l = (structs : _) → AreLaidOut structs l.layouts → (j : ℕ) → l.i ≤ j → codes_points (codes_of structs (drop j l.body)) ≡ 0
