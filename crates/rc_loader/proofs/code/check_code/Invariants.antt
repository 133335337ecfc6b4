use Rattle.std.proofs.Common.{ℕ, ◌<◌}
use Rattle.rc_loader.specs.Decisions.{Stand, KeepsAll}
use Rattle.rc_loader.proofs.code.check_code.Given as goal

abbrev pub invariant-loop-at : goal.invariant-loop-at
invariant-loop-at l = Stand l.parts l.function l.at l.stack.items × ((m : ℕ) → m < l.at → KeepsAll l.parts l.function m)
