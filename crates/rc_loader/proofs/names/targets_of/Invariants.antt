use Rattle.std.proofs.Common.{◌≡◌, ℕ, ◌<◌, ◌||◌, false, length, get_or}
use Rattle.rc_loader.specs.Decisions.{is_named}
use Rattle.rc_loader.proofs.names.targets_of.Given as goal

abbrev pub invariant-loop-rest : goal.invariant-loop-rest
invariant-loop-rest l = (length l.targets.items ≡ length l.code) × ((n : ℕ) → n < length l.code → (get_or l.targets.items n false || is_named l.rest n) ≡ is_named l.code n)

abbrev pub decreases-loop-rest : goal.decreases-loop-rest
decreases-loop-rest l = length l.rest
