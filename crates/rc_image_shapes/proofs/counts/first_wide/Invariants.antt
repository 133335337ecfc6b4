use Rattle.std.proofs.Common.{ℕ, ◌<◌}
use Rattle.rc_sealed.specs.Faults.{IsWide}
use Rattle.rc_image_shapes.proofs.counts.first_wide.Given as goal

abbrev pub invariant-loop-number : goal.invariant-loop-number
invariant-loop-number l = (f : ℕ) → f < l.number → IsWide l.parts f → ⊥
