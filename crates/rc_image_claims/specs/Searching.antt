-- A place among frames.
use Rattle.std.specs.Prelude.{◌<◌, ◌≤◌, ℕ, List, length, slice_get, Some, ◌≡◌}
use Rattle.rc_claims.specs.declared.proofs.Frame.{Frame}

-- those before it are of instructions before that one, and the others aren't
pub record Splits (frames : List Frame) (at place : ℕ) : Type 0 where
  pub inside : place ≤ length frames
  pub before : (k : ℕ) (frame : Frame) → k < place → slice_get frames k ≡ Some frame → frame.at < at
  pub behind : (k : ℕ) (frame : Frame) → place ≤ k → slice_get frames k ≡ Some frame → at ≤ frame.at
