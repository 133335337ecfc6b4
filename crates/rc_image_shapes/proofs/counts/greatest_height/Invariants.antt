use Rattle.std.proofs.Common.{◌≡◌, ◌≤◌, length}
use Rattle.rc_code.specs.Running.{reading_of}
use Rattle.rc_code.specs.Soundness.{kinds_before}
use Rattle.rc_sealed.specs.ImageVariables.{height_within}
use Rattle.rc_image_shapes.proofs.counts.greatest_height.Given as goal

abbrev pub invariant-loop-at : goal.invariant-loop-at
invariant-loop-at l = record {
  height : l.height ≡ length (kinds_before (reading_of l.parts) l.function l.at);
  greatest : l.greatest ≡ height_within (reading_of l.parts) l.function l.at;
  small : l.height ≤ l.at;
  most : l.greatest ≤ l.at;
}
