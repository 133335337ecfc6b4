use Rattle.std.proofs.Common.{◌≡◌}
use Rattle.rc_sealed.specs.Carrying.{height}
use Rattle.rc_image_steps.specs.Sites.{function_in, image_of}
use Rattle.rc_verify.specs.Passes.{IsAt}
use Rattle.rc_verify.proofs.passing.first_from.Given as goal

abbrev pub invariant-loop-at : goal.invariant-loop-at
invariant-loop-at l = record {
  high : l.height ≡ height (image_of l.pass.site) (function_in l.pass.site) l.at;
  here : IsAt l.pass l.at l.set;
}
