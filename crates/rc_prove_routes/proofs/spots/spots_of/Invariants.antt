use Rattle.std.proofs.Common.{◌≡◌}
use Rattle.rc_sealed.specs.Carrying.{height}
use Rattle.rc_image_steps.specs.Sites.{function_in, image_of}
use Rattle.rc_prove_routes.specs.Routed.{AreFirstSpots}
use Rattle.rc_prove_routes.proofs.spots.spots_of.Given as goal

abbrev pub invariant-loop-at : goal.invariant-loop-at
invariant-loop-at l = record {
  high : l.height ≡ height (image_of l.walk.site) (function_in l.walk.site) l.at;
  are : AreFirstSpots (image_of l.walk.site) l.walk.site.number l.at l.spots.items;
}
