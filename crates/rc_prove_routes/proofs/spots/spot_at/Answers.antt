use Rattle.std.proofs.Common.{arith}
use Rattle.rc_image_steps.specs.Sites.{function_in, image_of}
use Rattle.rc_image_steps.proofs.Places.{height_fits, lowest_below, reach_fits}
use Rattle.rc_prove_routes.proofs.spots.spot_at.Goals as goal

pub narrow-low-requires : goal.narrow-low-requires
narrow-low-requires c =
    let image = image_of c.args.walk.now.site in
    let f = function_in c.args.walk.now.site in
    let t = c.requires.there in
    let l = lowest_below image f c.args.at in
    let h = height_fits image f c.args.at (omega (arith, t)) in
    let n = c.requires.walk.site.narrow in
    let e = c.in_ok-effect.ensures.low in
    omega (arith, l, h, n, e)

pub narrow-top-requires : goal.narrow-top-requires
narrow-top-requires c =
    let image = image_of c.args.walk.now.site in
    let f = function_in c.args.walk.now.site in
    let r = reach_fits image f c.args.at c.requires.there in
    let n = c.requires.walk.site.narrow in
    let e = c.in_ok-effect.ensures.top in
    omega (arith, r, n, e)
