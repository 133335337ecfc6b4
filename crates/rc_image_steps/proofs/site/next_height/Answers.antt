use Rattle.std.proofs.Common.{arith}
use Rattle.rc_image_steps.specs.Sites.{function_in, image_of}
use Rattle.rc_image_steps.proofs.Places.{height_fits}
use Rattle.rc_image_steps.proofs.site.next_height.Goals as goal

pub height_behind-requires-clause-small : goal.height_behind-requires-clause-small
height_behind-requires-clause-small c =
    let t = c.requires.there in
    let b = height_fits (image_of c.args.site.now) (function_in c.args.site.now) c.args.at (omega (arith, t)) in
    let n = c.requires.site.narrow in
    let h = c.requires.height in
    omega (arith, b, n, h)
