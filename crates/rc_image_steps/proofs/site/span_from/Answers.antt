use Rattle.rc_image_steps.specs.Sites.{function_in, image_of}
use Rattle.rc_image_steps.proofs.Places.{reach_is, reach_is_narrow}
use Rattle.rc_image_steps.proofs.site.span_from.Goals as goal

pub place_of-requires : goal.place_of-requires
place_of-requires c =
    let image = image_of c.args.site.now in
    let f = function_in c.args.site.now in
    reach_is_narrow image f c.args.site.now.shape.now.first c.args.at c.greater-most.result c.requires.site.shape.first c.requires.site.narrow c.requires.there
    (reach_is image f c.args.at c.args.height c.args.next c.greater-most.result c.requires.height c.requires.next c.greater-most.ensures)
