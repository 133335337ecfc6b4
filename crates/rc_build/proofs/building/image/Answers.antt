use Rattle.rc_core.specs.Shapes.{program_of}
use Rattle.rc_build.proofs.Images.{has_image}
use Rattle.rc_build.proofs.building.image.Goals as goal

pub returns-in-Ok : goal.returns-in-Ok
returns-in-Ok c = has_image (program_of c.args.program.now) c.in-Ok.image c.parts-parts.ensures.well_typed c.in-Ok.ensures.counts c.in-Ok.ensures.small c.in-Ok.ensures.compiled c.in-Ok.ensures.sound c.in-Ok.ensures.means
