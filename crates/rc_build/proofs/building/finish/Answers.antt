use Rattle.rc_core.specs.Shapes.{program_of}
use Rattle.rc_code.specs.declared.image.Parts.{Parts}
use Rattle.rc_build.proofs.Finishing.{counted_so, not_finished}
use Rattle.rc_build.proofs.Images.{has_image}
use Rattle.rc_build.proofs.building.finish.Goals as goal

pub returns-in-Ok : goal.returns-in-Ok
returns-in-Ok c = record {
  bounds = c.in-Ok.ensures.counts;
  has = has_image (program_of c.args.program.now) c.in-Ok.image c.parts-parts.ensures.well_typed c.in-Ok.ensures.counts c.in-Ok.ensures.small c.in-Ok.ensures.compiled c.in-Ok.ensures.sound c.in-Ok.ensures.means;
}

pub returns-in-Err : goal.returns-in-Err
returns-in-Err c = not_finished (program_of c.args.program.now) c.too_much.result (c.too_much.ensures (program_of c.args.program.now) (counted_so Parts (program_of c.args.program.now) c.in-Err.fault c.in-Err.ensures.counts))
