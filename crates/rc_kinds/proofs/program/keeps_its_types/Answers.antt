use Rattle.rc_core.specs.Shapes.{program_of}
use Rattle.rc_kinds.proofs.Stated.{keeps_to_types}
use Rattle.rc_kinds.proofs.Demanded.{part_is_answered}
use Rattle.rc_kinds.proofs.PartsMeet.{part_meets}
use Rattle.rc_kinds.proofs.program.keeps_its_types.Goals as goal

pub returns-clause-kept : goal.returns-clause-kept
returns-clause-kept c = keeps_to_types (program_of c.args.program.now) c.parts-parts.ensures.well_typed

pub returns-clause-everywhere : goal.returns-clause-everywhere
returns-clause-everywhere c input limits bytes part comes = part_meets (program_of c.args.program.now) c.parts-parts.ensures.well_typed input limits bytes part comes

pub returns-clause-answered : goal.returns-clause-answered
returns-clause-answered c input limits bytes part comes = part_is_answered (program_of c.args.program.now) c.parts-parts.ensures.well_typed input limits bytes part comes
