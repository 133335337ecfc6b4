use Rattle.rc_core.specs.Shapes.{program_of}
use Rattle.rc_safety.proofs.Never.{never_touches_deleted, leaves_sound_heap}
use Rattle.rc_safety.proofs.program.never_touches_deleted.Goals as goal

pub returns-clause-never : goal.returns-clause-never
returns-clause-never c input limits = never_touches_deleted (program_of c.args.program.now) input limits c.parts-parts.ensures.well_typed.deleting

pub returns-clause-left : goal.returns-clause-left
returns-clause-left c input limits = leaves_sound_heap (program_of c.args.program.now) input limits c.parts-parts.ensures.well_typed.deleting
