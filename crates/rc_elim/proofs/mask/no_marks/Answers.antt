use Rattle.std.proofs.Common.{map}
use Rattle.rc_core.specs.Shapes.{struct_of}
use Rattle.rc_elim.proofs.mask.no_marks.Goals as goal

pub unmarked-requires : goal.unmarked-requires
unmarked-requires c = record { laid = record { structs = map struct_of c.args.parts.now.structs.items; laid = c.requires } }
