use Rattle.rc_rlang.specs.Shapes.{rlang_of}
use Rattle.rc_marking.proofs.marks.marks_of.Goals as goal

pub add_marks-requires : goal.add_marks-requires
add_marks-requires c = record { laid = record { structs = (rlang_of c.args.code.now).structs; laid = c.layouts-layouts.ensures } }
