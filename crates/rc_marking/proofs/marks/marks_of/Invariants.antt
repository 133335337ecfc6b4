use Rattle.std.proofs.Common.{◌≡◌, ◌++◌, drop, map}
use Rattle.rc_core.specs.Shapes.{struct_of}
use Rattle.rc_elim.specs.Masks.{marks_in}
use Rattle.rc_rlang.specs.Shapes.{rlang_of, routine_in}
use Rattle.rc_marks.specs.InOrder.{functions_marks, marks_in_order}
use Rattle.rc_marking.proofs.marks.marks_of.Given as goal

abbrev pub invariant-loop-routine : goal.invariant-loop-routine
invariant-loop-routine l = l.all.items ++ functions_marks (marks_in l.mask) l.number (map (routine_in (map struct_of l.code.structs.items)) (drop l.routine-index l.routine-items)) ≡ marks_in_order (marks_in l.mask) (rlang_of l.code)
