use Rattle.std.proofs.Common.{◌≡◌, ◌++◌, drop, map}
use Rattle.rc_core.specs.Shapes.{struct_of}
use Rattle.rc_elim.specs.Masks.{no_marks, rows_of, unmarked}
use Rattle.rc_rlang.specs.Shapes.{rlang_of, routine_in}
use Rattle.rc_elim.proofs.mask.no_marks.Given as goal

abbrev pub invariant-loop-routine : goal.invariant-loop-routine
invariant-loop-routine l = record { rows : rows_of l.rows.items ++ map unmarked (map (routine_in (map struct_of l.parts.structs.items)) (drop l.routine-index l.routine-items)) ≡ no_marks (rlang_of l.parts) }
