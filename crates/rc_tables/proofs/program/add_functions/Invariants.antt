use Rattle.std.proofs.Common.{◌≡◌, flat_map, map, take}
use Rattle.rc_core.specs.Shapes.{struct_of}
use Rattle.rc_emission.specs.KeptOperands.{same_type}
use Rattle.rc_numbering.specs.Names.{routine_names}
use Rattle.rc_numbering.specs.Tables.{seen_behind}
use Rattle.rc_rlang.specs.Shapes.{rlang_of, routine_in}
use Rattle.rc_tables.specs.Kept.{all_types}
use Rattle.rc_tables.proofs.program.add_functions.Given as goal

abbrev pub invariant-loop-at : goal.invariant-loop-at
invariant-loop-at l = all_types l.types ≡ seen_behind same_type (all_types l.fn.types) (flat_map (routine_names (rlang_of l.parts)) (map (routine_in (map struct_of l.parts.structs.items)) (take l.at l.routines)))
