use Rattle.std.proofs.Common.{◌≡◌, map, take}
use Rattle.std.specs.List.{AllByRecursion as Every}
use Rattle.rc_core.specs.Shapes.{struct_of}
use Rattle.rc_numbering.specs.Small.{FunctionIsSmall}
use Rattle.rc_numbering.specs.Names.{stack_of}
use Rattle.rc_numbering.specs.Numbered.{function_of}
use Rattle.rc_tables.specs.Placed.{path_number, type_number}
use Rattle.rc_rlang.specs.Shapes.{rlang_of, routine_in}
use Rattle.rc_emit.proofs.parts.functions.Given as goal

abbrev pub invariant-loop-at : goal.invariant-loop-at
invariant-loop-at l = record {
  are : l.functions.items ≡ map (λ f. function_of (type_number l.numbers) (path_number l.numbers) (stack_of (rlang_of l.parts) f) f) (map (routine_in (map struct_of l.parts.structs.items)) (take l.at l.routines));
  small : Every FunctionIsSmall l.functions.items;
}
