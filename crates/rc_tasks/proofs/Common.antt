-- The names that the proofs here cite, passed on from one place.
pub use Rattle.rc_base.specs.declared.ends.Limits.{Limits}
pub use Rattle.rc_base.specs.declared.ends.Trap.{Trap}
pub use Rattle.rc_base.specs.declared.ends.Trap.TheVariants.{Bounds, Full, Reference, Root, Size, Subregion}
pub use Rattle.rc_core.specs.Arithmetic.{calculate, calculate_one, converted, equals, truth, type_of, wrapped}
pub use Rattle.rc_core.specs.Evaluation.{aimed, along, as_wanted, choosing, eval, eval_all, further, give_number, is_true, local_at, number_in, region_named, same_value, static, target, toward}
pub use Rattle.rc_core.specs.Execution.{Broke, Continued, Flow, Next, Returned, behind, behind_body, calling, calls_within, changed, deletes, exec, exec_all, first_locals, function_deletes, held, held_value, local_type, result_of, rounds, rounds_first, run_function, set_local, test_of, value_of, with_local, zero_result}
pub use Rattle.rc_core.specs.Heap.{Address, Handle, Heap, Null, Number, Object, Pointer, Region, Value, blank, blank_cell, first_heap, first_values, fits, global_object, global_object_of, is_fresh, literal, live, names, no_object, no_region, object_at, objects, of_region, parent, with_objects, zero_of}
pub use Rattle.rc_core.specs.Layout.{Layout, cells, count_of, note_of, offset, size, stride}
pub use Rattle.rc_core.specs.Live.{Ways, at_end, before, before_all, either, for_body, for_head, for_third, repeat_body, repeat_head, then_live, while_body}
pub use Rattle.rc_core.specs.Meaning.{first_world, meaning, meaning_of_run}
pub use Rattle.rc_core.specs.Numbers.{byte_of, fits_int}
pub use Rattle.rc_core.specs.Programs.{Arguments, Expr, Function, Global, Path, Place, Program, Stmt, Stmts, Struct, address, allocate, allocate_array, and, assign, binary, block, branch, break, call, choose, constant, continue, convert, copy, declare, delete, done, element, evaluate, field, for, getchar, global, here, indexed, is_null, local, more, new_region, new_subregion, none, not_zero, null, or, pointed, putchar, read, region_of, repeat, return, same, step, step_from, store, string, then, unary, while}
pub use Rattle.rc_core.specs.Runs.{Calls, Go, Ops, Run, Stop, Stopped, Target, bind, branching, computed, tested, touching}
pub use Rattle.rc_core.specs.Source.{Spot, World, at_address, at_region, at_spot, byte_from, cell_of, chosen_in_range, deleted, first_of, fitting, has_child, is_empty, is_index, killed, made, notes_from, object_of, overwritten, place_of, references, source, stepped, stored, turn_from, unfit, values_from, values_of, values_outside, with_heap, written}
pub use Rattle.rc_core.specs.Types.{CellKind, Ty, char, char_cell, int, int_cell, pointer, pointer_cell, region, region_cell, struct, unsigned, unsigned_cell}
pub use Rattle.rc_core.specs.Typing.{AreArguments, AreTyped, HasType, IsPlace, IsTyped, IsValue, LeadsTo, Takes}
pub use Rattle.rc_core.specs.declared.stmt.Change.{Change}
pub use Rattle.rc_core.specs.declared.stmt.Change.TheVariants.{Compute, Step}
pub use Rattle.rc_core.specs.declared.ty.Note.{Note}
pub use Rattle.rc_core.specs.declared.ty.NumberType.TheVariants.{Int, Unsigned}
pub use Rattle.rc_core.specs.declared.ty.Signedness.TheVariants.{Signed}
pub use Rattle.rc_tasks.specs.Appended.{ChooseTasks, HasOwnNames, also, any_left, appended, call_of, calls_of, counter, digit, every_task, main_body, main_function, occurs, taking, yield_body, yield_function}
pub use Rattle.rc_tasks.specs.Examples.{Examples}
pub use Rattle.rc_tasks.specs.Reach.{AllReach, OptionReaches, PathReaches, PlaceReaches, Reaches, StatementReaches, StatementsReach}
pub use Rattle.rc_tasks.specs.Tasks.{TaskWorld, Tasks, allocated, alone, behind_turn, beside, called, counted_besides, declaration, declared, driving, first_task_world, is_none_left, main_of, starting, task_meaning, tasks, yield_of, yielding}
pub use Rattle.std.proofs.Common.{List, None, Option, Some, [], ap, append-nil, arith, cond, drop, filter, flat_map, get_or, if◌then◌else◌, inl, inr, length, length-append, map, nat_eq, not, refl, replicate, slice_get, subst, suc, sym, take, zero, ℕ, ◌&&◌, ◌*◌, ◌++◌, ◌+◌, ◌-◌, ◌<◌, ◌||◌, ◌∙◌, ◌∷◌, ◌≡◌, ◌≤◌, ◌⊎◌}
pub use Rattle.std.proofs.Math.Nat.{mod-eq_of_lt}
pub use Rattle.std.proofs.Math.Path.{fun_ext}
pub use Rattle.std.proofs.lemmas.List.{length-map, map-append}
pub use Rattle.std.specs.List.{list_all}
pub use Rattle.std.specs.Prelude.{Err, IfSome, Ok, Result, int_lt, nat_le, pos, unsigned_abs, ℤ, ◌+ℤ◌, ◌-ℤ◌}
