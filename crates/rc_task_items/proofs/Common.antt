-- The names that the proofs here cite, passed on from one place.
pub use Rattle.rc_core.specs.Layout.{field_at}
pub use Rattle.rc_core.specs.Shapes.{arguments_listed}
pub use Rattle.rc_core.specs.Types.{Ty, char, int, pointer, unsigned}
pub use Rattle.rc_core.specs.Typing.{IsTyped, parameters_of}
pub use Rattle.rc_core.specs.WellTyped.{IsVariable, IsWellTyped}
pub use Rattle.rc_core.specs.declared.stmt.Change.TheVariants.{Compute}
pub use Rattle.rc_core.specs.declared.ty.Note.TheVariants.{Plain}
pub use Rattle.rc_core.specs.declared.ty.Signedness.TheVariants.{Signed}
pub use Rattle.rc_deletes.proofs.Naming.{name_at, place_new, same_name}
pub use Rattle.rc_deletes.proofs.Standing.{prefix_more}
pub use Rattle.rc_deletes.specs.Builtins.{row}
pub use Rattle.rc_deletes.specs.Calls.{call_refusals, call_statement, callee_rule, fitted_arguments, parameters, the_function}
pub use Rattle.rc_deletes.specs.Items.{Made, Outside, Typed, at_the_start, before_globals, behind_item, behind_items, builtins, context_of, function_names, global_by_value, global_made, head_rule, is_among, is_plain, item, items, made_both, main_name, nothing_made, once, program_of, same_struct, shared_rule, with_function, with_function_name, with_functions, with_name, with_new}
pub use Rattle.rc_deletes.specs.Judged.{Faulty, Holds, Judged, both, in_front, ruled, with_part, with_parts}
pub use Rattle.rc_deletes.specs.Kinds.{number_or, place_of}
pub use Rattle.rc_deletes.specs.Ranges.{ItemsInRange}
pub use Rattle.rc_deletes.specs.Scopes.{Context, Meaning, Scope, Signature, a_builtin, a_function, a_global, a_local, meaning_in, structs_in}
pub use Rattle.rc_deletes.specs.Statements.{Here, behind_local, behind_stmts, condition, local, simple, stmt, stmts}
pub use Rattle.rc_deletes.specs.declared.builtin.Builtin.{Builtin}
pub use Rattle.rc_deletes.specs.declared.builtin.Builtin.TheVariants.{DeleteRegion, Getchar, NewRegion, NewSubregion, Putchar, RegionOf}
pub use Rattle.rc_judgements.proofs.BuiltinNames.{named}
pub use Rattle.rc_judgements.proofs.Held.{Given, Held, held_after, held_always, held_and, held_front, held_more, held_part, held_parts, held_ruled}
pub use Rattle.rc_judgements.proofs.WellTyped.{held_by, of_held}
pub use Rattle.rc_judgements.proofs.WellTypedBodies.{AllFunctionsFit, function_at, functions_fit}
pub use Rattle.rc_judgements.proofs.WellTypedCalls.{IsThere}
pub use Rattle.rc_judgements.proofs.WellTypedDefined.{Defined}
pub use Rattle.rc_judgements.proofs.WellTypedNumbers.{Complete, Paired, complete, definition_makes, global_adds, paired_at, prototype_adds, struct_adds}
pub use Rattle.rc_judgements.proofs.WellTypedScopes.{Outer, OuterAfter, StandsFor, adds, kept_items, kept_name, new_globals, outer_builtins, outer_items}
pub use Rattle.rc_syntax.specs.declared.tree.Base.{Base}
pub use Rattle.rc_syntax.specs.declared.tree.Name.{Name}
pub use Rattle.rc_syntax.specs.declared.tree.Spot.{Spot}
pub use Rattle.rc_syntax.specs.declared.tree.StepOp.TheVariants.{Increment}
pub use Rattle.rc_tasks.proofs.TypedReach.{own_names}
pub use Rattle.rc_tasks.specs.Appended.{HasOwnNames}
pub use Rattle.rc_tasks.specs.Tasks.{Tasks, declaration, declared, main_of, yield_of}
pub use Rattle.std.proofs.Common.{ap, append_assoc, arith, length-append, refl, subst, sym, ◌∙◌}
pub use Rattle.std.proofs.lemmas.List.{append-nil}
pub use Rattle.std.specs.Prelude.{Bool, IfSome, List, None, Option, Some, [], codes, false, get_or, if◌then◌else◌, is_some, length, map, nat_lt, pos, slice_get, suc, true, zero, ℕ, ◌&&◌, ◌++◌, ◌+◌, ◌<◌, ◌||◌, ◌∷◌, ◌≡◌, ◌≤◌}
pub use Rattle.std.specs.Str.{bytes_eq}
