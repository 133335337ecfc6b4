-- The words of the five walks over a raw page.
pub use Rattle.std.proofs.Common.{◌≡◌, ℕ, ◌+◌, ◌*◌, ◌<◌, ◌^◌, List, [], ◌∷◌, ◌++◌, length, replicate, get_or, set, refl, sym, ap, subst, ◌∙◌, arith, lit<, w64}
pub use Rattle.std.proofs.raw_atomic.Walks.{proved}
pub use Rattle.std.proofs.VecSteps.Shapes.{after, head, arm_body}
pub use base.Fraction.{full_share}
pub use base.Logic.{emp, id⊢}
pub use base.Fml.{ftrue, fat, froom, flft}
pub use mir.Syntax.{ty_int, named, w128}
pub use mir.Val.{Val, vint, vptr, vunit, vstruct, vcons, vnil, of_list}
pub use prog.Wp.{Env, WpFn}
pub use contract.Monad.{fact}
pub use contract.Running.{tables}
pub use types.Kit.{‵, raw, ◌⊛◌, some, later, prop, at_ret, any_q, ◌$◌, ◌∵◌, !, qed, done, move, keep, drop, use0, use1, use2, split, join, fsplit, fsplit3, fjoin, feq_i, feq_l, pick, await, rewrite, regoal, suffices, frame, group}
pub use types.Part.{whole, sub, agg, rep}
pub use types.Run.{enter, of_opd, lit, unit_lit, bin, load, look, store, init, stop, fld, no_more, and_then, assigns_last, first, blocks, exec, returns, well_typed}
pub use types.ByLocal.{alloc_all, pass_all, free_all, look_at, get, get_in, through, sets, sets_last, env}
pub use denote.Array.{array_val, Array-Lawful, Array-repeat}
pub use denote.Builtin.{u128, usize, unit}
pub use denote.Exit.{yes}
pub use denote.Laws.{Is, shows}
pub use denote.Memory.{cell_at, part_at, hidden_shr}
pub use denote.Plain.{uint_Makes, uint_vals, uint_Tells, uint_copy, uint_Lawful}
pub use denote.RawPtr.{Ptr, RawPtr, block_ptr, null_ptr, in_a_block}
pub use denote.Ref.{MutRef, ShrRef, mut_vals, mut_Tells, shr_vals, shr_Tells}
pub use denote.Signature.{plain}
pub use denote.Steps.{nothing, owned, opens, closes, heard, peeks}
pub use denote.Triple.Walked.{Stays, walk_of, says, stay_dropped, Goes-dropped, stay_ref, Goes-ref, ends_at}
