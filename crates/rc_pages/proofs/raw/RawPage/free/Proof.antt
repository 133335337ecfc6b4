-- `free` forgets what lies in the page, and gives its room back with its deed.
use Rattle.rc_pages.proofs.Walks.{[], ◌∷◌, ◌++◌, refl, sym, ap, subst, lit<, w64, proved, after, emp, id⊢, ftrue, froom, flft, named, Val, vunit, WpFn, fact, tables, ‵, raw, ◌⊛◌, some, later, prop, at_ret, ◌$◌, ◌∵◌, !, qed, done, move, keep, use0, use1, split, join, fsplit, fjoin, feq_i, feq_l, pick, await, regoal, suffices, whole, sub, enter, of_opd, lit, unit_lit, stop, fld, no_more, and_then, first, blocks, exec, returns, alloc_all, pass_all, free_all, look_at, get, get_in, sets, env, unit, usize, yes, uint_Makes, Ptr, RawPtr, block_ptr, in_a_block, ShrRef, shr_vals, shr_Tells, plain, nothing, owned, Stays, walk_of, stay_dropped, Goes-dropped, ends_at}
use contract.Monad.{fact_i}
use lib.Dec.{T}
use mir.Syntax.{ty_unit}
use mir.Val.{has_ty, WT}
use types.ByLocal.{lands_last}
use denote.Builtin.{RefOf}
use denote.RawPtr.{rawptr_Makes, rawptr_vals}
use denote.Plain.{uint_vals}
use denote.Steps.{only}
use denote.Triple.Call.{calls_at_last}
use denote.Triple.Clauses.{lasts}
use denote.Triple.Spec.{triple_of}
use denote.Triple.Table.{framed}
use Rattle.std.specs.Allocator.{HasLayout}
use Rattle.std.proofs.alloc.Calls.{Goes-blank}
use Rattle.std.specs.contracts.alloc.Global as heap
use Rattle.std.specs.contracts.impls.GlobalAllocator.deallocate as g
use Rattle.std.proofs.impls.GlobalAllocator.deallocate.Met.{met}
use Rattle.rc_pages.specs.Memory.{page_owns}
use Rattle.rc_pages.proofs.BigLiteral.{big_lit}
use Rattle.rc_pages.proofs.PageMemory.{cells_ty, not_null, as_room}
use Rattle.rc_pages.specs.contracts.raw.RawPage.free as f
use Rattle.rc_pages.proofs.raw.RawPage.free.Statement.{statement}
use Rattle.rc_pages.proofs.raw.RawPage.free.Code as code
use Rattle.rc_pages.specs.contracts.raw.RawPage.{the_row as R}
use Rattle.rc_pages.proofs.raw.RawPage.TheLaws.{lowers}

abbrev stayed : Stays f.ended.signature.params f.ended.kept
stayed = (stay_dropped _ yes, (stay_dropped _ yes, tt))

pub free_spec : {M : Type 1} → statement M
free_spec 𝓤 𝓛 𝓜 𝓡 wired =
    let c = f.clauses 𝓛 𝓜.mem 𝓡.returns in let W = walk_of 𝓛 f.ended stayed c in let 𝓣 = tables 𝓤 𝓛.H 𝓜 𝓡 𝓡.env in
    proved 𝓛 f.ended stayed c 𝓜 𝓡
    (Goes-blank 𝓛 1 (plain (λ _. R)) yes (λ κs x w. tt), (Goes-dropped 𝓛 1 (RefOf (0 ∷ []) tt (plain (λ _. heap.the_row)) (λ _. tt)) yes (λ κs x w. refl), tt))
    f.Key.name code.function (code.unfolded 𝓤 𝓛.H 𝓜 𝓡 wired)
    (λ κs. ((λ p. lowers.lowered p ∷ []), (shr_vals, tt))) (λ κs. (lowers.val_is, (shr_Tells (named 0) κs.0 heap.the_row, tt))) (λ κs qs bounds a _ are.
    let κ = κs.0 in let p = a.0 in let xs = p.cells in let handle = a.1.0 in let vs = lowers.lowered p ∷ [] in let us = shr_vals handle in
    let y : W.Ghost = ((κs, qs, bounds, a, (vs, (us, tt))), tt) in
    let G = triple_of 𝓛 g.signature (g.spec 𝓛 𝓜.mem 𝓡.returns) in
    qed 𝓛 (((‵ (flft κ qs.0) ⊛ ‵ ftrue) ⊛ ‵ (R.own_val p vs) ⊛ ‵ ((ShrRef (named 0) κ heap.the_row).own_val handle us) ⊛ ‵ ftrue) ∷ ‵ ftrue ∷ []) ∵
    split ! $ split ! $ move ! (2 ∷ []) $ split ! $ fsplit ! $ move ! (2 ∷ []) $ split ! $ keep ! (0 ∷ 3 ∷ 4 ∷ []) $ move ! (1 ∷ []) $
    in_a_block ! p.at (λ at. page_owns at xs) (not_null 𝓛 xs) (λ b o e. fsplit ! $ use1 𝓛 (‵ (froom cells_ty b o)) (as_room 𝓛 b o xs) $
    -- [the room; the deed; the handle; the token]
    regoal ! (λ (at : Ptr). prop (WpFn 𝓤 𝓛.H 𝓣.C 𝓣.Λ code.function (lowers.lowered (record p { at = at }) ∷ us ++ []) (W.post y))) e refl $
    enter ! _ _ _ _ _ $ alloc_all ! (λ l. pass_all ! refl ((tt, (tt, tt)), ((tt, tt), tt)) $
    sets ! (of_opd ! (get_in ! (fld ! refl (stop !)) (sub ! 0 refl (whole !)))) refl (tt, tt) $ first ! $ blocks ! $ sets ! (of_opd ! (get ! refl)) refl (tt, tt) $
    let z : G.Ghost = ((κs, qs, tt, (handle, (block_ptr b o, (4096, (16, tt)))), (us, (rawptr_vals (block_ptr b o), (uint_vals w64 4096, (uint_vals w64 16, tt))))), cells_ty) in
    -- what the call requires, then its arguments, then the token
    fjoin ! $ use0 𝓛 (raw (fact 𝓤 (HasLayout cells_ty 4096 16))) (fact_i 𝓤 (HasLayout cells_ty 4096 16) (emp 𝓤) (refl, refl)) $ join ! $
    nothing ! $ owned ! usize _ (uint_Makes 𝓛 w64) 16 (uint_vals w64 16) (refl, lit< tt) $ join ! $
    owned ! usize _ (uint_Makes 𝓛 w64) 4096 (uint_vals w64 4096) (refl, lit< tt) $ join ! $
    owned ! RawPtr _ (rawptr_Makes 𝓛) (block_ptr b o) (rawptr_vals (block_ptr b o)) refl $ join ! $ move ! (2 ∷ 0 ∷ []) $ join ! $
    nothing ! $ move ! (3 ∷ 0 ∷ []) $ join ! $ join ! $ join ! $ use1 𝓛 (raw (G.pre z)) (id⊢ 𝓤 _) $
    calls_at_last ! (framed 𝓤 𝓛.H 𝓜 𝓣) G (met 𝓤 𝓛 𝓜 𝓡 (code.calls-std_heap::GlobalAllocator::deallocate 𝓡.env wired)) z
    (and_then ! (get ! refl) (and_then ! (get ! refl) (and_then ! (big_lit ! (record { fits = lit< tt })) (and_then ! (lit ! tt) (no_more !))))) (λ v.
    use1 𝓛 (later (some (λ (r : Unit {0}). ((‵ (flft κ qs.0) ⊛ ‵ ftrue) ⊛ ‵ (unit.own_val r (v ∷ []))) ⊛ some (λ (ws : Unit {0} × (Unit {0} × (Unit {0} × (Unit {0} × Unit {0})))). ‵ (lasts g.ended κs z.0.3 ws) ⊛ ‵ ftrue)))) (id⊢ 𝓤 _) $
    await ! tt $ pick ! (λ r. split ! $ split ! $ split ! $ move ! (2 ∷ []) $ feq_l ! (λ is_unit.
    lands_last ! refl (subst (λ (w : Val). T (has_ty ty_unit w) × WT w) (sym (ap only is_unit)) (tt, tt)) $
    exec ! 𝓣.C 𝓣.Λ (env code.Mir.locals l) (after 2 (code.function).body) (at_ret _ (W.post y)) $
    sets ! (of_opd ! (unit_lit !)) refl (tt, tt) $
    returns ! (look_at ! 0 refl) $ free_all ! refl $ keep ! (0 ∷ []) $
    suffices ! _ (ends_at 𝓛 f.ended stayed c y vunit tt (tt, (tt, tt)) (tt, (tt, tt))) $
    nothing ! $ move ! (1 ∷ 0 ∷ []) $ join ! $ feq_i ! _ (vunit ∷ []) _ refl $ nothing ! $ nothing ! $ join ! $ nothing ! $ join ! $ join ! $ move ! (1 ∷ 0 ∷ []) $ join ! $
    nothing ! $ move ! (1 ∷ 0 ∷ []) $ done !))))))
