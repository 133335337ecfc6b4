-- `take` asks the heap for room, and makes a page of it.
use Rattle.rc_pages.proofs.Walks.{◌≡◌, ℕ, List, [], ◌∷◌, ◌++◌, refl, ap, ◌∙◌, lit<, w64, proved, after, head, arm_body, emp, id⊢, ftrue, froom, flft, named, Val, vptr, vstruct, vcons, vnil, of_list, Env, fact, tables, ‵, raw, ◌⊛◌, some, later, at_ret, any_q, ◌$◌, ◌∵◌, !, qed, done, move, keep, drop, use0, use1, split, join, fsplit, fjoin, feq_i, feq_l, pick, await, suffices, frame, whole, agg, enter, of_opd, lit, stop, fld, no_more, and_then, first, exec, returns, alloc_all, pass_all, free_all, look_at, get, get_in, sets, sets_last, env, usize, yes, Is, uint_Makes, uint_vals, Ptr, RawPtr, block_ptr, null_ptr, in_a_block, ShrRef, shr_vals, shr_Tells, plain, nothing, owned, Stays, walk_of, says, stay_dropped, Goes-dropped, ends_at}
use seplogic.Ra.Ura.{Ura}
use base.Logic.{fst∗, never}
use base.Fml.{Fml, fsep}
use contract.Monad.{fact_i}
use prog.Wp.{Wp, after_seq, at_return}
use types.Kit.{Goal, Seq, Item, Post as After, fpick, fpack}
use types.Logic.{Logic, sem}
use types.Match.{live, vrt, in_variant}
use types.Run.{switches_on}
use types.ByLocal.{get_tag, lands_as}
use denote.Builtin.{RefOf}
use denote.RattleType.{RattleType, Valss}
use denote.RawPtr.{ptr_val, room_for}
use denote.Steps.{only}
use denote.Struct.Struct.{Struct, Struct-Makes, within}
use denote.Struct.Owning.{shape}
use denote.Struct.Declared as Declared
use denote.Triple.Call.{calls_at}
use denote.Triple.Clauses.{lasts}
use denote.Triple.Spec.{triple_of}
use denote.Triple.Table.{framed}
use Rattle.std.specs.Prelude.{Ok, Err}
use Rattle.std.specs.Allocator.{HasLayout, block_if_ok}
use Rattle.std.proofs.alloc.Calls.{Answer}
use Rattle.std.proofs.ResultValues.{ok_of, err_of}
use Rattle.std.specs.contracts.alloc.Global as heap
use Rattle.std.specs.contracts.impls.GlobalAllocator.TheImpl.{ghosts}
use Rattle.std.specs.contracts.impls.GlobalAllocator.allocate as g
use Rattle.std.proofs.impls.GlobalAllocator.allocate.Met.{met}
use Rattle.rc_base.specs.contracts.outside.NoMemory as NM
use Rattle.rc_pages.specs.Memory.{page_deed}
use Rattle.rc_pages.proofs.BigLiteral.{big_lit}
use Rattle.rc_pages.proofs.PageMemory.{cells_ty}
use Rattle.rc_pages.specs.contracts.raw.RawPage.take as f
use Rattle.rc_pages.proofs.raw.RawPage.take.Statement.{statement}
use Rattle.rc_pages.proofs.raw.RawPage.take.Code as code
use Rattle.rc_pages.specs.contracts.raw.RawPage as C

abbrev R : RattleType
R = C.the_row

abbrev Words : RattleType
Words = Struct (shape C.the_type)

abbrev Out : RattleType
Out = f.signature.result.row ([], tt)

abbrev Refusal : RattleType
Refusal = Struct (Declared.shape NM.the_type)

abbrev stayed : Stays f.ended.signature.params f.ended.kept
stayed = (stay_dropped _ yes, tt)

-- the machine values of a page, and of the two answers
abbrev page_val : ℕ → ℕ → Val
page_val b o = vstruct (vcons (vptr b o) vnil)

abbrev block_val : ℕ → ℕ → Val
block_val b o = live 0 (of_list (vptr b o ∷ []))

abbrev refused_val : Val
refused_val = live 1 (of_list (vstruct vnil ∷ []))

abbrev deed : heap.the_row.Denot → Ptr → Fml
deed handle = ghosts.dealloc_token handle cells_ty

module _ {M : Type 1} {𝓤 : Ura M} {𝓛 : Logic 𝓤} {K : Type 0} {Γ : List (Item 𝓤)} {G : Goal 𝓤 𝓛.H} where
  -- what the heap answered: room with its deed, or nothing
  answers : K → (handle : heap.the_row.Denot) (v : Val) (r : Answer.Denot)
      → ((b o : ℕ) → v ≡ block_val b o → Seq K 𝓛 (‵ (froom cells_ty b o) ∷ ‵ (page_deed (block_ptr b o)) ∷ Γ) G) → (v ≡ refused_val → Seq K 𝓛 Γ G)
      → Seq K 𝓛 (‵ (Answer.own_val r (v ∷ [])) ∷ ‵ (block_if_ok (ghosts.dealloc_token handle) cells_ty r) ∷ Γ) G
  answers t handle v (Ok p) given_room refused =
      fpick t (λ us. fsplit t $ feq_l t (λ e. fpick t (λ vss. fsplit t $ feq_l t (λ e'. fsplit t $ feq_l t (λ e''. drop t $
      in_a_block t p (λ z. fsep (room_for cells_ty z) (deed handle z)) (fst∗ 𝓤 (never 𝓤) (sem 𝓛 (deed handle null_ptr))) (λ b o at. fsplit t $
      given_room b o (ap only e ∙ ap (λ (ws : List Val). live 0 (of_list ws)) (e' ∙ ap (λ (ws : List Val). ws ++ []) (e'' ∙ ap (λ (z : Ptr). ptr_val z ∷ []) at)))))))))
  answers t handle v (Err n) given_room refused =
      fpick t (λ us. fsplit t $ feq_l t (λ e. fpick t (λ vss. fsplit t $ feq_l t (λ e'. fsplit t $ fpick t (λ none. fsplit t $ feq_l t (λ e''. drop t $ drop t $ drop t $
      refused (ap only e ∙ ap (λ (ws : List Val). live 1 (of_list ws)) (e' ∙ ap (λ (ws : List Val). ws ++ []) e''))))))))

pub take_spec : {M : Type 1} → statement M
take_spec 𝓤 𝓛 𝓜 𝓡 wired =
    let c = f.clauses 𝓛 𝓜.mem 𝓡.returns in let W = walk_of 𝓛 f.ended stayed c in let 𝓣 = tables 𝓤 𝓛.H 𝓜 𝓡 𝓡.env in
    proved 𝓛 f.ended stayed c 𝓜 𝓡
    (Goes-dropped 𝓛 1 (RefOf (0 ∷ []) tt (plain (λ _. heap.the_row)) (λ _. tt)) yes (λ κs x w. refl), tt)
    f.Key.name code.function (code.unfolded 𝓤 𝓛.H 𝓜 𝓡 wired)
    (λ κs. (shr_vals, tt)) (λ κs. (shr_Tells (named 0) κs.0 heap.the_row, tt)) (λ κs qs bounds a _ are.
    let κ = κs.0 in let handle = a.0 in let us = shr_vals handle in
    let y : W.Ghost = ((κs, qs, bounds, a, (us, tt)), tt) in
    let G = triple_of 𝓛 g.signature (g.spec 𝓛 𝓜.mem 𝓡.returns) in
    qed 𝓛 (((‵ (flft κ qs.0) ⊛ ‵ ftrue) ⊛ ‵ ((ShrRef (named 0) κ heap.the_row).own_val handle us) ⊛ ‵ ftrue) ∷ ‵ ftrue ∷ []) ∵
    split ! $ split ! $ move ! (2 ∷ []) $ split ! $ keep ! (0 ∷ 2 ∷ []) $
    enter ! _ _ _ _ _ $ alloc_all ! (λ l. pass_all ! refl ((tt, tt), tt) $
    let En : Env 𝓤 𝓛.H = env code.Mir.locals l in let Post = W.post y in
    let Then : After 𝓤 𝓛.H = any_q (after_seq 𝓤 𝓛.H (Wp 𝓤 𝓛.H 𝓣.C 𝓣.Λ En (after 2 (code.function).body) (at_return 𝓤 𝓛.H En Post)) (at_return 𝓤 𝓛.H En Post)) in
    let z : G.Ghost = ((κs, qs, tt, (handle, (4096, (16, tt))), (us, (uint_vals w64 4096, (uint_vals w64 16, tt)))), cells_ty) in
    -- what the call requires, then its arguments, then the token
    use0 𝓛 (raw (fact 𝓤 (HasLayout cells_ty 4096 16))) (fact_i 𝓤 (HasLayout cells_ty 4096 16) (emp 𝓤) (refl, refl)) $
    nothing ! $ owned ! usize _ (uint_Makes 𝓛 w64) 16 (uint_vals w64 16) (refl, lit< tt) $ join ! $
    owned ! usize _ (uint_Makes 𝓛 w64) 4096 (uint_vals w64 4096) (refl, lit< tt) $ join ! $ move ! (2 ∷ 0 ∷ []) $ join ! $
    nothing ! $ move ! (3 ∷ 0 ∷ []) $ join ! $ join ! $ join ! $ use1 𝓛 (raw (G.pre z)) (id⊢ 𝓤 _) $
    calls_at ! (framed 𝓤 𝓛.H 𝓜 𝓣) G (met 𝓤 𝓛 𝓜 𝓡 (code.calls-std_heap::GlobalAllocator::allocate 𝓡.env wired)) z
    (and_then ! (get ! refl) (and_then ! (big_lit ! (record { fits = lit< tt })) (and_then ! (lit ! tt) (no_more !)))) (λ v.
    use1 𝓛 (later (some (λ (r : Answer.Denot). ((‵ (flft κ qs.0) ⊛ ‵ ftrue) ⊛ ‵ (Answer.own_val r (v ∷ []))) ⊛ some (λ (ws : Unit {0} × (Unit {0} × (Unit {0} × Unit {0}))). ‵ (lasts g.ended κs z.0.3 ws) ⊛ ‵ (block_if_ok (ghosts.dealloc_token handle.now) cells_ty r))))) (id⊢ 𝓤 _) $
    await ! tt $ pick ! (λ r. split ! $ split ! $ move ! (2 ∷ []) $ pick ! (λ ws. split ! $ drop ! $ move ! (2 ∷ 0 ∷ []) $
    answers ! handle.now v r
    (λ b o e.
    let page : R.Denot = record { at = block_ptr b o; cells = [] } in let made : Val = live 0 (of_list (page_val b o ∷ [])) in
    lands_as ! e refl (tt, (record { fits = lit< tt }, (tt, tt))) $
    first ! $ switches_on ! (get_tag ! (vrt ! refl (fld ! refl (stop !))) (whole !)) $ exec ! 𝓣.C 𝓣.Λ En (arm_body 0 (head (after 1 (code.function).body))) Then $
    sets ! (of_opd ! (get_in ! (vrt ! refl (fld ! refl (stop !))) (in_variant ! 0 0 refl refl (whole !)))) refl (tt, tt) $
    sets ! (of_opd ! (get ! refl)) refl (tt, tt) $
    sets ! (agg ! (and_then ! (get ! refl) (no_more !))) refl (tt, (tt, tt)) $
    sets_last ! (agg ! (and_then ! (lit ! tt) (and_then ! (get ! refl) (no_more !)))) refl (tt, (record { fits = lit< tt }, ((tt, tt), tt))) $
    exec ! 𝓣.C 𝓣.Λ En (after 2 (code.function).body) (at_ret En Post) $ sets ! (of_opd ! (get ! refl)) refl (tt, (record { fits = lit< tt }, ((tt, tt), tt))) $
    fjoin ! $ nothing ! $ feq_i ! (List Val) (vptr b o ∷ []) (vptr b o ∷ []) refl $ fjoin ! $ feq_i ! (List Val) (page_val b o ∷ []) (page_val b o ∷ []) refl $ fjoin ! $
    fpack ! (Valss (RawPtr ∷ [])) (within (shape C.the_type) (block_ptr b o, tt) (page_val b o ∷ [])) (vptr b o ∷ [], tt) $ fjoin ! $
    use1 𝓛 (‵ (Out.own_val (Ok page) (made ∷ []))) (ok_of 𝓛 R NM.the_row page (page_val b o)) $
    returns ! (look_at ! 0 refl) $ free_all ! refl $ keep ! (1 ∷ 0 ∷ []) $
    suffices ! _ (ends_at 𝓛 f.ended stayed c y made (Ok page) (tt, tt) (tt, tt)) $ says ! refl $ frame ! $ nothing ! $ nothing ! $ join ! $ done !)
    (λ e.
    lands_as ! e refl (tt, (record { fits = lit< tt }, (tt, tt))) $
    first ! $ switches_on ! (get_tag ! (vrt ! refl (fld ! refl (stop !))) (whole !)) $ exec ! 𝓣.C 𝓣.Λ En (arm_body 1 (head (after 1 (code.function).body))) Then $
    sets ! (agg ! (no_more !)) refl (tt, tt) $
    sets_last ! (agg ! (and_then ! (lit ! tt) (and_then ! (get ! refl) (no_more !)))) refl (tt, (record { fits = lit< tt }, (tt, tt))) $
    exec ! 𝓣.C 𝓣.Λ En (after 2 (code.function).body) (at_ret En Post) $ sets ! (of_opd ! (get ! refl)) refl (tt, (record { fits = lit< tt }, (tt, tt))) $
    owned ! Refusal (Is Refusal) (Struct-Makes 𝓛 (Declared.shape NM.the_type) tt) tt (vstruct vnil ∷ []) (tt, (refl, tt)) $
    use1 𝓛 (‵ (Out.own_val (Err (record {})) (refused_val ∷ []))) (err_of 𝓛 R NM.the_row (record {}) (vstruct vnil)) $
    returns ! (look_at ! 0 refl) $ free_all ! refl $ keep ! (1 ∷ 0 ∷ []) $
    suffices ! _ (ends_at 𝓛 f.ended stayed c y refused_val (Err (record {})) (tt, tt) (tt, tt)) $ says ! tt $ frame ! $ nothing ! $ nothing ! $ join ! $ done !))))))
