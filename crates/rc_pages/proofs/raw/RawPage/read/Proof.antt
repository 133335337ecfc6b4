-- `read` reads the pointer through the `&`, and then one cell of what the `&` lends.
use Rattle.rc_pages.proofs.Walks.{ℕ, ◌+◌, ◌*◌, ◌<◌, ◌^◌, List, [], ◌∷◌, length, get_or, refl, arith, w64, w128, proved, after, ftrue, fat, flft, ty_int, named, vint, fact, tables, ‵, raw, ◌⊛◌, at_ret, ◌$◌, ◌∵◌, !, qed, done, move, keep, drop, use1, use2, split, join, fsplit, feq_l, suffices, frame, enter, of_opd, lit, bin, load, look, stop, fld, first, blocks, exec, returns, well_typed, alloc_all, pass_all, free_all, look_at, get, through, sets, sets_last, env, u128, usize, yes, hidden_shr, uint_vals, uint_Tells, uint_Makes, ShrRef, shr_vals, shr_Tells, plain, nothing, owned, heard, Stays, walk_of, says, stay_dropped, Goes-dropped, ends_at}
use seplogic.Ra.Ura.{Ura}
use base.Fml.{Lft, fhide}
use base.Logic.{ent, sep, id⊢}
use types.Logic.{Logic, sem}
use denote.Builtin.{RefOf}
use denote.Copied.{uint_Copied}
use denote.Index.{row, looks_slice, shuts_slice}
use denote.Opens.{shr_dup, unhide, hide}
use denote.RattleType.{RattleType, RowLaws}
use denote.RawPtr.{Ptr, RawPtr, ptr_row_laws, block_of, count_of, InBlock}
use denote.Struct.Lending.{lent_at, in_block_says, lent_out}
use denote.Struct.Owning.{shape}
use denote.Struct.Struct.{Struct, Struct-row_laws}
use Rattle.std.proofs.Words.{pointer_in, pointer_out}
use Rattle.rc_pages.specs.Memory.{page_cells, page_lends}
use Rattle.rc_pages.proofs.PageMemory.{besides, cell_out, cell_back}
use Rattle.rc_pages.specs.contracts.raw.RawPage.read as f
use Rattle.rc_pages.proofs.raw.RawPage.read.Statement.{statement}
use Rattle.rc_pages.proofs.raw.RawPage.read.Code as code
use Rattle.rc_pages.specs.contracts.raw.RawPage as C

abbrev R : RattleType
R = C.the_row

abbrev stayed : Stays f.ended.signature.params f.ended.kept
stayed = (stay_dropped _ yes, (stay_dropped _ yes, tt))

-- the one field, the pointer
abbrev Words : RattleType
Words = Struct (shape C.the_type)

words_laws : RowLaws Words
words_laws = Struct-row_laws (shape C.the_type) (ptr_row_laws, tt)

module _ {M : Type 1} {𝓤 : Ura M} (𝓛 : Logic 𝓤) (κ : Lft) where
  shows_pointer : (at : Ptr) (b o : ℕ) → ent 𝓤 (sem 𝓛 (hidden_shr Words κ (at, tt) b o)) (sep 𝓤 (sem 𝓛 (hidden_shr RawPtr κ at b (o + 0))) (sem 𝓛 (hidden_shr Words κ (at, tt) b o)))
  shows_pointer at b o = qed 𝓛 (‵ (hidden_shr Words κ (at, tt) b o) ∷ []) {P = sep 𝓤 (sem 𝓛 (hidden_shr RawPtr κ at b (o + 0))) (sem 𝓛 (hidden_shr Words κ (at, tt) b o))} (
      shr_dup ! Words words_laws (at, tt) b o κ $ unhide ! $ fsplit ! $ fsplit ! $ hide ! $ keep ! (0 ∷ 3 ∷ []) $ done !)

  shows_cells : (p : Ptr) (xs : List ℕ) → 0 < length xs → ent 𝓤 (sem 𝓛 (page_lends p xs κ)) (sem 𝓛 (lent_at page_cells p xs κ))
  shows_cells p [] filled = absurd (omega arith)
  shows_cells p (x ∷ xs) filled = id⊢ 𝓤 _

pub read_spec : {M : Type 1} → statement M
read_spec 𝓤 𝓛 𝓜 𝓡 wired =
    let c = f.clauses 𝓛 𝓜.mem 𝓡.returns in let W = walk_of 𝓛 f.ended stayed c in let 𝓣 = tables 𝓤 𝓛.H 𝓜 𝓡 𝓡.env in
    proved 𝓛 f.ended stayed c 𝓜 𝓡
    (Goes-dropped 𝓛 1 (RefOf (0 ∷ []) tt (plain (λ _. R)) (λ _. tt)) yes (λ κs x w. refl), (Goes-dropped 𝓛 1 (plain (λ _. usize)) yes (λ κs x w. refl), tt))
    f.Key.name code.function (code.unfolded 𝓤 𝓛.H 𝓜 𝓡 wired)
    (λ κs. (shr_vals, (uint_vals w64, tt))) (λ κs. (shr_Tells (named 0) κs.0 R, (uint_Tells w64, tt))) (λ κs qs bounds a _ are.
    let κ = κs.0 in let b = a.0.ref_ptr.0 in let o = a.0.ref_ptr.1 in let p = a.0.now in let i = a.1.0 in let xs = p.cells in
    let b' = block_of p.at in let o' = count_of p.at in let x = get_or xs i 0 in
    let y : W.Ghost = ((κs, qs, bounds, a, (shr_vals a.0, (uint_vals w64 i, tt))), tt) in
    qed 𝓛 (((‵ (flft κ qs.0) ⊛ ‵ ftrue) ⊛ ‵ ((ShrRef (named 0) κ R).own_val a.0 (shr_vals a.0)) ⊛ ‵ (usize.own_val i (uint_vals w64 i)) ⊛ ‵ ftrue) ∷ raw (fact 𝓤 (i < length xs)) ∷ []) ∵
    move ! (1 ∷ []) $ heard ! _ (λ inside.
    split ! $ split ! $ move ! (2 ∷ []) $ split ! $ keep ! (0 ∷ 2 ∷ []) $
    enter ! _ _ _ _ _ $ alloc_all ! (λ l. pass_all ! refl ((tt, tt), ((tt, record { fits = are.1.0.1 }), tt)) $
    fsplit ! $ drop ! $
    use1 𝓛 (‵ (hidden_shr Words κ (p.at, tt) b o) ⊛ ‵ (fhide (page_lends p.at xs κ))) (lent_out 𝓛 C.struct C.the_codes C.the_heap C.the_lent κ p b o) $ split ! $
    move ! (1 ∷ []) $ unhide ! $ use1 𝓛 (‵ (lent_at page_cells p.at xs κ)) (shows_cells 𝓛 κ p.at xs (omega (arith, inside))) $ fsplit ! $
    use1 𝓛 (raw (fact 𝓤 (InBlock p.at))) (in_block_says 𝓛 p.at) $ heard ! _ (λ in_block. fsplit ! $ feq_l ! (λ full. hide ! $
    let offset : i * 16 < 2 ^ 64 = omega (arith, inside, full) in
    -- [what is lent of the cells; what is lent of the pointer; the token]
    move ! (1 ∷ 2 ∷ []) $ first ! $ blocks ! $
    pointer_in ! tt p.at in_block b (o + 0) (shows_pointer 𝓛 κ p.at b o) (λ q.
    sets ! (of_opd ! (load ! (through ! refl (fld ! refl (stop !))) (look ! 1 refl))) refl (tt, tt) $ pointer_out ! tt p.at in_block b (o + 0) $
    sets ! (bin ! (get ! refl) (lit ! tt) (record { fits = offset })) refl (tt, record { fits = offset }) $
    sets ! (bin ! (get ! refl) (get ! refl) tt) refl (tt, tt) $
    move ! (2 ∷ 0 ∷ []) $ looks_slice ! tt u128 (uint_Copied 𝓛 w128) xs b' o' (λ q'.
    use1 𝓛 (‵ (fat q' (ty_int w128) b' (i * 16 + o') (vint w128 x)) ⊛ ‵ (besides 𝓛 b' o' xs i inside q')) (cell_out 𝓛 b' o' xs i inside q') $ split ! $ well_typed ! (λ good.
    sets_last ! (of_opd ! (load ! (through ! refl (stop !)) (look ! 0 refl))) refl good $
    use2 𝓛 (‵ (row u128 q' xs b' o')) (cell_back 𝓛 b' o' xs i inside q') $
    exec ! 𝓣.C 𝓣.Λ (env code.Mir.locals l) (after 1 (code.function).body) (at_ret _ (W.post y)) $ shuts_slice ! tt u128 q' xs b' o' $
    sets ! (of_opd ! (get ! refl)) refl good $
    returns ! (look_at ! 0 refl) $ free_all ! refl $ keep ! (0 ∷ []) $
    suffices ! _ (ends_at 𝓛 f.ended stayed c y (vint w128 x) x (tt, (tt, tt)) (tt, (tt, tt))) $ says ! refl $
    nothing ! $ move ! (1 ∷ 0 ∷ []) $ join ! $ frame ! $ owned ! u128 _ (uint_Makes 𝓛 w128) x _ (refl, good.1.fits) $
    nothing ! $ nothing ! $ join ! $ nothing ! $ join ! $ done !))))))))
