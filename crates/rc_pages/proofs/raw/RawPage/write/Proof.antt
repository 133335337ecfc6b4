-- `write` takes one cell out of the page, writes it, and puts it back.
use Rattle.rc_pages.proofs.Walks.{ℕ, ◌+◌, ◌*◌, ◌<◌, ◌^◌, List, [], ◌∷◌, length, get_or, set, refl, sym, ap, ◌∙◌, arith, w64, w128, proved, after, full_share, ftrue, fat, flft, ty_int, named, Val, vint, vunit, fact, tables, ‵, raw, ◌⊛◌, at_ret, ◌$◌, ◌∵◌, !, qed, done, move, keep, use1, use2, split, join, fsplit, fsplit3, fjoin, feq_i, feq_l, rewrite, suffices, frame, group, whole, sub, enter, of_opd, lit, unit_lit, bin, load, store, stop, fld, assigns_last, first, blocks, exec, returns, alloc_all, pass_all, free_all, look_at, get, through, sets, env, u128, usize, yes, shows, cell_at, uint_vals, uint_Tells, Ptr, block_ptr, in_a_block, MutRef, mut_vals, mut_Tells, plain, nothing, opens, closes, heard, peeks, Stays, walk_of, says, stay_dropped, Goes-dropped, stay_ref, Goes-ref, ends_at}
use base.Fml.{feq}
use types.Part.{look_in}
use denote.Index.{row}
use Rattle.std.proofs.Common.{length-set}
use Rattle.rc_pages.specs.Memory.{page_owns, page_memory}
use Rattle.rc_pages.proofs.PageMemory.{not_null, as_row, of_row, besides, cell_out, cell_in}
use Rattle.rc_pages.specs.contracts.raw.RawPage.write as f
use Rattle.rc_pages.proofs.raw.RawPage.write.Statement.{statement}
use Rattle.rc_pages.proofs.raw.RawPage.write.Code as code
use Rattle.rc_pages.specs.contracts.raw.RawPage.{the_row as R}
use Rattle.rc_pages.proofs.raw.RawPage.TheLaws.{lowers}

abbrev stayed : Stays f.ended.signature.params f.ended.kept
stayed = (stay_ref (0 ∷ []) tt (plain (λ _. R)), (stay_dropped _ yes, (stay_dropped _ yes, tt)))

pub write_spec : {M : Type 1} → statement M
write_spec 𝓤 𝓛 𝓜 𝓡 wired =
    let c = f.clauses 𝓛 𝓜.mem 𝓡.returns in let W = walk_of 𝓛 f.ended stayed c in let 𝓣 = tables 𝓤 𝓛.H 𝓜 𝓡 𝓡.env in
    proved 𝓛 f.ended stayed c 𝓜 𝓡
    (Goes-ref 𝓛 1 0 tt (plain (λ _. R)), (Goes-dropped 𝓛 1 (plain (λ _. usize)) yes (λ κs x w. refl), (Goes-dropped 𝓛 1 (plain (λ _. u128)) yes (λ κs x w. refl), tt)))
    f.Key.name code.function (code.unfolded 𝓤 𝓛.H 𝓜 𝓡 wired)
    (λ κs. (mut_vals, (uint_vals w64, (uint_vals w128, tt)))) (λ κs. (mut_Tells (named 0) κs.0 R, (uint_Tells w64, (uint_Tells w128, tt)))) (λ κs qs bounds a _ are.
    let b = a.0.ref_ptr.0 in let o = a.0.ref_ptr.1 in let p = a.0.now in let vs = mut_vals a.0 in
    let i = a.1.0 in let x = a.1.1.0 in let xs = p.cells in let ys = set xs i x in
    let y : W.Ghost = ((κs, qs, bounds, a, (vs, (uint_vals w64 i, (uint_vals w128 x, tt)))), tt) in
    qed 𝓛 (((‵ (flft κs.0 qs.0) ⊛ ‵ ftrue) ⊛ ‵ ((MutRef (named 0) κs.0 R).own_val a.0 vs) ⊛ ‵ (usize.own_val i (uint_vals w64 i)) ⊛ ‵ (u128.own_val x (uint_vals w128 x)) ⊛ ‵ ftrue)
    ∷ raw (fact 𝓤 (i < length xs)) ∷ []) ∵ move ! (1 ∷ []) $ heard ! _ (λ inside.
    split ! $ split ! $ move ! (2 ∷ []) $ split ! $ keep ! (0 ∷ 2 ∷ []) $
    enter ! _ _ _ _ _ $ alloc_all ! (λ l. pass_all ! refl ((tt, tt), ((tt, record { fits = are.1.0.1 }), ((tt, record { fits = are.1.1.0.1 }), tt))) $
    fsplit3 ! $ move ! (1 ∷ 2 ∷ 3 ∷ []) $ opens ! tt R b o (λ us.
    move ! (1 ∷ []) $ peeks ! R _ (shows 𝓛 R) p us (λ is. fsplit ! $ move ! (1 ∷ []) $
    in_a_block ! p.at (λ at. page_owns at xs) (not_null 𝓛 xs) (λ b' o' e. fsplit ! $
    use1 𝓛 (‵ (feq ℕ (length xs) 256) ⊛ ‵ (row u128 full_share xs b' o')) (as_row 𝓛 b' o' xs (omega (arith, inside))) $ split ! $ feq_l ! (λ full.
    let offset : i * 16 < 2 ^ 64 = omega (arith, inside, full) in
    use1 𝓛 (‵ (fat full_share (ty_int w128) b' (i * 16 + o') (vint w128 (get_or xs i 0))) ⊛ ‵ (besides 𝓛 b' o' xs i inside full_share)) (cell_out 𝓛 b' o' xs i inside full_share) $ split ! $
    let word = lowers.val_is p us is ∙ ap (λ (at : Ptr). lowers.lowered (record p { at = at }) ∷ []) e in
    let Cell = λ (ws : List Val). ‵ (cell_at full_share R.mir ws b o) in
    rewrite ! 4 Cell word refl $
    -- [the cell; the others; the deed; what the fields own; the struct's cell; the open borrow, in three entries]
    first ! $ blocks ! $
    sets ! (of_opd ! (load ! (through ! refl (fld ! refl (stop !))) (look_in ! 4 (sub ! 0 refl (whole !))))) refl (tt, tt) $
    sets ! (bin ! (get ! refl) (lit ! tt) (record { fits = offset })) refl (tt, record { fits = offset }) $
    sets ! (bin ! (get ! refl) (get ! refl) tt) refl (tt, tt) $
    assigns_last ! (of_opd ! (get ! refl)) (through ! refl (stop !)) (store ! 0 refl (tt, record { fits = are.1.1.0.1 })) $
    exec ! 𝓣.C 𝓣.Λ (env code.Mir.locals l) (after 1 (code.function).body) (at_ret _ (W.post y)) $
    sets ! (of_opd ! (unit_lit !)) refl (tt, tt) $
    use2 𝓛 (‵ (row u128 full_share ys b' o')) (cell_in 𝓛 b' o' xs i inside x) $
    use1 𝓛 (‵ (page_memory (block_ptr b' o') ys)) (of_row 𝓛 b' o' ys (length-set xs i x ∙ full)) $ fjoin ! $
    rewrite ! 0 (λ (at : Ptr). ‵ (page_owns at ys)) (sym e) refl $ rewrite ! 2 Cell (sym word) refl $
    move ! (1 ∷ []) $ fjoin ! $ move ! (1 ∷ []) $ closes ! tt R (record p { cells = ys }) us b o $
    -- [two parts of self; the token; self's first part]
    returns ! (look_at ! 0 refl) $ free_all ! refl $ move ! (3 ∷ []) $
    suffices ! _ (ends_at 𝓛 f.ended stayed c y vunit tt (record p { cells = ys }, (tt, (tt, tt))) (tt, (tt, (tt, tt)))) $ says ! refl $
    group ! 3 $ nothing ! $ nothing ! $ join ! $ nothing ! $ join ! $ move ! (1 ∷ 0 ∷ []) $ join ! $ nothing ! $ move ! (2 ∷ 0 ∷ []) $ join ! $ frame ! $ frame ! $
    feq_i ! _ (vunit ∷ []) _ refl $ done !)))))))
