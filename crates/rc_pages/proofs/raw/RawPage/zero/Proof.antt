-- `zero` forgets what lies in the page, and writes 256 zeros at once.
use Rattle.rc_pages.proofs.Walks.{ℕ, List, [], ◌∷◌, replicate, refl, sym, ap, ◌∙◌, lit<, w128, proved, after, full_share, ftrue, froom, flft, named, Val, vint, vunit, tables, ‵, ◌⊛◌, at_ret, ◌$◌, ◌∵◌, !, qed, done, move, keep, use1, use2, split, join, fsplit, fsplit3, fjoin, feq_i, rewrite, suffices, frame, group, whole, sub, rep, enter, of_opd, lit, unit_lit, init, stop, fld, assigns_last, first, blocks, exec, returns, alloc_all, pass_all, free_all, look_at, get, through, sets, env, array_val, Array-Lawful, Array-repeat, u128, shows, cell_at, part_at, uint_Makes, uint_copy, uint_Lawful, Ptr, block_ptr, in_a_block, MutRef, mut_vals, mut_Tells, plain, nothing, owned, opens, closes, peeks, Stays, walk_of, says, stay_ref, Goes-ref, ends_at}
use types.Part.{look_in}
use types.Run.{load}
use borrow.Table.OneValue.{part_in}
use Rattle.rc_pages.specs.Memory.{page_cells, page_memory, page_owns}
use Rattle.rc_pages.proofs.PageMemory.{cells_ty, not_null, as_room, as_memory}
use Rattle.rc_pages.specs.contracts.raw.RawPage.zero as f
use Rattle.rc_pages.proofs.raw.RawPage.zero.Statement.{statement}
use Rattle.rc_pages.proofs.raw.RawPage.zero.Code as code
use Rattle.rc_pages.specs.contracts.raw.RawPage.{the_row as R}
use Rattle.rc_pages.proofs.raw.RawPage.TheLaws.{lowers}

abbrev stayed : Stays f.ended.signature.params f.ended.kept
stayed = (stay_ref (0 ∷ []) tt (plain (λ _. R)), tt)

abbrev zeros : List ℕ
zeros = replicate 256 0

abbrev written : Val
written = array_val (replicate 256 (vint w128 0))

pub zero_spec : {M : Type 1} → statement M
zero_spec 𝓤 𝓛 𝓜 𝓡 wired =
    let c = f.clauses 𝓛 𝓜.mem 𝓡.returns in let W = walk_of 𝓛 f.ended stayed c in let 𝓣 = tables 𝓤 𝓛.H 𝓜 𝓡 𝓡.env in
    proved 𝓛 f.ended stayed c 𝓜 𝓡 (Goes-ref 𝓛 1 0 tt (plain (λ _. R)), tt)
    f.Key.name code.function (code.unfolded 𝓤 𝓛.H 𝓜 𝓡 wired)
    (λ κs. (mut_vals, tt)) (λ κs. (mut_Tells (named 0) κs.0 R, tt)) (λ κs qs bounds a _ are.
    let b = a.0.ref_ptr.0 in let o = a.0.ref_ptr.1 in let p = a.0.now in let vs = mut_vals a.0 in
    let y : W.Ghost = ((κs, qs, bounds, a, (vs, tt)), tt) in
    qed 𝓛 (((‵ (flft κs.0 qs.0) ⊛ ‵ ftrue) ⊛ ‵ ((MutRef (named 0) κs.0 R).own_val a.0 vs) ⊛ ‵ ftrue) ∷ ‵ ftrue ∷ []) ∵
    split ! $ split ! $ move ! (2 ∷ []) $ split ! $ keep ! (0 ∷ 2 ∷ []) $
    enter ! _ _ _ _ _ $ alloc_all ! (λ l. pass_all ! refl ((tt, tt), tt) $
    fsplit3 ! $ move ! (1 ∷ 2 ∷ 3 ∷ []) $ opens ! tt R b o (λ us.
    move ! (1 ∷ []) $ peeks ! R _ (shows 𝓛 R) p us (λ is. fsplit ! $ move ! (1 ∷ []) $
    in_a_block ! p.at (λ at. page_owns at p.cells) (not_null 𝓛 p.cells) (λ b' o' e. fsplit ! $
    use1 𝓛 (‵ (froom cells_ty b' o')) (as_room 𝓛 b' o' p.cells) $
    owned ! u128 _ (uint_Makes 𝓛 w128) 0 (vint w128 0 ∷ []) (refl, lit< tt) $
    use1 𝓛 (‵ (page_cells.own_val zeros (written ∷ []))) (Array-repeat 𝓛 u128 (uint_copy 𝓛 w128) 256 0 (vint w128 0)) $
    peeks ! page_cells _ (shows 𝓛 page_cells) zeros (written ∷ []) (λ zeroed.
    let good = ((Array-Lawful 𝓛 u128 (uint_Lawful 𝓛 w128) 256).typed zeros (written ∷ []) zeroed).0 in
    let word = lowers.val_is p us is ∙ ap (λ (at : Ptr). lowers.lowered (record p { at = at }) ∷ []) e in
    let Cell = λ (ws : List Val). ‵ (cell_at full_share R.mir ws b o) in
    rewrite ! 4 Cell word refl $
    -- [what the zeros own; the room; the deed; what the fields own; the struct's cell; the open borrow, in three entries]
    first ! $ blocks ! $
    sets ! (rep ! 256 (lit ! tt)) refl good $
    sets ! (of_opd ! (load ! (through ! refl (fld ! refl (stop !))) (look_in ! 4 (sub ! 0 refl (whole !))))) refl (tt, tt) $
    sets ! (of_opd ! (get ! refl)) refl (tt, tt) $
    assigns_last ! (of_opd ! (get ! refl)) (through ! refl (stop !)) (init ! 1 refl good) $
    exec ! 𝓣.C 𝓣.Λ (env code.Mir.locals l) (after 1 (code.function).body) (at_ret _ (W.post y)) $
    sets ! (of_opd ! (unit_lit !)) refl (tt, tt) $
    move ! (1 ∷ 0 ∷ []) $ use2 𝓛 (‵ (part_at page_cells full_share zeros b' o')) (part_in 𝓛 page_cells refl full_share zeros b' o' written) $
    use1 𝓛 (‵ (page_memory (block_ptr b' o') zeros)) (as_memory 𝓛 b' o' zeros (lit< tt)) $ fjoin ! $
    rewrite ! 0 (λ (at : Ptr). ‵ (page_owns at zeros)) (sym e) refl $ rewrite ! 2 Cell (sym word) refl $
    move ! (1 ∷ []) $ fjoin ! $ move ! (1 ∷ []) $ closes ! tt R (record p { cells = zeros }) us b o $
    -- [two parts of self; the token; self's first part]
    returns ! (look_at ! 0 refl) $ free_all ! refl $ move ! (3 ∷ []) $
    suffices ! _ (ends_at 𝓛 f.ended stayed c y vunit tt (record p { cells = zeros }, tt) (tt, tt)) $ says ! refl $
    group ! 3 $ nothing ! $ move ! (1 ∷ 0 ∷ []) $ join ! $ nothing ! $ move ! (2 ∷ 0 ∷ []) $ join ! $ frame ! $ frame ! $
    feq_i ! _ (vunit ∷ []) _ refl $ done !))))))
