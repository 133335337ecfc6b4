-- The cells of a struct copy that are listed, one by one.
use Rattle.std.proofs.Common.{◌≡◌, ◌<◌, ◌+◌, ℕ, suc, List, ◌∷◌, ◌++◌, map, length, drop, get_or, append_assoc, sym, ap, ◌∙◌, subst, arith}
use Rattle.std.proofs.Math.Seq.{drop-cons}
use Rattle.std.proofs.lemmas.List.{get_or-map, length-map}
use Rattle.rc_core.specs.declared.layouts.Kind.{Kind}
use Rattle.rc_core.specs.declared.ty.Note.{Note}
use Rattle.rc_core.specs.Laid.{held_kind}
use Rattle.rc_core.specs.Layout.{Layout, note_of}
use Rattle.rc_core.specs.Types.{CellKind, int_cell}
use Rattle.rc_rlang.specs.Sites.{Site, cells_sites, store_sites}

pub cell_listed : (layout : Layout) (kinds : List Kind) (i line at stored next : ℕ) (kind d : Kind) (note : Note) (before after all : List Site) → kinds ≡ map held_kind layout → i < length kinds → kind ≡ get_or kinds i d → ((cell : CellKind) → kind ≡ held_kind cell → note ≡ note_of cell) → stored ≡ at + 1 → next ≡ stored + 1 →
    after ≡ before ++ store_sites note line stored → before ++ cells_sites (drop i layout) line at ≡ all → after ++ cells_sites (drop (i + 1) layout) line next ≡ all
cell_listed layout kinds i line at stored next kind d note before after all same within is notes s n added e =
    let l : i < length layout = subst (λ k. i < k) (ap length same ∙ length-map layout held_kind) within in
    let cell = get_or layout i int_cell in
    let there : kind ≡ held_kind cell = is ∙ ap (λ ks. get_or ks i d) same ∙ get_or-map held_kind layout i int_cell d l in
    let here : drop i layout ≡ cell ∷ drop (suc i) layout = drop-cons layout i int_cell l in
    let stored_is : suc at ≡ stored = omega (arith, s) in
    let next_is : suc (suc at) ≡ next = omega (arith, s, n) in
    let one : suc i ≡ i + 1 = omega arith in
    sym (sym e ∙ ap (λ cells. before ++ cells_sites cells line at) here
    ∙ ap (λ ks. before ++ (store_sites (note_of cell) line (suc at) ++ cells_sites ks line (suc (suc at)))) (ap (λ j. drop j layout) one)
    ∙ sym (append_assoc before (store_sites (note_of cell) line (suc at)) (cells_sites (drop (i + 1) layout) line (suc (suc at))))
    ∙ ap (λ x. (before ++ store_sites x line (suc at)) ++ cells_sites (drop (i + 1) layout) line (suc (suc at))) (sym (notes cell there))
    ∙ ap (λ p. (before ++ store_sites note line p) ++ cells_sites (drop (i + 1) layout) line (suc (suc at))) stored_is
    ∙ ap (λ p. (before ++ store_sites note line stored) ++ cells_sites (drop (i + 1) layout) line p) next_is
    ∙ ap (λ xs. xs ++ cells_sites (drop (i + 1) layout) line next) (sym added))
