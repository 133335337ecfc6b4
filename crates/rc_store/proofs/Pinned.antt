-- Values among the pins.
use Rattle.std.proofs.Common.{◌≡◌, ◌<◌, ◌+◌, ◌∙◌, ℕ, List, [], ◌∷◌, cond, length, map, get_or, refl, sym, ap, subst, IsPermutation}
use Rattle.std.specs.List.{count_by, Contains, swap_remove}
use Rattle.std.proofs.lemmas.List.{length-map, get_or-map, get_or_read}
use Rattle.std.proofs.lemmas.List.Sorted.{IsPermutation-map, IsPermutation-swap_remove}
use Rattle.std.proofs.lemmas.List.Sums.{sum_by-cons}
use Rattle.rc_core.specs.Heap.{names}
use Rattle.rc_store.specs.declared.cell.Cell.{Cell}
use Rattle.rc_store.specs.Values.{cell_refs, value_of}

pub refs_mapped : (r : ℕ) (cells : List Cell) → count_by (cell_refs r) cells ≡ count_by (names r) (map value_of cells)
refs_mapped r [] = refl
refs_mapped r (c ∷ cells) =
    sum_by-cons (λ x. cond (cell_refs r x) 1 0) c cells
    ∙ ap (λ n. cond (cell_refs r c) 1 0 + n) (refs_mapped r cells)
    ∙ sym (sum_by-cons (λ v. cond (names r v) 1 0) (value_of c) (map value_of cells))

-- a value that is pinned stands somewhere
pub contained : (cells : List Cell) (v : Cell) → Contains (map value_of cells) (value_of v) → (k : ℕ) × (k < length cells) × (value_of (get_or cells k v) ≡ value_of v)
contained cells v there =
    let below : there.0 < length cells = subst (λ n. there.0 < n) (length-map cells value_of) there.1 in
    (there.0, below, sym (get_or-map value_of cells there.0 v (value_of v) below) ∙ there.2)

pub taken_out : (items : List Cell) (at : ℕ) (removed value : Cell) → at < length items → removed ≡ get_or items at removed → value_of (get_or items at value) ≡ value_of value → IsPermutation (map value_of items) (value_of value ∷ map value_of (swap_remove items at removed))
taken_out items at removed value below read is =
    let same : value_of removed ≡ value_of value = ap value_of (get_or_read items at removed below read value) ∙ is in
    subst (λ v. IsPermutation (map value_of items) (v ∷ map value_of (swap_remove items at removed))) same
    (IsPermutation-map value_of items (removed ∷ swap_remove items at removed) (IsPermutation-swap_remove items at removed below read))
