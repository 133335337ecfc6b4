-- The memory of a page: as room, as an array, and as a row of cells.
use Rattle.std.proofs.Common.{◌≡◌, ℕ, ◌+◌, ◌*◌, ◌<◌, List, [], ◌∷◌, length, get_or, set, refl, sym, arith}
use seplogic.Ra.Ura.{Ura}
use base.Fraction.{full_share}
use base.Fml.{Share, Fml, fat, feq}
use base.Logic.{ent, sep, never, id⊢}
use mir.Syntax.{Ty, ty_int, ty_array, w128}
use mir.Val.{Val, vint}
use types.Logic.{Logic, sem}
use types.Kit.{‵, ◌⊛◌, some, ◌$◌, !, qed, by, done, keep, drop, use1, pick, split, fjoin, feq_i, move, rewrite}
use denote.ArrayMemory.{Array-apart, Array-whole}
use denote.Builtin.{u128}
use denote.Index.{row, others, takes, puts, puts_back, place, place_is}
use denote.Memory.{part_at, shares}
use denote.Plain.{uint_in, uint_out}
use denote.RawPtr.{block_ptr, null_ptr}
use borrow.Table.OneValue.{part_out}
use Rattle.rc_pages.specs.Memory.{page_cells, page_deed, page_memory, page_owns}

abbrev pub cells_ty : Ty
cells_ty = ty_array (ty_int w128) 256

module _ {M : Type 1} {𝓤 : Ura M} (𝓛 : Logic 𝓤) where
  open 𝓛 use {H}

  -- no page lies at null
  memory_not_null : (xs : List ℕ) → ent 𝓤 (sem 𝓛 (page_memory null_ptr xs)) (never 𝓤)
  memory_not_null [] = id⊢ 𝓤 (never 𝓤)
  memory_not_null (x ∷ xs) = id⊢ 𝓤 (never 𝓤)

  pub not_null : (xs : List ℕ) → ent 𝓤 (sem 𝓛 (page_owns null_ptr xs)) (never 𝓤)
  not_null xs = qed 𝓛 (‵ (page_memory null_ptr xs) ∷ ‵ (page_deed null_ptr) ∷ []) {P = never 𝓤} (move ! (1 ∷ []) $ drop ! $ by ! (memory_not_null xs))

  module _ (b o : ℕ) where
    -- what lies there is forgotten
    pub as_room : (xs : List ℕ) → ent 𝓤 (sem 𝓛 (page_memory (block_ptr b o) xs)) (H.room cells_ty b o)
    as_room [] = id⊢ 𝓤 (H.room cells_ty b o)
    as_room (x ∷ xs) = qed 𝓛 (‵ (part_at page_cells full_share (x ∷ xs) b o) ∷ []) {P = H.room cells_ty b o} (
        use1 𝓛 (some (λ (v : Val). ‵ (fat full_share cells_ty b o v) ⊛ ‵ (page_cells.own_val (x ∷ xs) (v ∷ [])))) (part_out 𝓛 page_cells refl full_share (x ∷ xs) b o) $
        pick ! (λ v. split ! $ keep ! (0 ∷ []) $ by ! (𝓛.laws.at_room cells_ty b o v)))

    -- an array of cells is the memory of a page
    pub as_memory : (xs : List ℕ) → 0 < length xs → ent 𝓤 (sem 𝓛 (part_at page_cells full_share xs b o)) (sem 𝓛 (page_memory (block_ptr b o) xs))
    as_memory [] filled = absurd (omega arith)
    as_memory (x ∷ xs) filled = id⊢ 𝓤 _

    -- and the other way round
    pub as_array : (xs : List ℕ) → 0 < length xs → ent 𝓤 (sem 𝓛 (page_memory (block_ptr b o) xs)) (sem 𝓛 (part_at page_cells full_share xs b o))
    as_array [] filled = absurd (omega arith)
    as_array (x ∷ xs) filled = id⊢ 𝓤 _

    -- a page with cells is a row of 256 of them
    pub as_row : (xs : List ℕ) → 0 < length xs → ent 𝓤 (sem 𝓛 (page_memory (block_ptr b o) xs)) (sep 𝓤 (sem 𝓛 (feq ℕ (length xs) 256)) (sem 𝓛 (row u128 full_share xs b o)))
    as_row xs filled = qed 𝓛 (‵ (page_memory (block_ptr b o) xs) ∷ []) {P = sep 𝓤 (sem 𝓛 (feq ℕ (length xs) 256)) (sem 𝓛 (row u128 full_share xs b o))} (
        use1 𝓛 (‵ (part_at page_cells full_share xs b o)) (as_array xs filled) $ by ! (Array-apart 𝓛 u128 full_share tt 256 xs b o))

    -- and the other way round
    pub of_row : (xs : List ℕ) → length xs ≡ 256 → ent 𝓤 (sem 𝓛 (row u128 full_share xs b o)) (sem 𝓛 (page_memory (block_ptr b o) xs))
    of_row xs all = qed 𝓛 (‵ (row u128 full_share xs b o) ∷ []) {P = sem 𝓛 (page_memory (block_ptr b o) xs)} (
        feq_i ! ℕ (length xs) 256 all $ fjoin ! $ use1 𝓛 (‵ (part_at page_cells full_share xs b o)) (Array-whole 𝓛 u128 full_share 256 xs b o) $ by ! (as_memory xs (omega (arith, all))))

    -- cell i is taken out of the row; another value is put in its place; and it is put back
    module _ (xs : List ℕ) (i : ℕ) (inside : i < length xs) where
      abbrev pub besides : Share → Fml
      besides q = others (shares u128) q xs i b o

      pub cell_out : (q : Share) → ent 𝓤 (sem 𝓛 (row u128 q xs b o)) (sep 𝓤 (H.at q (ty_int w128) b (i * 16 + o) (vint w128 (get_or xs i 0))) (sem 𝓛 (besides q)))
      cell_out q = qed 𝓛 (‵ (row u128 q xs b o) ∷ []) {P = sep 𝓤 (H.at q (ty_int w128) b (i * 16 + o) (vint w128 (get_or xs i 0))) (sem 𝓛 (besides q))} (
          use1 𝓛 (‵ (part_at u128 q (get_or xs i 0) b (place 16 o i)) ⊛ ‵ (besides q)) (takes (shares u128) q 𝓛 xs i 0 b o inside) $ split ! $
          rewrite ! 0 (λ (k : ℕ). ‵ (part_at u128 q (get_or xs i 0) b k)) (place_is 16 o i) refl $
          use1 𝓛 (‵ (fat q (ty_int w128) b (i * 16 + o) (vint w128 (get_or xs i 0)))) (uint_out 𝓛 q w128 (get_or xs i 0) b (i * 16 + o)) $ done !)

      pub cell_in : (x : ℕ) → ent 𝓤 (sep 𝓤 (H.at full_share (ty_int w128) b (i * 16 + o) (vint w128 x)) (sem 𝓛 (besides full_share))) (sem 𝓛 (row u128 full_share (set xs i x) b o))
      cell_in x = qed 𝓛 (‵ (fat full_share (ty_int w128) b (i * 16 + o) (vint w128 x)) ∷ ‵ (besides full_share) ∷ []) {P = sem 𝓛 (row u128 full_share (set xs i x) b o)} (
          use1 𝓛 (‵ (part_at u128 full_share x b (i * 16 + o))) (uint_in 𝓛 full_share w128 x b (i * 16 + o)) $
          rewrite ! 0 (λ (k : ℕ). ‵ (part_at u128 full_share x b k)) (sym (place_is 16 o i)) refl $ by ! (puts (shares u128) full_share 𝓛 xs i x b o inside))

      pub cell_back : (q : Share) → ent 𝓤 (sep 𝓤 (H.at q (ty_int w128) b (i * 16 + o) (vint w128 (get_or xs i 0))) (sem 𝓛 (besides q))) (sem 𝓛 (row u128 q xs b o))
      cell_back q = qed 𝓛 (‵ (fat q (ty_int w128) b (i * 16 + o) (vint w128 (get_or xs i 0))) ∷ ‵ (besides q) ∷ []) {P = sem 𝓛 (row u128 q xs b o)} (
          use1 𝓛 (‵ (part_at u128 q (get_or xs i 0) b (i * 16 + o))) (uint_in 𝓛 q w128 (get_or xs i 0) b (i * 16 + o)) $
          rewrite ! 0 (λ (k : ℕ). ‵ (part_at u128 q (get_or xs i 0) b k)) (sym (place_is 16 o i)) refl $ by ! (puts_back (shares u128) q 𝓛 xs i 0 b o inside))
