-- The loops that build the cells of a type.
use Rattle.std.proofs.Common.{◌≡◌, ℕ, zero, suc, ◌+◌, ◌-◌, ◌<◌, ◌≤◌, refl, sym, ap, ◌∙◌, List, [], ◌∷◌, ◌++◌, map, length, take, drop, get_or, slice_index_or, Option, Some, arith, length-append, length-drop, append_assoc, append-nil, take-append-drop}
use Rattle.std.proofs.lemmas.Grind.{flat_map-append}
use Rattle.std.proofs.lemmas.List.{get_or_append_left, get_or-drop, get_or-map, map_push, take_more, length-map, drop-append-le, take_at}
use Rattle.rc_core.specs.declared.layout.CellKind.{CellKind as CodeKind}
use Rattle.rc_core.specs.Types.{CellKind}
use Rattle.rc_core.specs.Layout.{Layout, copies, field_cells, fields_cells}
use Rattle.rc_core.specs.declared.parts.Field.{Field as CodeField}
use Rattle.rc_core.specs.Shapes.{cell_kind_of, ty_of, field_of}

-- one more of the cells that are copied
again : (k0 k : Layout) (start at : ℕ) (x d : CellKind) → k ≡ k0 ++ take (at - start) (drop start k0) → start ≤ at → at < length k0 → x ≡ get_or k at d → k ++ x ∷ [] ≡ k0 ++ take (at + 1 - start) (drop start k0)
again k0 k start at x d e s h q =
    let n : at + 1 - start ≡ (at - start) + 1 = omega arith in
    let l : at - start < length (drop start k0) = omega (arith, length-drop start k0) in
    let m : start + (at - start) ≡ at = omega arith in
    let v : x ≡ get_or (drop start k0) (at - start) d =
    q ∙ ap (λ c. get_or c at d) e ∙ get_or_append_left k0 (take (at - start) (drop start k0)) d at h ∙ ap (λ i. get_or k0 i d) (sym m) ∙ sym (get_or-drop start k0 (at - start) d)
    in
    ap (λ c. c ++ x ∷ []) e
    ∙ append_assoc k0 (take (at - start) (drop start k0)) (x ∷ [])
    ∙ ap (λ c. k0 ++ c) (ap (λ y. take (at - start) (drop start k0) ++ y ∷ []) v ∙ sym (take_more (drop start k0) (at - start) d l) ∙ ap (λ i. take i (drop start k0)) (sym n))

pub again_step : (old items new : List CodeKind) (start at : ℕ) (kind copy : CodeKind) → map cell_kind_of items ≡ map cell_kind_of old ++ take (at - start) (drop start (map cell_kind_of old)) → start ≤ at → at < length old → length old ≤ length items → kind ≡ slice_index_or items at kind → cell_kind_of copy ≡ cell_kind_of kind → new ≡ items ++ copy ∷ [] → (map cell_kind_of new ≡ map cell_kind_of old ++ take (at + 1 - start) (drop start (map cell_kind_of old))) × (length old ≤ length new)
again_step old items new start at kind copy e s h l r c n =
    let v : cell_kind_of copy ≡ get_or (map cell_kind_of items) at (cell_kind_of kind) = c ∙ ap cell_kind_of r ∙ sym (get_or-map cell_kind_of items at kind (cell_kind_of kind) (omega arith)) in
    let m : at < length (map cell_kind_of old) = omega (arith, length-map old cell_kind_of) in (
      ap (map cell_kind_of) n ∙ map_push cell_kind_of items copy ∙ again (map cell_kind_of old) (map cell_kind_of items) start at (cell_kind_of copy) (cell_kind_of kind) e s m v,
      rw n (omega (arith, length-append items (copy ∷ []))),
    )

copies-end : (n : ℕ) (c : Layout) → copies (Some n) c ++ c ≡ c ++ copies (Some n) c
copies-end zero c = sym (append-nil c)
copies-end (suc n) c = append_assoc c (copies (Some n) c) c ∙ ap (λ d. c ++ d) (copies-end n c)

repeated : (k0 k new : Layout) (start end at : ℕ) → start ≤ end → end ≡ length k0 → 1 ≤ at → k ≡ k0 ++ copies (Some (at - 1)) (drop start k0) → new ≡ k ++ take (end - start) (drop start k) → new ≡ k0 ++ copies (Some (at + 1 - 1)) (drop start k0)
repeated k0 k new start end at s e o h q =
    let d : drop start k ≡ drop start k0 ++ copies (Some (at - 1)) (drop start k0) = ap (drop start) h ∙ drop-append-le start k0 (copies (Some (at - 1)) (drop start k0)) (omega arith) in
    let t : take (end - start) (drop start k) ≡ drop start k0 = ap (take (end - start)) d ∙ take_at (drop start k0) (copies (Some (at - 1)) (drop start k0)) (end - start) (omega (arith, length-drop start k0)) in
    let n : suc (at - 1) ≡ at + 1 - 1 = omega arith in
    q ∙ ap (λ c. k ++ c) t ∙ ap (λ c. c ++ drop start k0) h
    ∙ append_assoc k0 (copies (Some (at - 1)) (drop start k0)) (drop start k0)
    ∙ ap (λ c. k0 ++ c) (copies-end (at - 1) (drop start k0) ∙ ap (λ i. copies (Some i) (drop start k0)) n)

pub repeat_step : (old items new : List CodeKind) (start end at : ℕ) → start ≤ length old → end ≡ length old → 1 ≤ at → map cell_kind_of items ≡ map cell_kind_of old ++ copies (Some (at - 1)) (drop start (map cell_kind_of old)) → length old ≤ length items → map cell_kind_of new ≡ map cell_kind_of items ++ take (end - start) (drop start (map cell_kind_of items)) → (map cell_kind_of new ≡ map cell_kind_of old ++ copies (Some (at + 1 - 1)) (drop start (map cell_kind_of old))) × (length old ≤ length new)
repeat_step old items new start end at s e o h l q =
    let m : length (map cell_kind_of new) ≡ length (map cell_kind_of items) + length (take (end - start) (drop start (map cell_kind_of items))) = ap length q ∙ length-append (map cell_kind_of items) (take (end - start) (drop start (map cell_kind_of items))) in (
      repeated (map cell_kind_of old) (map cell_kind_of items) (map cell_kind_of new) start end at (omega arith) (omega (arith, length-map old cell_kind_of)) o h q,
      omega (arith, length-map new cell_kind_of, length-map items cell_kind_of),
    )

pub repeat_end : (k0 k : Layout) (start count : ℕ) → 1 ≤ count → k ≡ k0 ++ copies (Some (count - 1)) (drop start k0) → k ≡ take start k0 ++ copies (Some count) (drop start k0)
repeat_end k0 k start count o h =
    let n : suc (count - 1) ≡ count = omega arith in
    h ∙ ap (λ c. c ++ copies (Some (count - 1)) (drop start k0)) (sym (take-append-drop start k0))
    ∙ append_assoc (take start k0) (drop start k0) (copies (Some (count - 1)) (drop start k0))
    ∙ ap (λ i. take start k0 ++ copies (Some i) (drop start k0)) n

-- a struct of one field
pub one_value : (fields : List CodeField) (f : CodeField) (count : Option ℕ) → length fields ≡ 1 → f ≡ slice_index_or fields 0 f → f.length ≡ count → map field_of fields ≡ record { ty = ty_of f.ty; count = count } ∷ []
one_value [] f count l q e = absurd (omega arith)
one_value (g ∷ []) f count l q e = rw (← e, q) refl
one_value (g ∷ h ∷ rest) f count l q e = absurd (omega arith)

-- one more field of a struct
pub fields_step : (layouts : List Layout) (k0 k new : Layout) (items : List CodeField) (i : ℕ) (f : CodeField) → i < length items → f ≡ get_or items i f → k ≡ k0 ++ fields_cells layouts (map field_of (take i items)) → new ≡ k ++ field_cells layouts (field_of f) → new ≡ k0 ++ fields_cells layouts (map field_of (take (i + 1) items))
fields_step layouts k0 k new items i f h q e n =
    let t : map field_of (take (i + 1) items) ≡ map field_of (take i items) ++ field_of f ∷ [] =
    ap (map field_of) (take_more items i f h ∙ ap (λ g. take i items ++ g ∷ []) (sym q)) ∙ map_push field_of (take i items) f
    in
    n ∙ ap (λ c. c ++ field_cells layouts (field_of f)) e
    ∙ append_assoc k0 (fields_cells layouts (map field_of (take i items))) (field_cells layouts (field_of f))
    ∙ ap (λ c. k0 ++ c)
    (ap (λ c. fields_cells layouts (map field_of (take i items)) ++ c) (sym (append-nil (field_cells layouts (field_of f))))
    ∙ sym (flat_map-append (field_cells layouts) (map field_of (take i items)) (field_of f ∷ []))
    ∙ ap (fields_cells layouts) (sym t))
