-- A struct of one single value has the cells of that value, which stands inside whatever it stands inside.
use Rattle.std.proofs.Common.{◌≡◌, ℕ, ◌<◌, ◌≤◌, refl, sym, ap, ◌∙◌, subst, List, [], ◌∷◌, ◌++◌, map, length, get_or, slice_get, Option, Some, None, arith, append-nil, ◌⊎◌, ⊎_elim, suc-le-suc, take, take_all}
use Rattle.std.proofs.lemmas.List.{length-map}
use Rattle.rc_core.specs.declared.parts.Field.{Field as CodeField}
use Rattle.rc_core.specs.declared.parts.Struct.{Struct as CodeStruct}
use Rattle.rc_core.specs.Types.{Ty, int, unsigned, char, region, struct, pointer}
use Rattle.rc_core.specs.Programs.{Struct}
use Rattle.rc_core.specs.Layout.{Layout, cells, copies, fields_cells, layouts_of}
use Rattle.rc_core.specs.Shapes.{struct_of, field_of}
use Rattle.rc_core.specs.Typing.{IsDefined}
use Rattle.rc_core.specs.WellTyped.{IsInside, FieldFits, StructsFit}
use Rattle.rc_core.proofs.ShapeRows.{shape_at}
use Rattle.rc_core.proofs.LayoutLaws.{AreInside, struct_cells, rank}

pub all_inside : (structs : List Struct) (k : ℕ) (fields : Struct) → StructsFit structs → slice_get structs k ≡ Some fields → AreInside k fields
all_inside structs k fields fit h j f q = ((fit k fields h).fields_fit j f q).inside

pub inside_more : (n k : ℕ) (t : Ty) → k ≤ n → IsInside k t → IsInside n t
inside_more n k int h i = tt
inside_more n k unsigned h i = tt
inside_more n k char h i = tt
inside_more n k region h i = tt
inside_more n k (struct m) h i = omega arith
inside_more n k (pointer note target) h i = tt

pub rank_inside : (n : ℕ) (t : Ty) → IsInside n t → rank t ≤ n
rank_inside n int i = omega arith
rank_inside n unsigned i = omega arith
rank_inside n char i = omega arith
rank_inside n region i = omega arith
rank_inside n (struct m) i = omega arith
rank_inside n (pointer note target) i = omega arith

one_copy : (count : Option ℕ) (c : Layout) → (count ≡ None) ⊎ (count ≡ Some 1) → copies count c ++ [] ≡ c
one_copy count c h = ⊎_elim (λ e. rw e (append-nil c)) (λ e. rw e (append-nil (c ++ []) ∙ append-nil c)) h

module _ (structs : List Struct) (fit : StructsFit structs) (k : ℕ) (t : Ty) (count : Option ℕ) (h : slice_get structs k ≡ Some (record { ty = t; count = count } ∷ [])) where
  pub only_inside : IsInside k t
  only_inside = all_inside structs k (record { ty = t; count = count } ∷ []) fit h 0 (record { ty = t; count = count }) refl

  pub only_defined : IsDefined structs t
  only_defined = ((fit k (record { ty = t; count = count } ∷ []) h).fields_fit 0 (record { ty = t; count = count }) refl).defined

  pub only_cells : (count ≡ None) ⊎ (count ≡ Some 1) → cells structs t ≡ cells structs (struct k)
  only_cells one =
      sym (struct_cells structs k (record { ty = t; count = count } ∷ []) h (all_inside structs k (record { ty = t; count = count } ∷ []) fit h)
      ∙ one_copy count (cells structs t) one)

module _ (ss : List CodeStruct) (fit : StructsFit (map struct_of ss)) (s : CodeStruct) (k : ℕ) (whole t : Ty) (defined : IsDefined (map struct_of ss) whole) (is : whole ≡ struct k) (read : s ≡ get_or ss k s) (v : (count : Option ℕ) × ((struct_of s ≡ record { ty = t; count = count } ∷ []) × ((count ≡ None) ⊎ (count ≡ Some 1)))) where
  in_range : k < length ss
  in_range = let d : k < length (map struct_of ss) = subst (IsDefined (map struct_of ss)) is defined in omega (arith, length-map ss struct_of)

  at_hand : slice_get (map struct_of ss) k ≡ Some (record { ty = t; count = v.0 } ∷ [])
  at_hand = shape_at struct_of ss k s in_range read ∙ ap Some v.1.0

  pub unwrapped_smaller : rank t < rank whole
  unwrapped_smaller = rw is (suc-le-suc (rank_inside k t (only_inside (map struct_of ss) fit k t v.0 at_hand)))

  pub unwrapped_inside : (n : ℕ) → IsInside n whole → IsInside n t
  unwrapped_inside n i =
      let l : k < n = subst (IsInside n) is i in
      inside_more n k t (omega arith) (only_inside (map struct_of ss) fit k t v.0 at_hand)

  pub unwrapped_defined : IsDefined (map struct_of ss) t
  unwrapped_defined = only_defined (map struct_of ss) fit k t v.0 at_hand

  pub unwrapped_cells : cells (map struct_of ss) t ≡ cells (map struct_of ss) whole
  unwrapped_cells = only_cells (map struct_of ss) fit k t v.0 at_hand v.1.1 ∙ ap (cells (map struct_of ss)) (sym is)

-- each struct is inside what has a greater rank
pub inside_rank : (t : Ty) → IsInside (rank t) t
inside_rank int = tt
inside_rank unsigned = tt
inside_rank char = tt
inside_rank region = tt
inside_rank (struct k) = omega arith
inside_rank (pointer note target) = tt

pub whole_struct : (ss : List CodeStruct) (fit : StructsFit (map struct_of ss)) (s : CodeStruct) (k : ℕ) → k < length ss → s ≡ get_or ss k s → cells (map struct_of ss) (struct k) ≡ fields_cells (layouts_of (map struct_of ss)) (map field_of s.fields.items)
whole_struct ss fit s k h q =
    struct_cells (map struct_of ss) k (struct_of s) (shape_at struct_of ss k s h q) (all_inside (map struct_of ss) k (struct_of s) fit (shape_at struct_of ss k s h q))

same_items : (ss : List CodeStruct) (s : CodeStruct) (k : ℕ) (items : List CodeField) → s ≡ get_or ss k s → items ≡ (get_or ss k s).fields.items → items ≡ s.fields.items
same_items ss s k items q e = let items_in : CodeStruct → List CodeField = λ r. r.fields.items in e ∙ ap items_in (sym q)

pub field_fits : (ss : List CodeStruct) (fit : StructsFit (map struct_of ss)) (s : CodeStruct) (k : ℕ) → k < length ss → s ≡ get_or ss k s → (items : List CodeField) (i : ℕ) (f : CodeField) → items ≡ (get_or ss k s).fields.items → i < length items → f ≡ get_or items i f → FieldFits (map struct_of ss) k (field_of f)
field_fits ss fit s k h q items i f e l r =
    let there : slice_get (struct_of s) i ≡ Some (field_of f) = ap (λ xs. slice_get (map field_of xs) i) (sym (same_items ss s k items q e)) ∙ shape_at field_of items i f l r in
    (fit k (struct_of s) (shape_at struct_of ss k s h q)).fields_fit i (field_of f) there

pub struct_done : (ss : List CodeStruct) (fit : StructsFit (map struct_of ss)) (s : CodeStruct) (k : ℕ) → k < length ss → s ≡ get_or ss k s → (k0 kinds : Layout) (items : List CodeField) (i : ℕ) → items ≡ (get_or ss k s).fields.items → length items ≤ i → kinds ≡ k0 ++ fields_cells (layouts_of (map struct_of ss)) (map field_of (take i items)) → kinds ≡ k0 ++ cells (map struct_of ss) (struct k)
struct_done ss fit s k h q k0 kinds items i r l e =
    e ∙ ap (λ fs. k0 ++ fields_cells (layouts_of (map struct_of ss)) (map field_of fs)) (take_all i items l ∙ same_items ss s k items q r)
    ∙ ap (λ c. k0 ++ c) (sym (whole_struct ss fit s k h q))
