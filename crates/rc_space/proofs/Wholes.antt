-- The objects of an area: their cells are whole, and as many as it has codes.
use Rattle.std.proofs.Common.{◌≡◌, ◌<◌, ◌≤◌, ◌+◌, ◌*◌, ◌∙◌, ℕ, zero, suc, true, List, [], ◌∷◌, length, drop, get_or, refl, sym, ap, subst, arith, length-drop}
use Rattle.std.specs.List.{sum_by}
use Rattle.std.proofs.lemmas.List.Sums.{sum_by-cons, sum_by_more_le}
use Rattle.std.proofs.lemmas.Nat.{mul-add-lt}
use Rattle.rc_core.specs.declared.layouts.Kind.{Kind}
use Rattle.rc_core.specs.declared.layouts.Kind.TheVariants.{Number as NumberKind, Region as RegionKind, Pointer as PointerKind}
use Rattle.rc_store.specs.Stores.{HasCell, no_object, size_of}
use Rattle.rc_store.specs.Values.{is_pointer, is_region, suits}
use Rattle.rc_cells.specs.Codes.{decoded, pointer_coded, region_coded}
use Rattle.rc_areas.specs.Areas.{AreaState, IsLaid, kinds_in, object_from, objects_from, objects_of, size_in, values_from}
use Rattle.rc_areas.specs.Shapes.{Shape}
use Rattle.rc_areas.specs.declared.head.Head.{Head}
use Rattle.rc_areas.proofs.Objects.{before, length-kinds, object_read, value_read}
use Rattle.rc_space.specs.Spaces.{IsWhole}

region_suits : (n : ℕ) → is_region (region_coded n) ≡ true
region_suits zero = refl
region_suits (suc n) = refl

pointer_suits : (n : ℕ) → is_pointer (pointer_coded n) ≡ true
pointer_suits zero = refl
pointer_suits (suc n) = refl

code_suits : (k : Kind) (n : ℕ) → suits k (decoded k n) ≡ true
code_suits NumberKind n = refl
code_suits RegionKind n = region_suits n
code_suits (PointerKind note) n = pointer_suits n

length-values : (ks : List Kind) (cs : List ℕ) → length ks ≤ length cs → length (values_from ks cs) ≡ length ks
length-values [] cs long = refl
length-values (k ∷ ks) [] long = absurd (omega (arith, long))
length-values (k ∷ ks) (c ∷ cs) long = ap suc (length-values ks cs (omega (arith, long)))

times : (m n : ℕ) → m * n ≡ n * m
times m n = omega arith

module _ (shapes : List Shape) where
  from_whole : (h : Head) (cs : List ℕ) (index cell : ℕ) → size_in shapes h ≤ length cs → HasCell (object_from shapes h cs) index cell → IsWhole (object_from shapes h cs) index cell
  from_whole h cs index cell long has =
      let width = length (get_or shapes h.shape []) in
      let below : index * width + cell < size_in shapes h = let low = mul-add-lt index width cell h.count has.element has.within in omega (arith, low, times h.count width) in
      let kinds : index * width + cell < length (kinds_in shapes h) = omega (arith, below, length-kinds shapes h) in
      let many : length (values_from (kinds_in shapes h) cs) ≡ length (kinds_in shapes h) = length-values (kinds_in shapes h) cs (omega (arith, long, length-kinds shapes h)) in
      record {
        kind = kinds;
        value = omega (arith, kinds, many);
        suits = ap (suits (get_or (kinds_in shapes h) (index * width + cell) NumberKind)) (value_read (kinds_in shapes h) cs (index * width + cell) kinds (omega (arith, long, below)))
            ∙ code_suits (get_or (kinds_in shapes h) (index * width + cell) NumberKind) (get_or cs (index * width + cell) 0);
      }

  pub object_whole : (a : AreaState) (o index cell : ℕ) → IsLaid shapes a → o < length a.heads → HasCell (get_or (objects_of shapes a) o no_object) index cell → IsWhole (get_or (objects_of shapes a) o no_object) index cell
  object_whole a o index cell laid inside has =
      let d : Head = record { start = 0; count = 0; shape = 0 } in
      let is = object_read shapes a.heads a.codes o d inside in
      let cs = drop (before shapes o a.heads) a.codes in
      let long : size_in shapes (get_or a.heads o d) ≤ length cs = let sum = sum_by_more_le (size_in shapes) a.heads o d inside in omega (arith, sum, laid.cells, length-drop (before shapes o a.heads) a.codes) in
      subst (λ x. IsWhole x index cell) (sym is) (from_whole (get_or a.heads o d) cs index cell long (subst (λ x. HasCell x index cell) is has))

  sizes_from : (heads : List Head) (codes : List ℕ) → sum_by (size_in shapes) heads ≤ length codes → sum_by size_of (objects_from shapes heads codes) ≡ sum_by (size_in shapes) heads
  sizes_from [] codes long = refl
  sizes_from (h ∷ hs) codes long =
      let sum = sum_by-cons (size_in shapes) h hs in
      let rest = sizes_from hs (drop (size_in shapes h) codes) (omega (arith, long, sum, length-drop (size_in shapes h) codes)) in
      let here : length (values_from (kinds_in shapes h) codes) ≡ size_in shapes h = length-values (kinds_in shapes h) codes (omega (arith, long, sum, length-kinds shapes h)) ∙ length-kinds shapes h in
      omega (arith, sum, rest, here, sum_by-cons size_of (object_from shapes h codes) (objects_from shapes hs (drop (size_in shapes h) codes)))

  pub area_sizes : (a : AreaState) → IsLaid shapes a → sum_by size_of (objects_of shapes a) ≡ length a.codes
  area_sizes a laid = sizes_from a.heads a.codes (omega (arith, laid.cells)) ∙ sym laid.cells
