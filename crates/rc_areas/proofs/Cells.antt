-- A cell of an object of an area: where it stands, what it holds, and what a write does.
use Rattle.std.proofs.Common.{◌≡◌, ◌<◌, ◌+◌, ◌*◌, ◌∙◌, ℕ, List, length, drop, get_or, set, refl, sym, ap, subst, arith}
use Rattle.std.proofs.lemmas.List.{get_or-drop, length-drop}
use Rattle.std.proofs.lemmas.List.Sums.{sum_by_more_le}
use Rattle.std.proofs.lemmas.Nat.{mul-add-lt}
use Rattle.rc_core.specs.declared.layouts.Kind.TheVariants.{Number as NumberKind}
use Rattle.rc_core.specs.Heap.{Value, Null}
use Rattle.rc_store.specs.Kept.{KeptObject}
use Rattle.rc_store.specs.Stores.{HasCell, cell_place, cell_value, no_object, object_with, objects_with}
use Rattle.rc_cells.specs.Codes.{decoded}
use Rattle.rc_areas.specs.Shapes.{Shape}
use Rattle.rc_areas.specs.Areas.{AreaState, IsLaid, kinds_in, object_from, objects_from, objects_of, shape_of, size_in, values_from}
use Rattle.rc_areas.specs.declared.head.Head.{Head}
use Rattle.rc_areas.proofs.Objects.{before, kind_again, length-kinds, object_read, object_written, start_is, value_read, value_written}

module _ (shapes : List Shape) (a : AreaState) (laid : IsLaid shapes a) (o : ℕ) (inside : o < length a.heads) (d : Head) where
  abbrev head : Head
  head = get_or a.heads o d

  abbrev object : KeptObject
  object = get_or (objects_of shapes a) o no_object

  object_is : object ≡ object_from shapes head (drop (before shapes o a.heads) a.codes)
  object_is = object_read shapes a.heads a.codes o d inside

  pub count_is : object.count ≡ head.count
  count_is = ap (λ (k : KeptObject). k.count) object_is

  pub size_is : object.size ≡ length (shape_of shapes head)
  size_is = ap (λ (k : KeptObject). k.size) object_is

  pub starts : head.start ≡ before shapes o a.heads
  starts = let start = start_is shapes a.heads 0 o d laid.heads inside in omega (arith, start)

  module _ (index cell : ℕ) (has : HasCell object index cell) where
    abbrev pub spot : ℕ
    spot = index * length (shape_of shapes head) + cell

    element : index < head.count
    element = omega (arith, has.element, count_is)

    pub within : cell < length (shape_of shapes head)
    within = omega (arith, has.within, size_is)

    spot_below : spot < size_in shapes head
    spot_below = let below = mul-add-lt index (length (shape_of shapes head)) cell head.count element within in omega (arith, below, times head.count (length (shape_of shapes head)))
      where
        times : (m n : ℕ) → m * n ≡ n * m
        times m n = omega arith

    pub place_below : before shapes o a.heads + spot < length a.codes
    place_below = let sum = sum_by_more_le (size_in shapes) a.heads o d inside in omega (arith, sum, spot_below, laid.cells)

    spot_kind : spot < length (kinds_in shapes head)
    spot_kind = omega (arith, spot_below, length-kinds shapes head)

    pub place_is : cell_place object index cell ≡ spot
    place_is = ap (λ n. index * n + cell) size_is

    kind_is : get_or (kinds_in shapes head) spot NumberKind ≡ get_or (shape_of shapes head) cell NumberKind
    kind_is = kind_again head.count index cell (shape_of shapes head) NumberKind element within

    -- as the code counts it
    pub place_sum : (h : Head) (ks : Shape) → h ≡ head → ks ≡ shape_of shapes h → h.start + index * length ks + cell ≡ before shapes o a.heads + spot
    place_sum h ks same shape =
        let start : h.start ≡ before shapes o a.heads = ap (λ (k : Head). k.start) same ∙ starts in
        let width : length ks ≡ length (shape_of shapes head) = ap length (shape ∙ ap (shape_of shapes) same) in
        ap (λ n. n + index * length ks + cell) start
        ∙ ap (λ n. before shapes o a.heads + index * n + cell) width
        ∙ omega arith

    pub sum_below : (h : Head) (ks : Shape) → h ≡ head → ks ≡ shape_of shapes h → h.start + index * length ks + cell < length a.codes
    sum_below h ks same shape = subst (λ n. n < length a.codes) (sym (place_sum h ks same shape)) place_below

    -- what it holds
    pub cell_read : cell_value object index cell ≡ decoded (get_or (shape_of shapes head) cell NumberKind) (get_or a.codes (before shapes o a.heads + spot) 0)
    cell_read =
        let long : spot < length (drop (before shapes o a.heads) a.codes) = omega (arith, place_below, length-drop (before shapes o a.heads) a.codes) in
        ap (λ n. get_or object.values n Null) place_is
        ∙ ap (λ (k : KeptObject). get_or k.values spot Null) object_is
        ∙ value_read (kinds_in shapes head) (drop (before shapes o a.heads) a.codes) spot spot_kind long
        ∙ ap (λ k. decoded k (get_or (drop (before shapes o a.heads) a.codes) spot 0)) kind_is
        ∙ ap (λ n. decoded (get_or (shape_of shapes head) cell NumberKind) n) (get_or-drop (before shapes o a.heads) a.codes spot 0)

    -- a write
    module _ (c : ℕ) (v : Value) (coded : decoded (get_or object.kinds (cell_place object index cell) NumberKind) c ≡ v) where
      coded_there : decoded (get_or (kinds_in shapes head) spot NumberKind) c ≡ v
      coded_there = ap (λ (k : KeptObject). decoded (get_or k.kinds spot NumberKind) c) (sym object_is) ∙ ap (λ n. decoded (get_or object.kinds n NumberKind) c) (sym place_is) ∙ coded

      object_now : object_from shapes head (set (drop (before shapes o a.heads) a.codes) spot c) ≡ object_with index cell v (object_from shapes head (drop (before shapes o a.heads) a.codes))
      object_now =
          let written = value_written (kinds_in shapes head) (drop (before shapes o a.heads) a.codes) spot c spot_kind in
          ap (λ vs. let k : KeptObject = record { size = length (shape_of shapes head); count = head.count; kinds = kinds_in shapes head; values = vs } in k)
          (written ∙ ap (λ w. set (values_from (kinds_in shapes head) (drop (before shapes o a.heads) a.codes)) spot w) coded_there)

      pub cell_written : objects_from shapes a.heads (set a.codes (before shapes o a.heads + spot) c) ≡ objects_with o index cell v (objects_of shapes a)
      cell_written =
          object_written shapes a.heads a.codes o (before shapes o a.heads + spot) spot c d inside spot_below refl
          ∙ ap (λ k. set (objects_of shapes a) o k) (object_now ∙ ap (object_with index cell v) (sym object_is))
