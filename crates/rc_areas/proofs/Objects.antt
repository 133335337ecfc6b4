-- The objects that cells stand for: what one is, and what a write, one more object and one more shape do.
use Rattle.std.proofs.Common.{◌≡◌, ◌<◌, ◌≤◌, ◌+◌, ◌*◌, ◌∙◌, ℕ, zero, suc, List, [], ◌∷◌, ◌++◌, length, take, drop, map, replicate, get_or, set, refl, sym, ap, subst, arith, length-append}
use Rattle.std.specs.Prelude.{flat_map}
use Rattle.std.specs.List.{sum_by}
use Rattle.std.proofs.lemmas.List.{get_or-append-add, get_or_append_left, map-append, drop-drop, drop-append-le, drop-set-add, drop-set-lt, length-drop, nil_from_length}
use Rattle.std.proofs.lemmas.List.Concat.{flat_map-cons}
use Rattle.std.proofs.lemmas.List.Sums.{sum_by-cons}
use native.Mathlib.Nat.{zero-mul, suc-mul}
use Rattle.rc_core.specs.declared.layouts.Kind.{Kind}
use Rattle.rc_core.specs.declared.layouts.Kind.TheVariants.{Number as NumberKind, Region as RegionKind, Pointer as PointerKind}
use Rattle.rc_core.specs.Heap.{Value, Null}
use Rattle.rc_store.specs.Kept.{KeptObject, blank}
use Rattle.rc_store.specs.Stores.{no_object}
use Rattle.rc_store.specs.Values.{blank_of}
use Rattle.rc_cells.specs.Codes.{decoded}
use Rattle.rc_areas.specs.Shapes.{Shape}
use Rattle.rc_areas.specs.Areas.{AreLaid, kinds_in, object_from, objects_from, shape_of, size_in, values_from}
use Rattle.rc_areas.specs.declared.head.Head.{Head}

-- a shape again and again
pub length-again : (n : ℕ) (ks : Shape) → length (flat_map (λ k. k) (replicate n ks)) ≡ n * length ks
length-again zero ks = sym (zero-mul (length ks))
length-again (suc n) ks =
    ap length (flat_map-cons (λ k. k) ks (replicate n ks)) ∙ length-append ks (flat_map (λ k. k) (replicate n ks))
    ∙ ap (λ m. length ks + m) (length-again n ks) ∙ omega (arith, suc-mul n (length ks))

pub kind_again : (n index cell : ℕ) (ks : Shape) (d : Kind) → index < n → cell < length ks → get_or (flat_map (λ k. k) (replicate n ks)) (index * length ks + cell) d ≡ get_or ks cell d
kind_again zero index cell ks d element within = absurd (omega (arith, element))
kind_again (suc n) zero cell ks d element within =
    let here : zero * length ks + cell ≡ cell = omega (arith, zero-mul (length ks)) in
    ap (λ l. get_or l (zero * length ks + cell) d) (flat_map-cons (λ k. k) ks (replicate n ks))
    ∙ ap (λ m. get_or (ks ++ flat_map (λ k. k) (replicate n ks)) m d) here
    ∙ get_or_append_left ks (flat_map (λ k. k) (replicate n ks)) d cell within
kind_again (suc n) (suc index) cell ks d element within =
    let on : suc index * length ks + cell ≡ length ks + (index * length ks + cell) = omega (arith, suc-mul index (length ks)) in
    ap (λ l. get_or l (suc index * length ks + cell) d) (flat_map-cons (λ k. k) ks (replicate n ks))
    ∙ ap (λ m. get_or (ks ++ flat_map (λ k. k) (replicate n ks)) m d) on
    ∙ get_or-append-add ks (flat_map (λ k. k) (replicate n ks)) (index * length ks + cell) d
    ∙ kind_again n index cell ks d (omega (arith, element)) within

-- one value
pub value_read : (ks : List Kind) (codes : List ℕ) (i : ℕ) → i < length ks → i < length codes → get_or (values_from ks codes) i Null ≡ decoded (get_or ks i NumberKind) (get_or codes i 0)
value_read [] codes i kind code = absurd (omega (arith, kind))
value_read (k ∷ ks) [] i kind code = absurd (omega (arith, code))
value_read (k ∷ ks) (c ∷ cs) zero kind code = refl
value_read (k ∷ ks) (c ∷ cs) (suc i) kind code = value_read ks cs i (omega (arith, kind)) (omega (arith, code))

pub value_written : (ks : List Kind) (codes : List ℕ) (i c : ℕ) → i < length ks → values_from ks (set codes i c) ≡ set (values_from ks codes) i (decoded (get_or ks i NumberKind) c)
value_written [] codes i c kind = absurd (omega (arith, kind))
value_written (k ∷ ks) [] i c kind = refl
value_written (k ∷ ks) (d ∷ cs) zero c kind = refl
value_written (k ∷ ks) (d ∷ cs) (suc i) c kind = ap (λ vs. decoded k d ∷ vs) (value_written ks cs i c (omega (arith, kind)))

values_apart : (ks : List Kind) (codes : List ℕ) (i c : ℕ) → length ks ≤ i → values_from ks (set codes i c) ≡ values_from ks codes
values_apart [] codes i c past = refl
values_apart (k ∷ ks) [] i c past = refl
values_apart (k ∷ ks) (d ∷ cs) zero c past = absurd (omega (arith, past))
values_apart (k ∷ ks) (d ∷ cs) (suc i) c past = ap (λ vs. decoded k d ∷ vs) (values_apart ks cs i c (omega (arith, past)))

values_front : (ks : List Kind) (codes more : List ℕ) → length ks ≤ length codes → values_from ks (codes ++ more) ≡ values_from ks codes
values_front [] codes more long = refl
values_front (k ∷ ks) [] more long = absurd (omega (arith, long))
values_front (k ∷ ks) (d ∷ cs) more long = ap (λ vs. decoded k d ∷ vs) (values_front ks cs more (omega (arith, long)))

zero_value : (k : Kind) → decoded k 0 ≡ blank_of k
zero_value NumberKind = refl
zero_value RegionKind = refl
zero_value (PointerKind note) = refl

values_zero : (ks : List Kind) (n : ℕ) → length ks ≤ n → values_from ks (replicate n 0) ≡ map blank_of ks
values_zero [] n long = refl
values_zero (k ∷ ks) zero long = absurd (omega (arith, long))
values_zero (k ∷ ks) (suc n) long = ap (λ v. v ∷ values_from ks (replicate n 0)) (zero_value k) ∙ ap (λ vs. blank_of k ∷ vs) (values_zero ks n (omega (arith, long)))

blank_again : (n : ℕ) (ks : Shape) → map blank_of (flat_map (λ k. k) (replicate n ks)) ≡ flat_map (map blank_of) (replicate n ks)
blank_again zero ks = refl
blank_again (suc n) ks =
    ap (map blank_of) (flat_map-cons (λ k. k) ks (replicate n ks))
    ∙ map-append blank_of ks (flat_map (λ k. k) (replicate n ks))
    ∙ ap (λ vs. map blank_of ks ++ vs) (blank_again n ks)
    ∙ sym (flat_map-cons (map blank_of) ks (replicate n ks))

module _ (shapes : List Shape) where
  -- an object with these values
  abbrev valued : Head → List Value → KeptObject
  valued h vs = record { size = length (shape_of shapes h); count = h.count; kinds = kinds_in shapes h; values = vs }

  pub length-kinds : (h : Head) → length (kinds_in shapes h) ≡ size_in shapes h
  length-kinds h = length-again h.count (shape_of shapes h)

  -- the cells before an object
  abbrev pub before : ℕ → List Head → ℕ
  before o heads = sum_by (size_in shapes) (take o heads)

  before_more : (h : Head) (hs : List Head) (o : ℕ) → before (suc o) (h ∷ hs) ≡ size_in shapes h + before o hs
  before_more h hs o = sum_by-cons (size_in shapes) h (take o hs)

  pub start_is : (heads : List Head) (at o : ℕ) (d : Head) → AreLaid shapes at heads → o < length heads → (get_or heads o d).start ≡ at + before o heads
  start_is [] at o d laid inside = absurd (omega (arith, inside))
  start_is (h ∷ hs) at zero d laid inside = let here : h.start ≡ at = laid.0 in omega (arith, here)
  start_is (h ∷ hs) at (suc o) d laid inside = let rest = start_is hs (at + size_in shapes h) o d laid.2 (omega (arith, inside)) in omega (arith, rest, before_more h hs o)

  pub shape_is : (heads : List Head) (at o : ℕ) (d : Head) → AreLaid shapes at heads → o < length heads → (get_or heads o d).shape < length shapes
  shape_is [] at o d laid inside = absurd (omega (arith, inside))
  shape_is (h ∷ hs) at zero d laid inside = laid.1
  shape_is (h ∷ hs) at (suc o) d laid inside = shape_is hs (at + size_in shapes h) o d laid.2 (omega (arith, inside))

  pub object_read : (heads : List Head) (codes : List ℕ) (o : ℕ) (d : Head) → o < length heads → get_or (objects_from shapes heads codes) o no_object ≡ object_from shapes (get_or heads o d) (drop (before o heads) codes)
  object_read [] codes o d inside = absurd (omega (arith, inside))
  object_read (h ∷ hs) codes zero d inside = refl
  object_read (h ∷ hs) codes (suc o) d inside =
      object_read hs (drop (size_in shapes h) codes) o d (omega (arith, inside))
      ∙ ap (object_from shapes (get_or hs o d)) (drop-drop (before o hs) (size_in shapes h) codes ∙ ap (λ n. drop n codes) (sym (before_more h hs o)))

  pub length-objects : (heads : List Head) (codes : List ℕ) → length (objects_from shapes heads codes) ≡ length heads
  length-objects [] codes = refl
  length-objects (h ∷ hs) codes = ap suc (length-objects hs (drop (size_in shapes h) codes))

  pub object_written : (heads : List Head) (codes : List ℕ) (o at p c : ℕ) (d : Head) → o < length heads → p < size_in shapes (get_or heads o d) → at ≡ before o heads + p
      → objects_from shapes heads (set codes at c) ≡ set (objects_from shapes heads codes) o (object_from shapes (get_or heads o d) (set (drop (before o heads) codes) p c))
  object_written [] codes o at p c d inside below is = absurd (omega (arith, inside))
  object_written (h ∷ hs) codes zero at p c d inside below is =
      let here : at ≡ p = omega (arith, is) in
      ap (λ cs. object_from shapes h (set codes at c) ∷ objects_from shapes hs cs) (drop-set-lt (size_in shapes h) codes at c (omega (arith, here, below)))
      ∙ ap (λ n. object_from shapes h (set codes n c) ∷ objects_from shapes hs (drop (size_in shapes h) codes)) here
  object_written (h ∷ hs) codes (suc o) at p c d inside below is =
      let far : at ≡ size_in shapes h + (before o hs + p) = omega (arith, is, before_more h hs o) in
      let front : length (kinds_in shapes h) ≤ at = omega (arith, far, length-kinds h) in
      ap (λ vs. valued h vs ∷ objects_from shapes hs (drop (size_in shapes h) (set codes at c))) (values_apart (kinds_in shapes h) codes at c front)
      ∙ ap (λ cs. object_from shapes h codes ∷ objects_from shapes hs cs) (ap (λ n. drop (size_in shapes h) (set codes n c)) far ∙ drop-set-add (size_in shapes h) codes (before o hs + p) c)
      ∙ ap (λ os. object_from shapes h codes ∷ os) (object_written hs (drop (size_in shapes h) codes) o (before o hs + p) p c d (omega (arith, inside)) below refl)
      ∙ ap (λ cs. object_from shapes h codes ∷ set (objects_from shapes hs (drop (size_in shapes h) codes)) o (object_from shapes (get_or hs o d) (set cs p c))) (drop-drop (before o hs) (size_in shapes h) codes ∙ ap (λ n. drop n codes) (sym (before_more h hs o)))

  pub objects_more : (heads : List Head) (codes : List ℕ) (h : Head) → length codes ≡ sum_by (size_in shapes) heads
      → objects_from shapes (heads ++ h ∷ []) (codes ++ replicate (size_in shapes h) 0) ≡ objects_from shapes heads codes ++ blank (shape_of shapes h) h.count ∷ []
  objects_more [] codes h long =
      ap (λ cs. object_from shapes h (cs ++ replicate (size_in shapes h) 0) ∷ []) (nil_from_length codes long)
      ∙ ap (λ vs. valued h vs ∷ []) (values_zero (kinds_in shapes h) (size_in shapes h) (omega (arith, length-kinds h)) ∙ blank_again h.count (shape_of shapes h))
  objects_more (g ∷ gs) codes h long =
      let sum = sum_by-cons (size_in shapes) g gs in
      let enough : size_in shapes g ≤ length codes = omega (arith, long, sum) in
      let rest : length (drop (size_in shapes g) codes) ≡ sum_by (size_in shapes) gs = omega (arith, length-drop (size_in shapes g) codes, long, sum) in
      ap (λ vs. valued g vs ∷ objects_from shapes (gs ++ h ∷ []) (drop (size_in shapes g) (codes ++ replicate (size_in shapes h) 0))) (values_front (kinds_in shapes g) codes (replicate (size_in shapes h) 0) (omega (arith, enough, length-kinds g)))
      ∙ ap (λ cs. object_from shapes g codes ∷ objects_from shapes (gs ++ h ∷ []) cs) (drop-append-le (size_in shapes g) codes (replicate (size_in shapes h) 0) enough)
      ∙ ap (λ os. object_from shapes g codes ∷ os) (objects_more gs (drop (size_in shapes g) codes) h rest)

  pub laid_more : (heads : List Head) (at : ℕ) (h : Head) → AreLaid shapes at heads → h.start ≡ at + sum_by (size_in shapes) heads → h.shape < length shapes → AreLaid shapes at (heads ++ h ∷ [])
  laid_more [] at h laid start shape = (omega (arith, start), shape, tt)
  laid_more (g ∷ gs) at h laid start shape =
      (laid.0, laid.1, laid_more gs (at + size_in shapes g) h laid.2 (omega (arith, start, sum_by-cons (size_in shapes) g gs)) shape)

  -- more shapes change nothing
  module _ (more : List Shape) where
    same_shape : (h : Head) → h.shape < length shapes → shape_of (shapes ++ more) h ≡ shape_of shapes h
    same_shape h inside = get_or_append_left shapes more [] h.shape inside

    pub objects_kept : (heads : List Head) (at : ℕ) (codes : List ℕ) → AreLaid shapes at heads → objects_from (shapes ++ more) heads codes ≡ objects_from shapes heads codes
    objects_kept [] at codes laid = refl
    objects_kept (h ∷ hs) at codes laid =
        ap (λ ks. let o : KeptObject = record { size = length ks; count = h.count; kinds = flat_map (λ k. k) (replicate h.count ks); values = values_from (flat_map (λ k. k) (replicate h.count ks)) codes } in o ∷ objects_from (shapes ++ more) hs (drop (h.count * length ks) codes)) (same_shape h laid.1)
        ∙ ap (λ os. object_from shapes h codes ∷ os) (objects_kept hs (at + size_in shapes h) (drop (size_in shapes h) codes) laid.2)

    pub laid_kept : (heads : List Head) (at : ℕ) → AreLaid shapes at heads → AreLaid (shapes ++ more) at heads
    laid_kept [] at laid = tt
    laid_kept (h ∷ hs) at laid =
        (laid.0, omega (arith, laid.1, length-append shapes more), subst (λ ks. AreLaid (shapes ++ more) (at + h.count * length ks) hs) (sym (same_shape h laid.1)) (laid_kept hs (at + size_in shapes h) laid.2))

    pub sizes_kept : (heads : List Head) (at : ℕ) → AreLaid shapes at heads → sum_by (size_in (shapes ++ more)) heads ≡ sum_by (size_in shapes) heads
    sizes_kept [] at laid = refl
    sizes_kept (h ∷ hs) at laid =
        sum_by-cons (size_in (shapes ++ more)) h hs
        ∙ ap (λ ks. h.count * length ks + sum_by (size_in (shapes ++ more)) hs) (same_shape h laid.1)
        ∙ ap (λ n. size_in shapes h + n) (sizes_kept hs (at + size_in shapes h) laid.2)
        ∙ sym (sum_by-cons (size_in shapes) h hs)
