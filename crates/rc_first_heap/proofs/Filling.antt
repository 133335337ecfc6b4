-- Region 0 alone: an object more, and objects of number cells that are filled one by one.
use Rattle.std.proofs.Common.{◌≡◌, ◌<◌, ◌+◌, ◌*◌, ◌∙◌, ℕ, zero, suc, List, [], ◌∷◌, ◌++◌, length, map, set, get_or, replicate, take, Some, refl, sym, ap, subst, arith}
use Rattle.std.specs.Prelude.{flat_map, pos}
use Rattle.std.specs.List.{AllByRecursion as Every}
use Rattle.std.proofs.lemmas.List.{get_or_at, get_or-map, set_at, length-append, length-map}
use Rattle.rc_core.specs.declared.layouts.Kind.{Kind}
use Rattle.rc_core.specs.declared.layouts.Kind.TheVariants.{Number as NumberKind}
use Rattle.rc_core.specs.declared.layout.CellKind.{CellKind}
use Rattle.rc_core.specs.Types.{int_cell}
use Rattle.rc_core.specs.Shapes.{cell_kind_of}
use Rattle.rc_core.specs.Heap.{Value, Number}
use Rattle.rc_core.specs.Heap.{blank as blank_object}
use Rattle.rc_core.specs.Laid.{held_kind}
use Rattle.rc_core.specs.Layout.{Layout}
use Rattle.rc_store.specs.Kept.{KeptObject, KeptStore, Regions, blank, kept_object}
use Rattle.rc_store.specs.Stores.{IsLive, allocated, no_object, object_with, with_objects, written}
use Rattle.rc_store.specs.Values.{blank_of}
use Rattle.rc_store.proofs.Keeping.{keeps_the_store}
use Rattle.rc_first_heap.specs.First.{HasNumber, IsAlone, IsNumber, first_of, holding, place_of}

abbrev pub root_with : List KeptObject → Regions
root_with objects = Some (record { parent = 0; objects = objects }) ∷ []

module _ (s : KeptStore) (alone : IsAlone s) where
  pub regions_are : s.regions ≡ root_with (first_of s)
  regions_are = ap (λ (q : KeptStore). q.regions) alone

  pub is_live : IsLive s 0
  is_live = subst (λ q. IsLive q 0) (sym alone) refl

  pub is_one : length s.regions ≡ 1
  is_one = ap length regions_are

  pub one_more : (kinds : List Kind) (n : ℕ) → allocated 0 kinds n s ≡ holding (first_of s ++ blank kinds n ∷ []) s
  one_more kinds n = ap (λ rs. record s { regions = with_objects 0 (first_of s ++ blank kinds n ∷ []) rs }) regions_are

-- ---- an object of n number cells

abbrev pub number_kinds : ℕ → List Kind
number_kinds n = flat_map (λ ks. ks) (replicate n (NumberKind ∷ []))

abbrev pub numbers : (n : ℕ) → List Value → KeptObject
numbers n values = record { size = 1; count = n; kinds = number_kinds n; values = values }

are_numbers : (n i : ℕ) → get_or (number_kinds n) i NumberKind ≡ NumberKind
are_numbers zero i = refl
are_numbers (suc n) zero = refl
are_numbers (suc n) (suc i) = are_numbers n i

pub blank_is : (n : ℕ) → blank (NumberKind ∷ []) n ≡ numbers n (flat_map (map blank_of) (replicate n (NumberKind ∷ [])))
blank_is n = refl

-- what is kept of an object with other values
pub kept_with : (layout : Layout) (n : ℕ) (values : List Value) → IsNumber layout → kept_object (record (blank_object layout n) { values = values }) ≡ numbers n values
kept_with layout n values is =
    let kept = keeps_the_store.blanks layout n in
    ap (λ (o : KeptObject). record o { values = values }) (kept ∙ ap (λ ks. blank ks n) is)

module _ (s : KeptStore) (before : List KeptObject) (n : ℕ) (values : List Value) (o i : ℕ) (last : o ≡ length before) where
  abbrev filled : KeptStore
  filled = holding (before ++ numbers n values ∷ []) s

  here : get_or (before ++ numbers n values ∷ []) o no_object ≡ numbers n values
  here = get_or_at before (numbers n values) [] no_object o (sym last)

  pub has_number : (now : KeptStore) → now ≡ filled → i < n → HasNumber now o i
  has_number now is low =
      let more = length-append before (numbers n values ∷ []) in
      subst (λ q. HasNumber q o i) (sym is) (record {
        live = refl;
        there = omega (arith, last, more);
        width = ap (λ (q : KeptObject). q.size) here;
        within = subst (λ (q : KeptObject). i < q.count) (sym here) low;
        kind = ap (λ (q : KeptObject). get_or q.kinds i NumberKind) here ∙ are_numbers n i;
      })

  place_is : i * 1 + 0 ≡ i
  place_is = omega arith

  pub number_written : (now : KeptStore) (v : Value) → now ≡ filled → written (place_of o i) v now ≡ holding (before ++ numbers n (set values i v) ∷ []) s
  number_written now v is =
      ap (written (place_of o i) v) is
      ∙ ap (λ x. holding (set (before ++ numbers n values ∷ []) o (object_with i 0 v x)) s) here
      ∙ ap (λ p. holding (set (before ++ numbers n values ∷ []) o (numbers n (set values p v))) s) place_is
      ∙ ap (λ objects. holding objects s) (set_at before (numbers n values) [] (numbers n (set values i v)) o (sym last))

-- ---- bytes, of which so many are written

abbrev pub begun : List ℕ → ℕ → List Value
begun [] i = []
begun (b ∷ bytes) zero = Number (pos 0) ∷ begun bytes zero
begun (b ∷ bytes) (suc i) = Number (pos b) ∷ begun bytes i

begun_none : (bytes : List ℕ) → flat_map (map blank_of) (replicate (length bytes) (NumberKind ∷ [])) ≡ begun bytes 0
begun_none [] = refl
begun_none (b ∷ bytes) = ap (λ vs. Number (pos 0) ∷ vs) (begun_none bytes)

pub begun_first : (bytes : List ℕ) (n : ℕ) → length bytes ≡ n → flat_map (map blank_of) (replicate n (NumberKind ∷ [])) ≡ begun bytes 0
begun_first bytes n all = ap (λ m. flat_map (map blank_of) (replicate m (NumberKind ∷ []))) (sym all) ∙ begun_none bytes

begun_suc : (bytes : List ℕ) (i b : ℕ) → i < length bytes → b ≡ get_or bytes i b → set (begun bytes i) i (Number (pos b)) ≡ begun bytes (suc i)
begun_suc [] i b low read = absurd (omega (arith, low))
begun_suc (x ∷ bytes) zero b low read = ap (λ y. Number (pos y) ∷ begun bytes zero) read
begun_suc (x ∷ bytes) (suc i) b low read = ap (λ vs. Number (pos x) ∷ vs) (begun_suc bytes i b (omega (arith, low)) read)

pub begun_more : (bytes : List ℕ) (i b : ℕ) → i < length bytes → b ≡ get_or bytes i b → set (begun bytes i) i (Number (pos b)) ≡ begun bytes (i + 1)
begun_more bytes i b low read =
    let one : suc i ≡ i + 1 = omega arith in
    begun_suc bytes i b low read ∙ ap (begun bytes) one

begun_whole : (bytes : List ℕ) → begun bytes (length bytes) ≡ map (λ b. Number (pos b)) bytes
begun_whole [] = refl
begun_whole (b ∷ bytes) = ap (λ vs. Number (pos b) ∷ vs) (begun_whole bytes)

pub begun_all : (bytes : List ℕ) (n : ℕ) → n ≡ length bytes → begun bytes n ≡ map (λ b. Number (pos b)) bytes
begun_all bytes n all = ap (begun bytes) all ∙ begun_whole bytes

-- ---- walks

every_suc : {A : Type 0} (P : A → Type 0) (xs : List A) (i : ℕ) (x : A) → x ≡ get_or xs i x → P x → Every P (take i xs) → Every P (take (suc i) xs)
every_suc P [] i x read p all = tt
every_suc P (y ∷ xs) zero x read p all = (subst P read p, tt)
every_suc P (y ∷ xs) (suc i) x read p all = (all.0, every_suc P xs i x read p all.1)

pub every_more : {A : Type 0} (P : A → Type 0) (xs : List A) (i : ℕ) (x : A) → x ≡ get_or xs i x → P x → Every P (take i xs) → Every P (take (i + 1) xs)
every_more P xs i x read p all =
    let one : suc i ≡ i + 1 = omega arith in
    subst (λ k. Every P (take k xs)) one (every_suc P xs i x read p all)

-- the kind of a layout's first cell
pub first_cell : (items : List CellKind) (cell : CellKind) → map held_kind (map cell_kind_of items) ≡ NumberKind ∷ [] → cell ≡ get_or items 0 cell → cell_kind_of cell ≡ get_or (map cell_kind_of items) 0 int_cell
first_cell items cell is read =
    let one = ap length is in
    let same = length-map (map cell_kind_of items) held_kind in
    let again = length-map items cell_kind_of in
    ap cell_kind_of read ∙ sym (get_or-map cell_kind_of items 0 cell int_cell (omega (arith, one, same, again)))
