-- The accesses of region code fit an image: they stay in what the pointer points to, and wherever the indices lead there are cells of one
-- kind, that of the access.
use Rattle.std.proofs.Common.{◌≡◌, ◌<◌, ◌≤◌, ℕ, zero, suc, ◌+◌, ◌-◌, ◌*◌, ◌/◌, ◌%◌, Bool, true, false, not, ◌&&◌, nat_lt, List, [], ◌∷◌, ◌++◌, length, map, take, drop, get_or, if◌then◌else◌, Option, Some, None, refl, sym, ap, ◌∙◌, subst, arith, rules}
use Rattle.std.proofs.lemmas.Bool.{false≢true}
use Rattle.std.specs.Prelude.{IsTrue, slice_get}
use Rattle.std.specs.List.{AllByRecursion as Every}
use Rattle.std.proofs.lemmas.Nat.{div-add-mod'}
use Rattle.rc_base.specs.Limits.{most_struct_cells}
use Rattle.rc_core.specs.Types.{Ty, int, unsigned, char, region, struct, pointer, int_cell}
use Rattle.rc_core.specs.Layout.{Layout, cells, cells_by, copies, field_cells, fields_cells, layouts_after, layouts_of, size}
use Rattle.rc_core.specs.Typing.{is_struct, IsDefined}
use Rattle.rc_core.specs.Programs.{Field, Struct}
use Rattle.rc_core.specs.WellTyped.{StructsFit}
use Rattle.rc_rlang.specs.RegionCode.{Index, Access}
use Rattle.rc_rlang.specs.RegionNames.{AreNested, AreElements, cells_before, HasThere}
use Rattle.rc_emission.specs.StatementCode.{cell_type}
use Rattle.rc_kinds.proofs.Zips.{slice_below}
use Rattle.rc_safety.proofs.Lists.{every_append, every_get_or}
use Rattle.rc_code.specs.declared.image.Index.{Index as ImageIndex}
use Rattle.rc_code.specs.Image.{IndexFits, is_nested}
use Rattle.rc_code.specs.Reached.{span, is_reached}
use Rattle.rc_numbering.specs.Names.{index_of}
use Rattle.rc_numbering.specs.Sayable.{cell_for, cell_in, AccessFits}

-- ---- the indices of region code are those of its image

times_least : (n s : ℕ) → 1 ≤ s → n ≤ n * s
times_least zero s some = omega arith
times_least (suc n) s some = let x : suc n * s ≡ s + n * s = omega arith in let r = times_least n s some in omega (arith, x, r, some)

once_least : (n s : ℕ) → 1 ≤ n → s ≤ n * s
once_least zero s some = absurd (omega (arith, some))
once_least (suc n) s some = let x : suc n * s ≡ s + n * s = omega arith in omega (arith, x)

indices_fit : (room : ℕ) (is : List Index) → room < 4294967296 → AreNested room is → Every IndexFits (map index_of is)
indices_fit room [] small n = tt
indices_fit room (i ∷ is) small n =
    let inside = n.2 in
    let counts = times_least i.count i.stride n.1 in
    let far = once_least i.count i.stride n.0 in
    (record { some = n.0; apart = n.1; most = omega (arith, inside, counts, small); far = omega (arith, inside, far, small) }, indices_fit i.stride is (omega (arith, inside, far, small)) n.3)

are_nested : (room : ℕ) (is : List Index) → AreNested room is → is_nested (map index_of is) ≡ true
are_nested room [] n = refl
are_nested room (i ∷ []) n = refl
are_nested room (i ∷ j ∷ is) n =
    let inside = n.3.2 in
    let e : not (nat_lt i.stride (j.count * j.stride)) ≡ true = grind (arith, inside) in
    ap (λ b. b && is_nested (map index_of (j ∷ is))) e ∙ are_nested i.stride (j ∷ is) n.3

-- the first element of each array field, and the last
first_of : List Index → List ℕ
first_of [] = []
first_of (i ∷ is) = 0 ∷ first_of is

last_of : List Index → List ℕ
last_of [] = []
last_of (i ∷ is) = (i.count - 1) ∷ last_of is

first_chosen : (room : ℕ) (is : List Index) → AreNested room is → AreElements is (first_of is)
unfolding first_of
first_chosen room [] n = tt
first_chosen room (i ∷ is) n = (n.0, first_chosen i.stride is n.3)

first_before : (is : List Index) → cells_before is (first_of is) ≡ 0
unfolding first_of
first_before [] = refl
first_before (i ∷ is) = let r = first_before is in omega (arith, r)

last_chosen : (room : ℕ) (is : List Index) → AreNested room is → AreElements is (last_of is)
unfolding last_of
last_chosen room [] n = tt
last_chosen room (i ∷ is) n = ((let some = n.0 in omega (arith, some)), last_chosen i.stride is n.3)

last_before : (is : List Index) → cells_before is (last_of is) ≡ span (map index_of is)
unfolding last_of
last_before [] = refl
last_before (i ∷ is) = ap (λ k. (i.count - 1) * i.stride + k) (last_before is)

both_true : (a b : Bool) → (a && b) ≡ true → (a ≡ true) × (b ≡ true)
both_true true true e = (refl, refl)
both_true true false e = absurd cc
both_true false b e = absurd cc

reached_first : (i : ImageIndex) (is : List ImageIndex) (d : ℕ) → 1 ≤ i.stride → is_reached d (i ∷ is) ≡ true → (d / i.stride < i.length) × (is_reached (d % i.stride) is ≡ true)
reached_first i is d some e =
    let one : nat_lt 0 i.stride ≡ true = grind (arith, some) in
    let b = both_true (nat_lt (d / i.stride) i.length) (is_reached (d % i.stride) is) (sym (ap (λ c. if c then nat_lt (d / i.stride) i.length && is_reached (d % i.stride) is else false) one) ∙ e) in
    let x = b.0 in
    (grind (arith, x), b.1)

-- a choice of elements that leads so far
record Choice (is : List Index) (d : ℕ) : Type 0 where
  chosen : List ℕ
  elements : AreElements is chosen
  leads : cells_before is chosen ≡ d

choice : (room : ℕ) (is : List Index) (d : ℕ) → AreNested room is → is_reached d (map index_of is) ≡ true → Choice is d
choice room [] d n e = let z : d ≡ 0 = search (rules, e) in record { chosen = []; elements = tt; leads = omega (arith, z) }
choice room (i ∷ is) d n e =
    let p = reached_first (index_of i) (map index_of is) d n.1 e in
    let r = choice i.stride is (d % i.stride) n.3 p.1 in
    let s = div-add-mod' d i.stride in
    let l = r.leads in
    record { chosen = d / i.stride ∷ r.chosen; elements = (p.0, r.elements); leads = omega (arith, s, l) }

-- ---- parts of lists

front_there : {A : Type 0} (xs : List A) (m n : ℕ) (x : A) → n < length (take m xs) → (n < length xs) × (get_or xs n x ≡ get_or (take m xs) n x)
front_there xs zero n x lt = absurd (omega (arith, lt))
front_there [] (suc m) n x lt = absurd (omega (arith, lt))
front_there (y ∷ xs) (suc m) zero x lt = (omega arith, refl)
front_there (y ∷ xs) (suc m) (suc n) x lt = let r = front_there xs m n x (omega (arith, lt)) in ((let l = r.0 in omega (arith, l)), r.1)

behind_there : {A : Type 0} (xs : List A) (at n : ℕ) (x : A) → n < length (drop at xs) → (at + n < length xs) × (get_or xs (at + n) x ≡ get_or (drop at xs) n x)
behind_there xs zero n x lt = let e : 0 + n ≡ n = omega arith in (omega (arith, lt), ap (λ k. get_or xs k x) e)
behind_there [] (suc at) n x lt = absurd (omega (arith, lt))
behind_there (y ∷ xs) (suc at) n x lt =
    let r = behind_there xs at n x lt in
    let e : suc at + n ≡ suc (at + n) = omega arith in
    ((let l = r.0 in omega (arith, l)), ap (λ k. get_or (y ∷ xs) k x) e ∙ r.1)

part_there : {A : Type 0} (whole part : List A) (at n : ℕ) (x : A) → take (length part) (drop at whole) ≡ part → n < length part → (at + n < length whole) × (get_or whole (at + n) x ≡ get_or part n x)
part_there whole part at n x e lt =
    let long = ap length e in
    let a = front_there (drop at whole) (length part) n x (omega (arith, long, lt)) in
    let b = behind_there whole at n x a.0 in
    (b.0, b.1 ∙ a.1 ∙ ap (λ ys. get_or ys n x) e)

every_get : {A : Type 0} (P : A → Type 0) (xs : List A) (n : ℕ) (x : A) → n < length xs → Every P xs → P (get_or xs n x)
every_get P [] n x lt all = absurd (omega (arith, lt))
every_get P (y ∷ xs) zero x lt all = all.0
every_get P (y ∷ xs) (suc n) x lt all = every_get P xs n x (omega (arith, lt)) all.1

-- ---- cells

-- each cell names types that are there
abbrev CellsDefined : List Struct → Layout → Type 0
CellsDefined structs layout = Every (λ k. IsDefined structs (cell_type k)) layout

module _ (structs : List Struct) where
  by_layouts : (layouts : List Layout) → Every (CellsDefined structs) layouts → (t : Ty) → IsDefined structs t → CellsDefined structs (cells_by layouts t)
  by_layouts layouts all int d = (tt, tt)
  by_layouts layouts all unsigned d = (tt, tt)
  by_layouts layouts all char d = (tt, tt)
  by_layouts layouts all region d = (tt, tt)
  by_layouts layouts all (struct k) d = every_get_or (CellsDefined structs) layouts k [] tt all
  by_layouts layouts all (pointer note target) d = (d, tt)

  copies_defined : (c : Option ℕ) (layout : Layout) → CellsDefined structs layout → CellsDefined structs (copies c layout)
  copies_defined None layout all = all
  copies_defined (Some zero) layout all = tt
  copies_defined (Some (suc n)) layout all = every_append (λ k. IsDefined structs (cell_type k)) layout (copies (Some n) layout) all (copies_defined (Some n) layout all)

  fields_defined : (layouts : List Layout) → Every (CellsDefined structs) layouts → (fields : List Field) → ((j : ℕ) (f : Field) → slice_get fields j ≡ Some f → IsDefined structs f.ty) → CellsDefined structs (fields_cells layouts fields)
  fields_defined layouts all [] each = tt
  fields_defined layouts all (f ∷ fields) each =
      every_append (λ k. IsDefined structs (cell_type k)) (field_cells layouts f) (fields_cells layouts fields) (copies_defined f.count (cells_by layouts f.ty) (by_layouts layouts all f.ty (each 0 f refl))) (fields_defined layouts all fields (λ j g e. each (suc j) g e))

  after_defined : (acc : List Layout) (ss : List Struct) → Every (CellsDefined structs) acc → ((k : ℕ) (fields : Struct) → slice_get ss k ≡ Some fields → (j : ℕ) (f : Field) → slice_get fields j ≡ Some f → IsDefined structs f.ty) → Every (CellsDefined structs) (layouts_after acc ss)
  after_defined acc [] all each = all
  after_defined acc (fields ∷ ss) all each =
      after_defined (acc ++ fields_cells acc fields ∷ []) ss (every_append (CellsDefined structs) acc (fields_cells acc fields ∷ []) all (fields_defined acc all fields (each 0 fields refl), tt)) (λ k fs e. each (suc k) fs e)

module _ (structs : List Struct) (fit : StructsFit structs) where
  cells_defined : (t : Ty) → IsDefined structs t → Every (λ k. IsDefined structs (cell_type k)) (cells structs t)
  cells_defined t d = by_layouts structs (layouts_of structs) (after_defined structs [] structs tt (λ k fields e j f q. ((fit k fields e).fields_fit j f q).defined)) t d

  pub few_cells : (t : Ty) → IsDefined structs t → size structs t ≤ most_struct_cells
  few_cells int d = omega arith
  few_cells unsigned d = omega arith
  few_cells char d = omega arith
  few_cells region d = omega arith
  few_cells (struct k) d = let s = slice_below structs k d in (fit k s.0 s.1).small
  few_cells (pointer note target) d = omega arith

  -- ---- accesses

  one_cell_of : (t : Ty) → IsTrue (not (is_struct t)) → (0 < size structs t) × (get_or (cells structs t) 0 int_cell ≡ cell_for t)
  one_cell_of int n = (omega arith, refl)
  one_cell_of unsigned n = (omega arith, refl)
  one_cell_of char n = (omega arith, refl)
  one_cell_of region n = (omega arith, refl)
  one_cell_of (struct k) n = absurd (false≢true n)
  one_cell_of (pointer note target) n = (omega arith, refl)

  cell_defined : (t : Ty) → IsTrue (not (is_struct t)) → IsDefined structs (cell_type (cell_for t)) → IsDefined structs t
  cell_defined int n d = tt
  cell_defined unsigned n d = tt
  cell_defined char n d = tt
  cell_defined region n d = tt
  cell_defined (struct k) n d = absurd (false≢true n)
  cell_defined (pointer note target) n d = d

  -- of one of the cells of a type that is there, whatever elements are chosen
  pub one_fits : (a : Access) (at n : ℕ) (t : Ty) → AreNested (size structs a.element) a.indices → ((chosen : List ℕ) → AreElements a.indices chosen → HasThere structs (cells structs a.element) (at + cells_before a.indices chosen) t) → a.offset ≡ at + n → n < size structs t
      → IsDefined structs a.element → IsTrue (not (is_struct a.cell)) → get_or (cells structs t) n int_cell ≡ cell_for a.cell → AccessFits structs a
  one_fits a at n t nested there e lt defined single is = record {
    defined = defined;
    cell_defined = cell_defined a.cell single
        (subst (λ k. IsDefined structs (cell_type k)) (found (first_of a.indices) first).1
        (every_get (λ k. IsDefined structs (cell_type k)) (cells structs a.element) (a.offset + cells_before a.indices (first_of a.indices)) int_cell (found (first_of a.indices) first).0 (cells_defined a.element defined)));
    one_cell = single;
    cell = cell;
    inside = let l = (found (last_of a.indices) (last_chosen (size structs a.element) a.indices nested)).0 in let s = last_before a.indices in omega (arith, l, s);
    indices = indices_fit (size structs a.element) a.indices (let few = few_cells a.element defined in omega (arith, few)) nested;
    nested = are_nested (size structs a.element) a.indices nested;
    alike = λ k h. let c = choice (size structs a.element) a.indices k nested h in ap (λ m. cell_in structs a.element (a.offset + m)) (sym c.leads) ∙ (found c.chosen c.elements).1 ∙ sym cell;
  }
    where
      found : (chosen : List ℕ) → AreElements a.indices chosen → (a.offset + cells_before a.indices chosen < size structs a.element) × (cell_in structs a.element (a.offset + cells_before a.indices chosen) ≡ cell_for a.cell)
      found chosen ok =
          let p = part_there (cells structs a.element) (cells structs t) (at + cells_before a.indices chosen) n int_cell (there chosen ok) lt in
          let q : a.offset + cells_before a.indices chosen ≡ at + cells_before a.indices chosen + n = omega (arith, e) in
          let l = p.0 in
          (omega (arith, l, q), ap (λ m. cell_in structs a.element m) q ∙ p.1 ∙ is)

      first : AreElements a.indices (first_of a.indices)
      first = first_chosen (size structs a.element) a.indices nested

      cell : cell_in structs a.element a.offset ≡ cell_for a.cell
      cell =
          let z = first_before a.indices in
          let q : a.offset ≡ a.offset + cells_before a.indices (first_of a.indices) = omega (arith, z) in
          ap (λ m. cell_in structs a.element m) q ∙ (found (first_of a.indices) first).1

  pub access_fits : (a : Access) → AreNested (size structs a.element) a.indices → ((chosen : List ℕ) → AreElements a.indices chosen → HasThere structs (cells structs a.element) (a.offset + cells_before a.indices chosen) a.cell) → IsDefined structs a.element → IsTrue (not (is_struct a.cell)) → AccessFits structs a
  access_fits a nested there defined single = let c = one_cell_of a.cell single in one_fits a a.offset 0 a.cell nested there (omega arith) c.0 defined single c.1
