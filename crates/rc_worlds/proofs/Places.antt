-- What the rules of an image's fields say of its paths: indices in range lead to cells of the type, and of one kind.
use Rattle.std.proofs.Common.{◌≡◌, ℕ, zero, suc, ◌+◌, ◌-◌, ◌*◌, ◌/◌, ◌%◌, ◌<◌, ◌≤◌, ℤ, Bool, true, false, not, ◌&&◌, nat_lt, List, [], ◌∷◌, length, map, get_or, if◌then◌else◌, refl, sym, ap, ◌∙◌, subst, arith}
use Rattle.std.specs.Prelude.{◌==◌, unsigned_abs}
use Rattle.std.specs.List.{AllByRecursion as Every, list_all}
use Rattle.std.proofs.lemmas.Nat.{div-mul-add, mod-mul-add}
use Rattle.std.proofs.lemmas.Bool.Decides.{nat_tests}
use Rattle.rc_core.specs.declared.ty.NumberType.TheVariants as numbers
use Rattle.rc_core.specs.declared.ty.Note.TheVariants as note
use Rattle.rc_core.specs.Types.{CellKind, int_cell, unsigned_cell, char_cell, region_cell, pointer_cell, struct}
use Rattle.rc_core.specs.Heap.{Value}
use Rattle.rc_core.specs.Source.{is_index, chosen_in_range, cells_chosen}
use Rattle.rc_core.specs.Evaluation.{number_in}
use Rattle.rc_code.specs.declared.kind.Cell.{Cell}
use Rattle.rc_code.specs.declared.kind.Cell.TheVariants as cell
use Rattle.rc_code.specs.declared.image.Index.{Index}
use Rattle.rc_code.specs.Kinds.{cell_tag, cell_type, same_cell}
use Rattle.rc_code.specs.Image.{IndexFits, is_apart, is_nested}
use Rattle.rc_code.specs.Reached.{span, is_reached, is_alike, are_alike}
use Rattle.rc_code.specs.Running.{chosen_values, cell_kind}
use Rattle.rc_worlds.proofs.WorldOps.{index_is_below}

both_true : (a b : Bool) → (a && b) ≡ true → (a ≡ true) × (b ≡ true)
both_true true true e = (refl, refl)
both_true true false e = absurd cc
both_true false b e = absurd cc

-- ---- where indices in range lead

-- one past the farthest cell
abbrev top : List Index → ℕ
top [] = 1
top (i ∷ is) = i.length * i.stride

apart_top : (i : Index) (is : List Index) → 1 ≤ i.stride → is_apart i is ≡ true → top is ≤ i.stride
apart_top i [] some e = some
apart_top i (j ∷ is) some e = grind (arith, e)

times_below : (a n s : ℕ) → a < n → a * s + s ≤ n * s
times_below a zero s e = absurd (omega (arith, e))
times_below zero (suc n) s e = let x : suc n * s ≡ s + n * s = omega arith in omega (arith, x)
times_below (suc a) (suc n) s e =
    let h = times_below a n s (omega (arith, e)) in
    let x : suc n * s ≡ s + n * s = omega arith in
    let y : suc a * s ≡ s + a * s = omega arith in
    omega (arith, h, x, y)

-- of the first index and of the rest
one_below : (i : Index) (is : List Index) (z : ℤ) (rest : ℕ) → IndexFits i → is_apart i is ≡ true → unsigned_abs z < i.length → rest < top is → unsigned_abs z * i.stride + rest < i.length * i.stride
one_below i is z rest fits apart below e =
    let h = times_below (unsigned_abs z) i.length i.stride below in
    let t = apart_top i is fits.apart apart in
    omega (arith, h, t, e)

below_top : (is : List Index) (vs : List Value) → Every IndexFits is → is_nested is ≡ true → length vs ≡ length is → list_all chosen_in_range (chosen_values is vs) ≡ true → cells_chosen (chosen_values is vs) < top is
below_top [] vs fits nested long e = omega arith
below_top (i ∷ is) [] fits nested long e = absurd cc
below_top (i ∷ is) (v ∷ vs) fits nested long e =
    let b = both_true (is_index (number_in v) i.length) (list_all chosen_in_range (chosen_values is vs)) e in
    let n = both_true (is_apart i is) (is_nested is) nested in
    one_below i is (number_in v) (cells_chosen (chosen_values is vs)) fits.0 n.0 (index_is_below (number_in v) i.length b.0) (below_top is vs fits.1 n.1 (omega (arith, long)) b.1)

pub inside_span : (is : List Index) (vs : List Value) → length vs ≡ length is → list_all chosen_in_range (chosen_values is vs) ≡ true → cells_chosen (chosen_values is vs) ≤ span is
inside_span [] vs long e = omega arith
inside_span (i ∷ is) [] long e = absurd cc
inside_span (i ∷ is) (v ∷ vs) long e =
    let b = both_true (is_index (number_in v) i.length) (list_all chosen_in_range (chosen_values is vs)) e in
    let below = index_is_below (number_in v) i.length b.0 in
    let h = inside_span is vs (omega (arith, long)) b.1 in
    let t = least (unsigned_abs (number_in v)) i.length i.stride below in
    omega (arith, h, t)
  where
    least : (a n s : ℕ) → a < n → a * s ≤ (n - 1) * s
    least a zero s e = absurd (omega (arith, e))
    least a (suc n) s e =
        let x = times_below a (suc n) s e in
        let y : suc n * s ≡ s + n * s = omega arith in
        let z : suc n - 1 ≡ n = omega arith in
        subst (λ m. a * s ≤ m * s) (sym z) (omega (arith, x, y))

-- so the cell is one of those that are looked at
pub is_reached_there : (is : List Index) (vs : List Value) → Every IndexFits is → is_nested is ≡ true → length vs ≡ length is → list_all chosen_in_range (chosen_values is vs) ≡ true → is_reached (cells_chosen (chosen_values is vs)) is ≡ true
is_reached_there [] vs fits nested long e = refl
is_reached_there (i ∷ is) [] fits nested long e = absurd cc
is_reached_there (i ∷ is) (v ∷ vs) fits nested long e =
    let b = both_true (is_index (number_in v) i.length) (list_all chosen_in_range (chosen_values is vs)) e in
    let n = both_true (is_apart i is) (is_nested is) nested in
    let below = index_is_below (number_in v) i.length b.0 in
    let rest = below_top is vs fits.1 n.1 (omega (arith, long)) b.1 in
    let t = apart_top i is fits.0.apart n.0 in
    let small : cells_chosen (chosen_values is vs) < i.stride = omega (arith, rest, t) in
    at (unsigned_abs (number_in v)) (cells_chosen (chosen_values is vs)) fits.0.apart below small (is_reached_there is vs fits.1 n.1 (omega (arith, long)) b.1)
  where
    at : (a rest : ℕ) → 1 ≤ i.stride → a < i.length → rest < i.stride → is_reached rest is ≡ true → is_reached (a * i.stride + rest) (i ∷ is) ≡ true
    at a rest some below small more =
        let d = div-mul-add a i.stride rest small in
        let m = mod-mul-add a i.stride rest small in
        let one : nat_lt 0 i.stride ≡ true = grind (arith, some) in
        let two : nat_lt a i.length ≡ true = grind (arith, below) in
        ap (λ c. if c then nat_lt ((a * i.stride + rest) / i.stride) i.length && is_reached ((a * i.stride + rest) % i.stride) is else false) one
        ∙ ap (λ q. nat_lt q i.length && is_reached ((a * i.stride + rest) % i.stride) is) d
        ∙ ap (λ c. c && is_reached ((a * i.stride + rest) % i.stride) is) two
        ∙ ap (λ r. is_reached r is) m
        ∙ more

-- ---- cells of one kind

abbrev kinds_by_tag : ℕ → List CellKind
kinds_by_tag type =
    int_cell ∷ unsigned_cell ∷ char_cell ∷ region_cell ∷ pointer_cell note.Plain (struct type) ∷ pointer_cell note.SameRegion (struct type)
    ∷ pointer_cell note.ParentPtr (struct type) ∷ pointer_cell note.Traditional (struct type) ∷ []

kind_by_tag : (c : Cell) → cell_kind c ≡ get_or (kinds_by_tag (cell_type c)) (cell_tag c) int_cell
kind_by_tag (cell.Number numbers.Int) = refl
kind_by_tag (cell.Number numbers.Unsigned) = refl
kind_by_tag (cell.Number numbers.Char) = refl
kind_by_tag cell.Region = refl
kind_by_tag (cell.Pointer note.Plain type) = refl
kind_by_tag (cell.Pointer note.SameRegion type) = refl
kind_by_tag (cell.Pointer note.ParentPtr type) = refl
kind_by_tag (cell.Pointer note.Traditional type) = refl

number_test : (b c : ℕ) → (b == c) ≡ true → b ≡ c
number_test b c h = grind (arith, nat_tests)

same_kind : (a b : Cell) → same_cell a b ≡ true → cell_kind a ≡ cell_kind b
same_kind a b e =
    let x = both_true (cell_tag a == cell_tag b) (cell_type a == cell_type b) e in
    kind_by_tag a
    ∙ ap (λ n. get_or (kinds_by_tag (cell_type a)) n int_cell) (number_test (cell_tag a) (cell_tag b) x.0)
    ∙ ap (λ t. get_or (kinds_by_tag t) (cell_tag b) int_cell) (number_test (cell_type a) (cell_type b) x.1)
    ∙ sym (kind_by_tag b)

pub alike_there : (first : Cell) (is : List Index) (k : ℕ) (cells : List Cell) (n : ℕ) → are_alike first is k cells ≡ true → n < length cells → is_reached (k + n) is ≡ true → get_or (map cell_kind cells) n int_cell ≡ cell_kind first
alike_there first is k [] n e below reached = absurd (omega (arith, below))
alike_there first is k (c ∷ cells) zero e below reached =
    let b = both_true (is_alike first is k c) (are_alike first is (suc k) cells) e in
    let at : k + 0 ≡ k = omega arith in
    by (same_cell c first) refl b.0 (ap (λ d. is_reached d is) (sym at) ∙ reached)
  where
    by : (s : Bool) → same_cell c first ≡ s → is_alike first is k c ≡ true → is_reached k is ≡ true → cell_kind c ≡ cell_kind first
    by true same alike reached = same_kind c first same
    by false same alike reached =
        let no : not (is_reached k is) ≡ true = ap (λ s. if s then true else not (is_reached k is)) (sym same) ∙ alike in
        let yes = ap not reached in
        absurd cc
alike_there first is k (c ∷ cells) (suc n) e below reached =
    let b = both_true (is_alike first is k c) (are_alike first is (suc k) cells) e in
    let at : k + suc n ≡ suc k + n = omega arith in
    alike_there first is (suc k) cells n b.1 (omega (arith, below)) (ap (λ d. is_reached d is) (sym at) ∙ reached)
