-- The tests of what a path reaches are the rules.
use Rattle.std.proofs.Common.{◌≡◌, ◌↔◌, ◌<◌, ◌≤◌, ℕ, zero, suc, ◌+◌, ◌-◌, ◌*◌, ◌/◌, ◌%◌, Bool, true, false, ◌&&◌, not, cond, ltb, eqb, List, [], ◌∷◌, length, drop, get_or, slice_get, Some, refl, sym, ap, subst, ◌∙◌, arith}
use Rattle.std.specs.List.{AllByRecursion as Every}
use Rattle.std.proofs.lemmas.Bool.{eq-eqb, eqb-true, false≢true, ltb-true, lt-ltb}
use Rattle.std.proofs.lemmas.List.{length-drop, get_or-drop}
use Rattle.std.proofs.lemmas.Nat.{div-add-mod', div-mul-add, mod-mul-add}
use Rattle.std.proofs.lemmas.Option.{slice_get-get_or}
use Rattle.rc_core.specs.declared.ty.NumberType.TheVariants as numbers
use Rattle.rc_core.specs.declared.ty.Note.TheVariants as note
use Rattle.rc_code.specs.declared.kind.Cell.{Cell}
use Rattle.rc_code.specs.declared.kind.Cell.TheVariants as cell
use Rattle.rc_code.specs.declared.image.Index.{Index}
use Rattle.rc_code.specs.declared.image.Path.{Path}
use Rattle.rc_code.specs.Image.{IsNumber, IndexFits, PathFits, InRange, reach, is_apart, is_nested, cells_at}
use Rattle.rc_code.specs.Reached.{are_alike, has_one_kind, is_alike, is_reached, span}
use Rattle.rc_code.specs.Kinds.{cell_tag, cell_type, same_cell}

both_true : (a b : Bool) → (a && b) ≡ true → (a ≡ true) × (b ≡ true)
both_true true true e = (refl, refl)
both_true true false e = absurd cc
both_true false b e = absurd cc

-- ---- equal cells

abbrev by_tag : ℕ → List Cell
by_tag type =
    cell.Number numbers.Int ∷ cell.Number numbers.Unsigned ∷ cell.Number numbers.Char ∷ cell.Region ∷ cell.Pointer note.Plain type ∷ cell.Pointer note.SameRegion type
    ∷ cell.Pointer note.ParentPtr type ∷ cell.Pointer note.Traditional type ∷ []

back : (c : Cell) → get_or (by_tag (cell_type c)) (cell_tag c) cell.Region ≡ c
back (cell.Number numbers.Int) = refl
back (cell.Number numbers.Unsigned) = refl
back (cell.Number numbers.Char) = refl
back cell.Region = refl
back (cell.Pointer note.Plain type) = refl
back (cell.Pointer note.SameRegion type) = refl
back (cell.Pointer note.ParentPtr type) = refl
back (cell.Pointer note.Traditional type) = refl

same_is : (a b : Cell) → same_cell a b ≡ true → a ≡ b
same_is a b e =
    let both = both_true (eqb (cell_tag a) (cell_tag b)) (eqb (cell_type a) (cell_type b)) e in
    sym (back a) ∙ ap (λ n. get_or (by_tag (cell_type a)) n cell.Region) (eqb-true _ _ both.0) ∙ ap (λ t. get_or (by_tag t) (cell_tag b) cell.Region) (eqb-true _ _ both.1) ∙ back b

same_itself : (a : Cell) → same_cell a a ≡ true
same_itself a = ap (λ x. x && eqb (cell_type a) (cell_type a)) (eq-eqb (cell_tag a) (cell_tag a) refl) ∙ eq-eqb (cell_type a) (cell_type a) refl

-- ---- where indices lead

abbrev top : List Index → ℕ
top [] = 1
top (i ∷ is) = i.length * i.stride

apart_top : (i : Index) (is : List Index) → 1 ≤ i.stride → is_apart i is ≡ true → top is ≤ i.stride
apart_top i [] some e = some
apart_top i (j ∷ is) some e = grind (arith, e)

times_below : (a n s : ℕ) → a < n → a * s + s ≤ n * s
times_below a zero s e = absurd (omega (arith, e))
times_below zero (suc n) s e = let x : suc n * s ≡ s + n * s = omega arith in omega (arith, x)
times_below (suc a) (suc n) s e =
    let h = times_below a n s (omega (arith, e)) in
    let x : suc n * s ≡ s + n * s = omega arith in
    let y : suc a * s ≡ s + a * s = omega arith in
    omega (arith, h, x, y)

pub below_span : (is : List Index) (ns : List ℕ) → InRange is ns → reach is ns ≤ span is
below_span [] [] within = omega arith
below_span [] (n ∷ ns) within = absurd within
below_span (i ∷ is) [] within = absurd within
below_span (i ∷ is) (n ∷ ns) within = omega (arith, below_span is ns within.1, least n i.length i.stride within.0)
  where
    least : (a m s : ℕ) → a < m → a * s ≤ (m - 1) * s
    least a zero s e = absurd (omega (arith, e))
    least a (suc m) s e =
        let x = times_below a (suc m) s e in
        let y : suc m * s ≡ s + m * s = omega arith in
        let z : suc m - 1 ≡ m = omega arith in
        subst (λ k. a * s ≤ k * s) (sym z) (omega (arith, x, y))

below_top : (is : List Index) (ns : List ℕ) → Every IndexFits is → is_nested is ≡ true → InRange is ns → reach is ns < top is
below_top [] [] fits nested within = omega arith
below_top [] (n ∷ ns) fits nested within = absurd within
below_top (i ∷ is) [] fits nested within = absurd within
below_top (i ∷ is) (n ∷ ns) fits nested within =
    let parts = both_true (is_apart i is) (is_nested is) nested in
    let h = times_below n i.length i.stride within.0 in
    let t = apart_top i is fits.0.apart parts.0 in
    omega (arith, h, t, below_top is ns fits.1 parts.1 within.1)

-- where numbers in range lead is reached
is_reached_by : (is : List Index) (ns : List ℕ) → Every IndexFits is → is_nested is ≡ true → InRange is ns → is_reached (reach is ns) is ≡ true
is_reached_by [] [] fits nested within = refl
is_reached_by [] (n ∷ ns) fits nested within = absurd within
is_reached_by (i ∷ is) [] fits nested within = absurd within
is_reached_by (i ∷ is) (n ∷ ns) fits nested within =
    let parts = both_true (is_apart i is) (is_nested is) nested in
    let small : reach is ns < i.stride = omega (arith, below_top is ns fits.1 parts.1 within.1, apart_top i is fits.0.apart parts.0) in
    at n (reach is ns) fits.0.apart within.0 small (is_reached_by is ns fits.1 parts.1 within.1)
  where
    at : (a rest : ℕ) → 1 ≤ i.stride → a < i.length → rest < i.stride → is_reached rest is ≡ true → is_reached (a * i.stride + rest) (i ∷ is) ≡ true
    at a rest some below small more =
        let d = div-mul-add a i.stride rest small in
        let m = mod-mul-add a i.stride rest small in
        let one : ltb 0 i.stride ≡ true = lt-ltb 0 i.stride some in
        let two : ltb a i.length ≡ true = lt-ltb a i.length below in
        ap (λ c. cond c (ltb ((a * i.stride + rest) / i.stride) i.length && is_reached ((a * i.stride + rest) % i.stride) is) false) one
        ∙ ap (λ q. ltb q i.length && is_reached ((a * i.stride + rest) % i.stride) is) d
        ∙ ap (λ c. c && is_reached ((a * i.stride + rest) % i.stride) is) two
        ∙ ap (λ r. is_reached r is) m
        ∙ more

-- what is reached is where some numbers in range lead
pub record Leads (is : List Index) (d : ℕ) : Type 0 where
  pub ns : List ℕ
  pub within : InRange is ns
  pub there : reach is ns ≡ d

leads : (is : List Index) (d : ℕ) → is_reached d is ≡ true → Leads is d
leads [] d e = record { ns = []; within = tt; there = sym (eqb-true d 0 e) }
leads (i ∷ is) d e = by (leads is (d % i.stride)) (ltb 0 i.stride) e
  where
    made : Leads is (d % i.stride) → d / i.stride < i.length → Leads (i ∷ is) d
    made rest below = record { ns = (d / i.stride) ∷ rest.ns; within = (below, rest.within); there = ap (λ n. (d / i.stride) * i.stride + n) rest.there ∙ div-add-mod' d i.stride }

    by : (is_reached (d % i.stride) is ≡ true → Leads is (d % i.stride)) → (b : Bool) → cond b (ltb (d / i.stride) i.length && is_reached (d % i.stride) is) false ≡ true → Leads (i ∷ is) d
    by rest false e = absurd (false≢true e)
    by rest true e =
        let parts = both_true (ltb (d / i.stride) i.length) (is_reached (d % i.stride) is) e in
        made (rest parts.1) (ltb-true _ _ parts.0)

-- ---- the test, cell by cell

alike_read : (first : Cell) (is : List Index) (k : ℕ) (cells : List Cell) (n : ℕ) → are_alike first is k cells ≡ true → n < length cells → is_reached (k + n) is ≡ true → get_or cells n first ≡ first
alike_read first is k [] n e below reached = absurd (omega (arith, below))
alike_read first is k (c ∷ cells) zero e below reached =
    let parts = both_true (is_alike first is k c) (are_alike first is (suc k) cells) e in
    let at : k + 0 ≡ k = omega arith in
    by (same_cell c first) refl parts.0 (ap (λ d. is_reached d is) (sym at) ∙ reached)
  where
    by : (s : Bool) → same_cell c first ≡ s → cond s true (not (is_reached k is)) ≡ true → is_reached k is ≡ true → c ≡ first
    by true same alike there = same_is c first same
    by false same alike there = absurd (false≢true (ap not (sym there) ∙ alike))
alike_read first is k (c ∷ cells) (suc n) e below reached =
    let parts = both_true (is_alike first is k c) (are_alike first is (suc k) cells) e in
    let at : k + suc n ≡ suc k + n = omega arith in
    alike_read first is (suc k) cells n parts.1 (omega (arith, below)) (ap (λ d. is_reached d is) (sym at) ∙ reached)

alike_all : (first : Cell) (is : List Index) (k : ℕ) (cells : List Cell) → ((n : ℕ) → n < length cells → is_reached (k + n) is ≡ true → get_or cells n first ≡ first) → are_alike first is k cells ≡ true
alike_all first is k [] same = refl
alike_all first is k (c ∷ cells) same =
    let at : k + 0 ≡ k = omega arith in
    and (is_alike first is k c) (are_alike first is (suc k) cells)
    (here (is_reached k is) refl (λ there. same 0 (omega arith) (ap (λ d. is_reached d is) at ∙ there)))
    (alike_all first is (suc k) cells (λ n below reached. (let on : suc k + n ≡ k + suc n = omega arith in same (suc n) (omega (arith, below)) (ap (λ d. is_reached d is) (sym on) ∙ reached))))
  where
    and : (a b : Bool) → a ≡ true → b ≡ true → a && b ≡ true
    and true b one two = two
    and false b one two = one

    always : (s : Bool) → cond s true true ≡ true
    always true = refl
    always false = refl

    here : (r : Bool) → is_reached k is ≡ r → (r ≡ true → c ≡ first) → cond (same_cell c first) true (not (is_reached k is)) ≡ true
    here true there is_first = ap (λ x. cond (same_cell x first) true (not (is_reached k is))) (is_first refl) ∙ ap (λ s. cond s true (not (is_reached k is))) (same_itself first)
    here false there is_first = ap (λ r. cond (same_cell c first) true (not r)) there ∙ always (same_cell c first)

pub one_kind : (indices : List Index) (first : Cell) (cells : List Cell) → Every IndexFits indices → is_nested indices ≡ true → span indices < length (first ∷ cells)
    → (has_one_kind indices (first ∷ cells) ≡ true) ↔ ((ns : List ℕ) → InRange indices ns → get_or (first ∷ cells) (reach indices ns) first ≡ first)
one_kind indices first cells fits nested inside = (
  λ e ns within.
      let far : reach indices ns < length (first ∷ cells) = omega (arith, below_span indices ns within, inside) in
      let zero_more : 0 + reach indices ns ≡ reach indices ns = omega arith in
      alike_read first indices 0 (first ∷ cells) (reach indices ns) e far (ap (λ d. is_reached d indices) zero_more ∙ is_reached_by indices ns fits nested within),
  λ all. alike_all first indices 0 (first ∷ cells) (λ n below reached.
      (let at : 0 + n ≡ n = omega arith in
      let found = leads indices n (ap (λ d. is_reached d indices) (sym at) ∙ reached) in
      subst (λ d. get_or (first ∷ cells) d first ≡ first) found.there (all found.ns found.within))),
)

-- ---- the rules of a path

-- the greatest numbers in range lead furthest
abbrev furthest : List Index → List ℕ
furthest [] = []
furthest (i ∷ is) = (i.length - 1) ∷ furthest is

furthest_within : (is : List Index) → Every IndexFits is → InRange is (furthest is)
furthest_within [] fits = tt
furthest_within (i ∷ is) fits = (let some = fits.0.some in omega (arith, some), furthest_within is fits.1)

furthest_there : (is : List Index) → reach is (furthest is) ≡ span is
furthest_there [] = refl
furthest_there (i ∷ is) = ap (λ n. (i.length - 1) * i.stride + n) (furthest_there is)

module _ (cells : List Cell) (offset : ℕ) (indices : List Index) (fits : Every IndexFits indices) (nested : is_nested indices ≡ true) (inside : offset + span indices < length cells) where
  -- the cell so far behind the first
  found : (first : Cell) (n : ℕ) → offset + n < length cells → slice_get cells (offset + n) ≡ Some (get_or (drop offset cells) n first)
  found first n below = slice_get-get_or cells (offset + n) first below ∙ ap Some (sym (get_or-drop offset cells n first))

  first_found : (first : Cell) → slice_get cells offset ≡ Some (get_or (drop offset cells) 0 first)
  first_found first = let z : offset + 0 ≡ offset = omega arith in ap (slice_get cells) (sym z) ∙ found first 0 (omega (arith, inside, z))

  some_left : offset + length (drop offset cells) ≡ length cells
  some_left = let l = length-drop offset cells in omega (arith, l, inside)

  all_by_test : has_one_kind indices (drop offset cells) ≡ true → (ns : List ℕ) → InRange indices ns → slice_get cells (offset + reach indices ns) ≡ slice_get cells offset
  all_by_test e ns within = by (drop offset cells) refl e
    where
      by : (from : List Cell) → drop offset cells ≡ from → has_one_kind indices from ≡ true → slice_get cells (offset + reach indices ns) ≡ slice_get cells offset
      by [] same e = absurd (false≢true e)
      by (first ∷ rest) same e =
          let far = below_span indices ns within in
          let long = ap length same in
          let left = some_left in
          let one = (one_kind indices first rest fits nested (omega (arith, long, left, inside))).0 e ns within in
          found first (reach indices ns) (omega (arith, far, inside))
          ∙ ap (λ from. Some (get_or from (reach indices ns) first)) same
          ∙ ap Some one
          ∙ sym (first_found first ∙ ap (λ from. Some (get_or from 0 first)) same)

  test_by_all : ((ns : List ℕ) → InRange indices ns → slice_get cells (offset + reach indices ns) ≡ slice_get cells offset) → has_one_kind indices (drop offset cells) ≡ true
  test_by_all all = by (drop offset cells) refl
    where
      by : (from : List Cell) → drop offset cells ≡ from → has_one_kind indices from ≡ true
      by [] same = absurd (let long = ap length same in let left = some_left in omega (arith, long, left, inside))
      by (first ∷ rest) same =
          let long = ap length same in
          let left = some_left in
          (one_kind indices first rest fits nested (omega (arith, long, left, inside))).1 (λ ns within.
          let far = below_span indices ns within in
          let e : Some (get_or (first ∷ rest) (reach indices ns) first) ≡ Some first =
          ap (λ from. Some (get_or from (reach indices ns) first)) (sym same)
          ∙ sym (found first (reach indices ns) (omega (arith, far, inside)))
          ∙ all ns within
          ∙ first_found first
          ∙ ap (λ from. Some (get_or from 0 first)) same in
          cc e)

module _ (types : List (List Cell)) (p : Path) where
  pub span_inside : PathFits types p → p.offset + span p.indices < length (cells_at types p.type_number)
  span_inside fits =
      let far = fits.inside (furthest p.indices) (furthest_within p.indices fits.indices) in
      let there = furthest_there p.indices in
      omega (arith, far, there)

  pub is_tested : PathFits types p → has_one_kind p.indices (drop p.offset (cells_at types p.type_number)) ≡ true
  is_tested fits = test_by_all (cells_at types p.type_number) p.offset p.indices fits.indices fits.nested (span_inside fits) fits.one_kind

  -- a path that passes the tests keeps the rules
  pub fits_by_tests : p.type_number < length types → IsNumber p.offset → IsNumber (length p.indices) → Every IndexFits p.indices → is_nested p.indices ≡ true
      → p.offset + span p.indices < length (cells_at types p.type_number) → has_one_kind p.indices (drop p.offset (cells_at types p.type_number)) ≡ true → PathFits types p
  fits_by_tests type offset count indices nested inside one = record {
    type = type;
    offset = offset;
    count = count;
    indices = indices;
    nested = nested;
    inside = λ ns within. let far = below_span p.indices ns within in omega (arith, far, inside);
    one_kind = all_by_test (cells_at types p.type_number) p.offset p.indices indices nested inside one;
  }
