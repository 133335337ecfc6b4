-- What a mask marks, and that what a path reaches is of one kind where its cells are as the first at all places.
use Rattle.std.proofs.Common.{◌≡◌, ℕ, zero, suc, ◌+◌, ◌-◌, ◌*◌, ◌/◌, ◌≤◌, ◌<◌, ◌≢◌, ◌⊎◌, inl, inr, Bool, true, false, true≢false, ◌&&◌, eqb, List, [], ◌∷◌, length, drop, get_or, slice_get, Option, Some, None, refl, sym, ap, subst, ◌∙◌, arith}
use Rattle.std.proofs.lemmas.Bool.{cases_lt, ltb-true, and_parts, eqb-true, eq-eqb}
use Rattle.std.proofs.lemmas.Option.{slice_get-get_or, slice_get_past}
use Rattle.std.proofs.lemmas.List.{length-drop}
use Rattle.rc_core.specs.declared.ty.NumberType.TheVariants as numbers
use Rattle.rc_core.specs.declared.ty.Note.TheVariants as note
use Rattle.rc_code.specs.declared.image.Index.{Index}
use Rattle.rc_code.specs.declared.kind.Cell.{Cell}
use Rattle.rc_code.specs.declared.kind.Cell.TheVariants as cell
use Rattle.rc_code.specs.Image.{InRange, reach}
use Rattle.rc_code.specs.Reached.{has_one_kind, span}
use Rattle.rc_code.specs.Kinds.{same_cell, cell_tag, cell_type}
use Rattle.rc_code.proofs.OneKind.{one_kind, below_span}
use Rattle.rc_reached.specs.Walks.{at_each, at_all, is_cell, is_there, AreFit}
use Rattle.rc_reached.specs.Masks.{marks, IsMask, IsMaskOf}
use Rattle.rc_reached.proofs.Along.{same_answers, each_more, all_at, at_to_all, all_same, first_taken}
use Rattle.rc_reached.proofs.Rows.{same_or_not}

-- ---- equal cells

abbrev by_tag : ℕ → List Cell
by_tag type =
    cell.Number numbers.Int ∷ cell.Number numbers.Unsigned ∷ cell.Number numbers.Char ∷ cell.Region ∷ cell.Pointer note.Plain type ∷ cell.Pointer note.SameRegion type
    ∷ cell.Pointer note.ParentPtr type ∷ cell.Pointer note.Traditional type ∷ []

back : (c : Cell) → get_or (by_tag (cell_type c)) (cell_tag c) cell.Region ≡ c
back (cell.Number numbers.Int) = refl
back (cell.Number numbers.Unsigned) = refl
back (cell.Number numbers.Char) = refl
back cell.Region = refl
back (cell.Pointer note.Plain type) = refl
back (cell.Pointer note.SameRegion type) = refl
back (cell.Pointer note.ParentPtr type) = refl
back (cell.Pointer note.Traditional type) = refl

pub same_is : (a b : Cell) → same_cell a b ≡ true → a ≡ b
same_is a b e =
    let parts = and_parts (eqb (cell_tag a) (cell_tag b)) (eqb (cell_type a) (cell_type b)) e in
    sym (back a) ∙ ap (λ n. get_or (by_tag (cell_type a)) n cell.Region) (eqb-true _ _ parts.0) ∙ ap (λ t. get_or (by_tag t) (cell_tag b) cell.Region) (eqb-true _ _ parts.1) ∙ back b

same_itself : (a : Cell) → same_cell a a ≡ true
same_itself a = ap (λ x. x && eqb (cell_type a) (cell_type a)) (eq-eqb (cell_tag a) (cell_tag a) refl) ∙ eq-eqb (cell_type a) (cell_type a) refl

-- ---- masks

slice_get_from : (p k : ℕ) (cells : List Cell) → slice_get (drop p cells) k ≡ slice_get cells (p + k)
slice_get_from zero k cells = let e : 0 + k ≡ k = omega arith in ap (slice_get cells) (sym e)
slice_get_from (suc p) k [] = refl
slice_get_from (suc p) k (c ∷ cells) = let e : suc p + k ≡ suc (p + k) = omega arith in slice_get_from p k cells ∙ ap (slice_get (c ∷ cells)) (sym e)

pub there_from : (c : Cell) (cells : List Cell) (p k : ℕ) → is_there c (drop p cells) k ≡ is_there c cells (p + k)
there_from c cells p k = ap (is_cell c) (slice_get_from p k cells)

pub there_within : (c : Cell) (cells : List Cell) (place : ℕ) → is_there c cells place ≡ true → place < length cells
there_within c cells place there = by (cases_lt place (length cells))
  where
    by : (place < length cells) ⊎ (length cells ≤ place) → place < length cells
    by (inl lt) = lt
    by (inr ge) = let none : is_there c cells place ≡ false = ap (is_cell c) (slice_get_past cells place ge) in absurd (true≢false (sym there ∙ none))

pub mask_more : (c : Cell) (cells : List Cell) (old new : List ℕ) (place : ℕ) → IsMask c cells old → is_there c cells place ≡ true → ((k : ℕ) → k ≢ place → marks new k ≡ marks old k) → IsMask c cells new
mask_more c cells old new place mask there others k marked = by (same_or_not k place)
  where
    by : (k ≡ place) ⊎ (k ≢ place) → is_there c cells k ≡ true
    by (inl e) = ap (is_there c cells) e ∙ there
    by (inr apart) = mask k (sym (others k apart) ∙ marked)

pub by_mask : (c : Cell) (cells : List Cell) (words : List ℕ) (is : List Index) (p : ℕ) → IsMask c cells words → at_all (marks words) is p ≡ true → at_all (is_there c cells) is p ≡ true
by_mask c cells words is p mask all = at_to_all (is_there c cells) is p (λ ns within. mask (reach is ns + p) (all_at (marks words) is p all ns within))

-- ---- going over cells

each_shift : (g h : ℕ → Bool) (n s d p : ℕ) → ((k : ℕ) → g (d + k) ≡ h k) → at_each g n s (d + p) ≡ at_each h n s p
each_shift g h zero s d p same = refl
each_shift g h (suc n) s d p same =
    let order : s + (d + p) ≡ d + (s + p) = omega arith in
    ap (λ b. b && at_each g n s (s + (d + p))) (same p) ∙ ap (λ b. h p && b) (ap (at_each g n s) order ∙ each_shift g h n s d (s + p) same)

pub each_from : (g h : ℕ → Bool) (n s : ℕ) → 0 < n → ((k : ℕ) → g (s + k) ≡ h k) → at_each g n s 0 ≡ (g 0 && at_each h (n - 1) s 0)
each_from g h n s lt same = each_more g n s 0 lt ∙ ap (λ b. g 0 && b) (each_shift g h (n - 1) s s 0 same)

pub one_further : (c : Cell) (from : List Cell) (n s : ℕ) → 0 < n → at_each (is_there c from) n s 0 ≡ (is_there c from 0 && at_each (is_there c (drop s from)) (n - 1) s 0)
one_further c from n s lt = each_from (is_there c from) (is_there c (drop s from)) n s lt (λ k. sym (there_from c from s k))

pub each_further : (c : Cell) (from : List Cell) (is : List Index) (n s : ℕ) → 0 < n
    → at_each (at_all (is_there c from) is) n s 0 ≡ (at_all (is_there c from) is 0 && at_each (at_all (is_there c (drop s from)) is) (n - 1) s 0)
each_further c from is n s lt =
    each_from (at_all (is_there c from) is) (at_all (is_there c (drop s from)) is) n s lt (λ k. all_same (is_there c from) (is_there c (drop s from)) is (s + k) k (λ j le.
    (let order : j + (s + k) ≡ s + (j + k) = omega arith in ap (is_there c from) order ∙ sym (there_from c from s (j + k)))))

pub each_on : (c : Cell) (place next from : List Cell) (is : List Index) (left n s : ℕ) (b : Bool) → 0 < left → next ≡ drop s place → b ≡ true → b ≡ at_all (is_there c place) is 0
    → at_each (at_all (is_there c place) is) left s 0 ≡ at_each (at_all (is_there c from) is) n s 0 → at_each (at_all (is_there c next) is) (left - 1) s 0 ≡ at_each (at_all (is_there c from) is) n s 0
each_on c place next from is left n s b lt on holds here so_far =
    ap (λ xs. at_each (at_all (is_there c xs) is) (left - 1) s 0) on
    ∙ sym (each_further c place is left s lt ∙ ap (λ a. a && at_each (at_all (is_there c (drop s place)) is) (left - 1) s 0) (sym here ∙ holds))
    ∙ so_far

-- the words from a place on
pub by_words_from : (words from : List ℕ) (is : List Index) (start reach : ℕ) → span is ≡ reach → ((k : ℕ) → k < 64 * (reach / 64 + 1) → marks from k ≡ marks words (start + k))
    → at_all (marks from) is 0 ≡ at_all (marks words) is start
by_words_from words from is start reach far same =
    all_same (marks from) (marks words) is 0 start (λ k le.
    (let none : k + 0 ≡ k = omega arith in
    let there : start + k ≡ k + start = omega arith in
    ap (marks from) none ∙ same k (omega (arith, le, far)) ∙ ap (marks words) there))

-- a row that was narrowed along the first index
pub narrowed_by : (now new : List ℕ) (i : Index) (after : List Index) (rest : ℕ) (all : Bool) → span after ≡ rest → ((k : ℕ) → k ≤ rest → marks new k ≡ at_each (marks now) i.length i.stride k)
    → at_all (marks now) (i ∷ after) 0 ≡ all → at_all (marks new) after 0 ≡ all
narrowed_by now new i after rest all far along so_far =
    all_same (marks new) (at_each (marks now) i.length i.stride) after 0 0 (λ k le.
    (let none : k + 0 ≡ k = omega arith in
    ap (marks new) none ∙ along k (omega (arith, le, far)) ∙ ap (at_each (marks now) i.length i.stride) (sym none)))
    ∙ first_taken (marks now) i after 0
    ∙ so_far

-- ---- what a path reaches

abbrev some_cell : Cell → Option Cell
some_cell c = Some c

is_some : (a b : Cell) → some_cell a ≡ some_cell b → a ≡ b
is_some a b e = cc

-- they are in the type
pub reach_low : (indices : List Index) (cells : List Cell) (p : ℕ) → AreFit indices (drop p cells) → p + span indices < length cells
reach_low indices cells p fit =
    let l = length-drop p cells in
    let long = ltb-true (span indices) (length (drop p cells)) fit.inside in
    omega (arith, l, long)

module _ (indices : List Index) (cells : List Cell) (p : ℕ) (c : Cell) (at : slice_get cells p ≡ Some c) (fit : AreFit indices (drop p cells)) where
  long : span indices < length (drop p cells)
  long = ltb-true (span indices) (length (drop p cells)) fit.inside

  module _ (first : Cell) (rest : List Cell) (e : drop p cells ≡ first ∷ rest) where
    inside : span indices < length (first ∷ rest)
    inside = subst (λ n. span indices < n) (ap length e) long

    is_first : first ≡ c
    is_first =
        let none : p + 0 ≡ p = omega arith in
        is_some first c (sym (ap (λ xs. slice_get xs 0) e) ∙ slice_get_from p 0 cells ∙ ap (slice_get cells) none ∙ at)

    there : (ns : List ℕ) → InRange indices ns → is_there c cells (reach indices ns + p) ≡ same_cell (get_or (first ∷ rest) (reach indices ns) first) c
    there ns within =
        let far = below_span indices ns within in
        let order : reach indices ns + p ≡ p + reach indices ns = omega arith in
        ap (is_cell c) (ap (slice_get cells) order
        ∙ sym (slice_get_from p (reach indices ns) cells)
        ∙ ap (λ xs. slice_get xs (reach indices ns)) e
        ∙ slice_get-get_or (first ∷ rest) (reach indices ns) first (omega (arith, far, inside)))

    one_here : at_all (is_there c cells) indices p ≡ has_one_kind indices (first ∷ rest)
    one_here =
        let law = one_kind indices first rest fit.each fit.nested inside in
        same_answers (at_all (is_there c cells) indices p) (has_one_kind indices (first ∷ rest))
        (λ t. law.1 (λ ns within. same_is (get_or (first ∷ rest) (reach indices ns) first) c (sym (there ns within) ∙ all_at (is_there c cells) indices p t ns within) ∙ sym is_first))
        (λ t. at_to_all (is_there c cells) indices p (λ ns within. there ns within ∙ ap (λ x. same_cell x c) (law.0 t ns within ∙ is_first) ∙ same_itself c))

  by_cells : (from : List Cell) → drop p cells ≡ from → at_all (is_there c cells) indices p ≡ has_one_kind indices from
  by_cells [] e = let none = ap length e in absurd (omega (arith, none, long))
  by_cells (first ∷ rest) e = one_here first rest e

  -- all cells that a path reaches are as the first where they are so at all places
  pub one_by_all : at_all (is_there c cells) indices p ≡ has_one_kind indices (drop p cells)
  one_by_all = by_cells (drop p cells) refl

pub one_there : (indices : List Index) (cells : List Cell) (p : ℕ) (c : Cell) → slice_get cells p ≡ Some c → AreFit indices (drop p cells) → at_all (is_there c (drop p cells)) indices 0 ≡ has_one_kind indices (drop p cells)
one_there indices cells p c at fit =
    all_same (is_there c (drop p cells)) (is_there c cells) indices 0 p (λ k le.
    (let none : k + 0 ≡ k = omega arith in
    let order : p + k ≡ k + p = omega arith in
    ap (is_there c (drop p cells)) none ∙ there_from c cells p k ∙ ap (is_there c cells) order))
    ∙ one_by_all indices cells p c at fit

pub one_first : (indices : List Index) (cells : List Cell) (p : ℕ) (from : List Cell) (d : Cell) → 1 ≤ length from → from ≡ drop p cells → AreFit indices (drop p cells)
    → at_all (is_there (get_or from 0 d) from) indices 0 ≡ has_one_kind indices (drop p cells)
one_first indices cells p [] d some is fit = absurd (omega (arith, some))
one_first indices cells p (first ∷ rest) d some is fit =
    let none : p ≡ p + 0 = omega arith in
    let at : slice_get cells p ≡ Some first = ap (slice_get cells) none ∙ sym (slice_get_from p 0 cells) ∙ ap (λ xs. slice_get xs 0) (sym is) in
    ap (λ xs. at_all (is_there first xs) indices 0) is ∙ one_there indices cells p first at fit

-- where all cells are as the one at the place, whichever that is
pub one_everywhere : (indices : List Index) (cells : List Cell) (p : ℕ) → AreFit indices (drop p cells) → ((c : Cell) → slice_get cells p ≡ Some c → at_all (is_there c cells) indices p ≡ true) → has_one_kind indices (drop p cells) ≡ true
one_everywhere indices cells p fit all = by (slice_get cells p) refl
  where
    by : (o : Option Cell) → slice_get cells p ≡ o → has_one_kind indices (drop p cells) ≡ true
    by None e = let low = reach_low indices cells p fit in absurd (found e low)
      where
        found : slice_get cells p ≡ None → p + span indices < length cells → ⊥
        found none low = let some = slice_get-get_or cells p cell.Region (omega (arith, low)) in cc
    by (Some c) e = sym (one_by_all indices cells p c e fit) ∙ all c e

pub one_marked : (indices : List Index) (cells : List Cell) (p : ℕ) (words : List ℕ) → IsMaskOf cells p words → AreFit indices (drop p cells) → at_all (marks words) indices p ≡ true → has_one_kind indices (drop p cells) ≡ true
one_marked indices cells p words mask fit all = one_everywhere indices cells p fit (λ c e. by_mask c cells words indices p (mask c e) all)
