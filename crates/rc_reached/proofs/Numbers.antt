-- Cells by number: rows that grow, and what is alike where one number is at all places.
use Rattle.std.proofs.Common.{◌≡◌, ℕ, zero, suc, ◌+◌, ◌-◌, ◌≤◌, ◌<◌, ◌⊎◌, inl, inr, Bool, true, true≢false, ◌&&◌, List, [], ◌∷◌, ◌++◌, length, drop, get_or, slice_get, Option, Some, None, refl, sym, ap, subst, ◌∙◌, arith}
use Rattle.std.proofs.lemmas.Bool.{cases_lt, eqb-true, eq-eqb}
use Rattle.std.proofs.lemmas.Option.{get_or_from_slice_get, slice_get_within, slice_get-get_or}
use Rattle.std.proofs.lemmas.List.{length-append}
use Rattle.std.proofs.Math.Seq.{get_or-append_seam}
use Rattle.std.proofs.Math.ListN.{get_or-append}
use Rattle.rc_code.specs.declared.image.Index.{Index}
use Rattle.rc_code.specs.declared.kind.Cell.{Cell}
use Rattle.rc_code.specs.declared.kind.Cell.TheVariants.{Region}
use Rattle.rc_code.specs.Image.{reach}
use Rattle.rc_reached.specs.Walks.{at_each, at_all, is_cell, is_there}
use Rattle.rc_reached.specs.Numbered.{is_number, is_numbered, AreNumbered}
use Rattle.rc_reached.proofs.Along.{all_same, all_at, at_to_all}
use Rattle.rc_reached.proofs.Alike.{same_is, each_from}

-- ---- going over numbers

get_from : (p k : ℕ) (numbers : List ℕ) → slice_get (drop p numbers) k ≡ slice_get numbers (p + k)
get_from zero k numbers = let e : 0 + k ≡ k = omega arith in ap (slice_get numbers) (sym e)
get_from (suc p) k [] = refl
get_from (suc p) k (n ∷ numbers) = let e : suc p + k ≡ suc (p + k) = omega arith in get_from p k numbers ∙ ap (slice_get (n ∷ numbers)) (sym e)

number_from : (n : ℕ) (numbers : List ℕ) (p k : ℕ) → is_numbered n (drop p numbers) k ≡ is_numbered n numbers (p + k)
number_from n numbers p k = ap (is_number n) (get_from p k numbers)

pub one_further : (number : ℕ) (from : List ℕ) (n s : ℕ) → 0 < n → at_each (is_numbered number from) n s 0 ≡ (is_numbered number from 0 && at_each (is_numbered number (drop s from)) (n - 1) s 0)
one_further number from n s lt = each_from (is_numbered number from) (is_numbered number (drop s from)) n s lt (λ k. sym (number_from number from s k))

pub each_further : (number : ℕ) (from : List ℕ) (is : List Index) (n s : ℕ) → 0 < n
    → at_each (at_all (is_numbered number from) is) n s 0 ≡ (at_all (is_numbered number from) is 0 && at_each (at_all (is_numbered number (drop s from)) is) (n - 1) s 0)
each_further number from is n s lt =
    each_from (at_all (is_numbered number from) is) (at_all (is_numbered number (drop s from)) is) n s lt (λ k. all_same (is_numbered number from) (is_numbered number (drop s from)) is (s + k) k (λ j le.
    (let order : j + (s + k) ≡ s + (j + k) = omega arith in ap (is_numbered number from) order ∙ sym (number_from number from s (j + k)))))

pub each_on : (number : ℕ) (place next from : List ℕ) (is : List Index) (left n s : ℕ) (b : Bool) → 0 < left → next ≡ drop s place → b ≡ true → b ≡ at_all (is_numbered number place) is 0
    → at_each (at_all (is_numbered number place) is) left s 0 ≡ at_each (at_all (is_numbered number from) is) n s 0 → at_each (at_all (is_numbered number next) is) (left - 1) s 0 ≡ at_each (at_all (is_numbered number from) is) n s 0
each_on number place next from is left n s b lt on holds here so_far =
    ap (λ xs. at_each (at_all (is_numbered number xs) is) (left - 1) s 0) on
    ∙ sym (each_further number place is left s lt ∙ ap (λ a. a && at_each (at_all (is_numbered number (drop s place)) is) (left - 1) s 0) (sym here ∙ holds))
    ∙ so_far

-- ---- a row that grows

is_it : (n : ℕ) (o : Option ℕ) → is_number n o ≡ true → o ≡ Some n
is_it n None e = absurd (true≢false (sym e))
is_it n (Some m) e = ap Some (eqb-true m n e)

pub none_numbered : (cells firsts : List Cell) → AreNumbered cells firsts []
none_numbered cells firsts place k c e at = absurd (true≢false (sym e))

pub numbered_more : (cells firsts : List Cell) (numbers : List ℕ) (new : ℕ) → AreNumbered cells firsts numbers → ((k : ℕ) (c : Cell) → new ≡ suc k → slice_get firsts k ≡ Some c → is_there c cells (length numbers) ≡ true) → AreNumbered cells firsts (numbers ++ new ∷ [])
numbered_more cells firsts numbers new so_far is place k c e at = by (cases_lt place (length numbers))
  where
    all : List ℕ
    all = numbers ++ new ∷ []

    found : slice_get all place ≡ Some (suc k)
    found = is_it (suc k) (slice_get all place) e

    read : get_or all place 0 ≡ suc k
    read = get_or_from_slice_get all place (suc k) 0 found

    within : place < suc (length numbers)
    within = let lt = slice_get_within all place (suc k) found in let l = length-append numbers (new ∷ []) in omega (arith, lt, l)

    by : (place < length numbers) ⊎ (length numbers ≤ place) → is_there c cells place ≡ true
    by (inl lt) =
        let old : slice_get numbers place ≡ Some (suc k) = slice_get-get_or numbers place 0 lt ∙ ap Some (sym (get_or-append numbers (new ∷ []) 0 place lt) ∙ read) in
        so_far place k c (ap (is_number (suc k)) old ∙ eq-eqb (suc k) (suc k) refl) at
    by (inr ge) =
        let here : place ≡ length numbers = omega (arith, ge, within) in
        let one : new ≡ suc k = sym (get_or-append_seam numbers new [] 0) ∙ ap (λ n. get_or all n 0) (sym here) ∙ read in
        ap (is_there c cells) here ∙ is k c one at

-- ---- what is alike

pub one_number : (is : List Index) (numbers from : List ℕ) (firsts cells : List Cell) (p k : ℕ) (first c : Cell) → from ≡ drop p numbers → slice_get numbers p ≡ Some (suc k) → slice_get firsts k ≡ Some first
    → at_all (is_numbered (suc k) from) is 0 ≡ true → AreNumbered cells firsts numbers → slice_get cells p ≡ Some c → at_all (is_there c cells) is p ≡ true
one_number is numbers from firsts cells p k first c on here known all row there =
    subst (λ x. at_all (is_there x cells) is p ≡ true) (sym c_first) (at_to_all (is_there first cells) is p (λ ns within. row (reach is ns + p) k first (all_at (is_numbered (suc k) numbers) is p everywhere ns within) known))
  where
    everywhere : at_all (is_numbered (suc k) numbers) is p ≡ true
    everywhere =
        sym (all_same (is_numbered (suc k) from) (is_numbered (suc k) numbers) is 0 p (λ j le.
        (let none : j + 0 ≡ j = omega arith in
        let order : p + j ≡ j + p = omega arith in
        ap (is_numbered (suc k) from) none ∙ ap (λ xs. is_numbered (suc k) xs j) on ∙ number_from (suc k) numbers p j ∙ ap (is_numbered (suc k) numbers) order)))
        ∙ all

    c_first : c ≡ first
    c_first = same_is c first (sym (ap (is_cell first) there) ∙ row p k first (ap (is_number (suc k)) here ∙ eq-eqb (suc k) (suc k) refl) known)

pub one_known : (is : List Index) (numbers from : List ℕ) (firsts cells : List Cell) (p n : ℕ) (c : Cell) → from ≡ drop p numbers → slice_get numbers p ≡ Some n → 0 < n → n ≤ length firsts
    → at_all (is_numbered n from) is 0 ≡ true → AreNumbered cells firsts numbers → slice_get cells p ≡ Some c → at_all (is_there c cells) is p ≡ true
one_known is numbers from firsts cells p zero c on here some low all row there = absurd (omega (arith, some))
one_known is numbers from firsts cells p (suc k) c on here some low all row there =
    one_number is numbers from firsts cells p k (get_or firsts k Region) c on here (slice_get-get_or firsts k Region (omega (arith, low))) all row there
