-- What is said of all regions but some, said along the list of regions, each with its number: `at` is the number of the first one.
use Rattle.std.proofs.Common.{◌≡◌, ◌≢◌, ◌<◌, ◌+◌, ◌∙◌, ◌⊎◌, inl, inr, ℕ, zero, suc, Bool, true, false, cond, nat_eq, List, [], ◌∷◌, Option, None, length, get_or, set as slice_set, refl, sym, ap, arith, rules, get_or-set_other, length-set}
use Rattle.std.specs.Prelude.{◌||◌, ◌&&◌, not}
use Rattle.std.specs.List.{list_any, sum_by}
use Rattle.std.proofs.lemmas.Bool.{cases_eq}
use Rattle.std.proofs.lemmas.List.Sums.{sum_by-cons}
use Rattle.rc_store.specs.Kept.{KeptView, Regions, view_refs}
use Rattle.rc_store.specs.Sets.{has_child_outside, is_child_of, is_in, without}

-- the references to r from the regions but r
abbrev pub refs_from : (r at : ℕ) → Regions → ℕ
refs_from r at [] = 0
refs_from r at (v ∷ views) = cond (nat_eq at r) 0 (view_refs r v) + refs_from r (suc at) views

-- those from the regions beside a set
abbrev pub beside_from : (set : List ℕ) → (r at : ℕ) → Regions → ℕ
beside_from set r at [] = 0
beside_from set r at (v ∷ views) = cond (is_in set at) 0 (view_refs r v) + beside_from set r (suc at) views

-- a region beside a set has a member as its parent
abbrev pub child_from : (set : List ℕ) → (at : ℕ) → Regions → Bool
child_from set at [] = false
child_from set at (v ∷ views) = (not (is_in set at) && is_child_of set v) || child_from set (suc at) views

number_itself : (n : ℕ) → nat_eq n n ≡ true
number_itself n = search rules

number_other : (m n : ℕ) → m ≢ n → nat_eq m n ≡ false
number_other m n other = search (rules, other)

-- r stands before them
refs_behind : (r at : ℕ) (views : Regions) → r < at → refs_from r at views ≡ sum_by (view_refs r) views
refs_behind r at [] less = refl
refs_behind r at (v ∷ views) less =
    let other : at ≢ r = λ same. absurd (omega (arith, less, same)) in
    ap (λ b. cond b 0 (view_refs r v) + refs_from r (suc at) views) (number_other at r other)
    ∙ ap (λ n. view_refs r v + n) (refs_behind r (suc at) views (omega (arith, less)))
    ∙ sym (sum_by-cons (view_refs r) v views)

refs_at : (r at n : ℕ) (views : Regions) → r ≡ at + n → refs_from r at views ≡ sum_by (view_refs r) (slice_set views n None)
refs_at r at zero [] is = refl
refs_at r at (suc n) [] is = refl
refs_at r at zero (v ∷ views) is =
    let same : at ≡ r = omega (arith, is) in
    ap (λ b. cond b 0 (view_refs r v) + refs_from r (suc at) views) (ap (λ k. nat_eq k r) same ∙ number_itself r)
    ∙ ap (λ n. 0 + n) (refs_behind r (suc at) views (omega (arith, is)))
    ∙ sym (sum_by-cons (view_refs r) None views)
refs_at r at (suc n) (v ∷ views) is =
    let other : at ≢ r = λ same. absurd (omega (arith, is, same)) in
    ap (λ b. cond b 0 (view_refs r v) + refs_from r (suc at) views) (number_other at r other)
    ∙ ap (λ k. view_refs r v + k) (refs_at r (suc at) n views (omega (arith, is)))
    ∙ sym (sum_by-cons (view_refs r) v (slice_set views n None))

pub refs_along : (r : ℕ) (views : Regions) → sum_by (view_refs r) (slice_set views r None) ≡ refs_from r 0 views
refs_along r views = sym (refs_at r 0 r views (omega arith))

-- what stands at a number where a set is gone
pub without_read : {A : Type 0} (set : List ℕ) (xs : List (Option A)) (n : ℕ) → get_or (without set xs) n None ≡ cond (is_in set n) None (get_or xs n None)
without_read [] xs n = refl
without_read {A} (m ∷ ms) xs n = without_read ms (slice_set xs m None) n ∙ by (cases_eq n m)
  where
    behind : (b : Bool) → cond {A = Option A} b None None ≡ None
    behind true = refl
    behind false = refl

    gone : (ys : List (Option A)) (k : ℕ) → get_or (slice_set ys k None) k None ≡ None
    gone [] k = refl
    gone (y ∷ ys) zero = refl
    gone (y ∷ ys) (suc k) = gone ys k

    by : (n ≡ m) ⊎ (n ≢ m) → cond (is_in ms n) None (get_or (slice_set xs m None) n None) ≡ cond (nat_eq n m || is_in ms n) None (get_or xs n None)
    by (inl same) =
        ap (λ x. cond (is_in ms n) None x) (ap (λ k. get_or (slice_set xs m None) k None) same ∙ gone xs m)
        ∙ behind (is_in ms n)
        ∙ sym (ap (λ b. cond (b || is_in ms n) None (get_or xs n None)) (ap (λ k. nat_eq k m) same ∙ number_itself m))
    by (inr apart) =
        ap (λ x. cond (is_in ms n) None x) (get_or-set_other xs m n None None apart)
        ∙ sym (ap (λ b. cond (b || is_in ms n) None (get_or xs n None)) (number_other n m apart))

pub length-without : {A : Type 0} (set : List ℕ) (xs : List (Option A)) → length (without set xs) ≡ length xs
length-without [] xs = refl
length-without (m ∷ ms) xs = length-without ms (slice_set xs m None) ∙ length-set xs m None

-- these are left of the regions where the set is gone
record IsLeft (set : List ℕ) (at : ℕ) (views left : Regions) : Type 0 where
  many : length left ≡ length views
  read : (i : ℕ) → get_or left i None ≡ cond (is_in set (at + i)) None (get_or views i None)

is_left : (set : List ℕ) (views : Regions) → IsLeft set 0 views (without set views)
is_left set views = record {
  many = length-without set views;
  read = λ i. without_read set views i ∙ ap (λ n. cond (is_in set n) None (get_or views i None)) (let is : i ≡ 0 + i = omega arith in is);
}

first_left : (set : List ℕ) (at : ℕ) (v l : Option KeptView) (vs ls : Regions) → IsLeft set at (v ∷ vs) (l ∷ ls) → l ≡ cond (is_in set at) None v
first_left set at v l vs ls left = left.read 0 ∙ ap (λ n. cond (is_in set n) None v) (let is : at + 0 ≡ at = omega arith in is)

rest_left : (set : List ℕ) (at : ℕ) (v l : Option KeptView) (vs ls : Regions) → IsLeft set at (v ∷ vs) (l ∷ ls) → IsLeft set (suc at) vs ls
rest_left set at v l vs ls left = record {
  many = omega (arith, left.many);
  read = λ i. left.read (suc i) ∙ ap (λ n. cond (is_in set n) None (get_or vs i None)) (let is : at + suc i ≡ suc at + i = omega arith in is);
}

held_left : (r : ℕ) (v : Option KeptView) (b : Bool) → view_refs r (cond b None v) ≡ cond b 0 (view_refs r v)
held_left r v true = refl
held_left r v false = refl

child_left : (set : List ℕ) (v : Option KeptView) (b : Bool) → is_child_of set (cond b None v) ≡ not b && is_child_of set v
child_left set v true = refl
child_left set v false = refl

beside_at : (set : List ℕ) (r at : ℕ) (views left : Regions) → IsLeft set at views left → sum_by (view_refs r) left ≡ beside_from set r at views
beside_at set r at [] [] left = refl
beside_at set r at [] (l ∷ ls) left = absurd (omega (arith, left.many))
beside_at set r at (v ∷ vs) [] left = absurd (omega (arith, left.many))
beside_at set r at (v ∷ vs) (l ∷ ls) left =
    let here : view_refs r l ≡ cond (is_in set at) 0 (view_refs r v) = ap (view_refs r) (first_left set at v l vs ls left) ∙ held_left r v (is_in set at) in
    omega (arith, sum_by-cons (view_refs r) l ls, here, beside_at set r (suc at) vs ls (rest_left set at v l vs ls left))

child_at : (set : List ℕ) (at : ℕ) (views left : Regions) → IsLeft set at views left → list_any (is_child_of set) left ≡ child_from set at views
child_at set at [] [] left = refl
child_at set at [] (l ∷ ls) left = absurd (omega (arith, left.many))
child_at set at (v ∷ vs) [] left = absurd (omega (arith, left.many))
child_at set at (v ∷ vs) (l ∷ ls) left =
    ap (λ b. b || list_any (is_child_of set) ls) (ap (is_child_of set) (first_left set at v l vs ls left) ∙ child_left set v (is_in set at))
    ∙ ap (λ b. (not (is_in set at) && is_child_of set v) || b) (child_at set (suc at) vs ls (rest_left set at v l vs ls left))

pub beside_along : (set : List ℕ) (r : ℕ) (views : Regions) → sum_by (view_refs r) (without set views) ≡ beside_from set r 0 views
beside_along set r views = beside_at set r 0 views (without set views) (is_left set views)

pub child_along : (set : List ℕ) (views : Regions) → has_child_outside set views ≡ child_from set 0 views
child_along set views = child_at set 0 views (without set views) (is_left set views)
