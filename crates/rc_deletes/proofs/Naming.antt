-- Where names stand among others.
use Rattle.std.specs.Prelude.{◌≡◌, ℕ, suc, ◌+◌, ◌<◌, List, [], ◌∷◌, ◌++◌, Option, Some, None, Bool, true, false, nat_lt, not, cond, length, slice_get, option_map, if◌then◌else◌}
use Rattle.std.specs.List.{position_or_len}
use Rattle.std.specs.Str.{bytes_eq}
use Rattle.std.proofs.Common.{take, drop, take-append-drop, refl, sym, ap, ◌∙◌, subst, arith}
use Rattle.std.proofs.lemmas.Bool.Decides.{nat_tests}
use Rattle.std.proofs.lemmas.Slice.Eq.{bytes_eq-Decides}
use Rattle.rc_deletes.specs.Kinds.{place_of}

pub same_name : (a b : List ℕ) → bytes_eq a b ≡ true → a ≡ b
same_name a b h = (bytes_eq-Decides a b).0 h

pub own_name : (a : List ℕ) → bytes_eq a a ≡ true
own_name a = (bytes_eq-Decides a a).1 refl

abbrev pub found_in : List (List ℕ) → List ℕ → Option ℕ
found_in [] name = None
found_in (n ∷ ns) name = if bytes_eq name n then Some 0 else option_map (λ k. suc k) (found_in ns name)

before_it : (m n : ℕ) → m < n → nat_lt m n ≡ true
before_it m n h = grind (arith, nat_tests)

not_before : (m n : ℕ) → nat_lt m n ≡ false → nat_lt (1 + m) (suc n) ≡ false
not_before m n h = grind (arith, nat_tests)

is_before : (m n : ℕ) → nat_lt m n ≡ true → nat_lt (1 + m) (suc n) ≡ true
is_before m n h = grind (arith, nat_tests)

later : (m k : ℕ) (c : Bool) → nat_lt k m ≡ c → cond (nat_lt (1 + k) (suc m)) (Some (1 + k)) None ≡ option_map (λ k. suc k) (cond (nat_lt k m) (Some k) None)
later m k true h = let n : 1 + k ≡ suc k = omega arith in rw (is_before k m h, h, n) refl
later m k false h = rw (not_before k m h, h) refl

tested : (b : Bool) (m k : ℕ) → cond (nat_lt (cond (not b) (1 + k) 0) (suc m)) (Some (cond (not b) (1 + k) 0)) None ≡ (if b then Some 0 else option_map (λ k. suc k) (cond (nat_lt k m) (Some k) None))
tested true m k = rw (before_it 0 (suc m) (omega arith)) refl
tested false m k = later m k (nat_lt k m) refl

pub place_is : (names : List (List ℕ)) (name : List ℕ) → place_of names name ≡ found_in names name
place_is [] name = refl
place_is (n ∷ ns) name = tested (bytes_eq name n) (length ns) (position_or_len (bytes_eq name) ns) ∙ ap (λ o. if bytes_eq name n then Some 0 else option_map (λ k. suc k) o) (place_is ns name)

seen_if : (b : Bool) (o q : Option ℕ) (k : ℕ) → ((j : ℕ) → o ≡ Some j → q ≡ Some j) → (if b then Some 0 else option_map (λ k. suc k) o) ≡ Some k → (if b then Some 0 else option_map (λ k. suc k) q) ≡ Some k
seen_if true o q k h e = e
seen_if false (Some j) q k h e = rw (h j refl) e
seen_if false None q k h e = absurd cc

found_more : (names more : List (List ℕ)) (name : List ℕ) (k : ℕ) → found_in names name ≡ Some k → found_in (names ++ more) name ≡ Some k
found_more [] more name k h = absurd cc
found_more (n ∷ ns) more name k h = seen_if (bytes_eq name n) (found_in ns name) (found_in (ns ++ more) name) k (found_more ns more name) h

-- a name keeps its place where others come after it
pub place_more : (names more : List (List ℕ)) (name : List ℕ) (k : ℕ) → place_of names name ≡ Some k → place_of (names ++ more) name ≡ Some k
place_more names more name k h = place_is (names ++ more) name ∙ found_more names more name k (sym (place_is names name) ∙ h)

-- a name that stands among the first ones stands there
pub place_taken : (n : ℕ) (names : List (List ℕ)) (name : List ℕ) (k : ℕ) → place_of (take n names) name ≡ Some k → place_of names name ≡ Some k
place_taken n names name k h = subst (λ ns. place_of ns name ≡ Some k) (take-append-drop n names) (place_more (take n names) (drop n names) name k h)

new_if : (b : Bool) (o q : Option ℕ) (k : ℕ) → (o ≡ None → q ≡ Some k) → (if b then Some 0 else option_map (λ k. suc k) o) ≡ None → (if b then Some 0 else option_map (λ k. suc k) q) ≡ Some (suc k)
new_if true o q k h e = absurd cc
new_if false None q k h e = rw (h refl) refl
new_if false (Some j) q k h e = absurd cc

found_new : (names more : List (List ℕ)) (name : List ℕ) → found_in names name ≡ None → found_in (names ++ name ∷ more) name ≡ Some (length names)
found_new [] more name h = rw (own_name name) refl
found_new (n ∷ ns) more name h = new_if (bytes_eq name n) (found_in ns name) (found_in (ns ++ name ∷ more) name) (length ns) (found_new ns more name) h

-- a new name stands behind those that were there
pub place_new : (names more : List (List ℕ)) (name : List ℕ) → place_of names name ≡ None → place_of (names ++ name ∷ more) name ≡ Some (length names)
place_new names more name h = place_is (names ++ name ∷ more) name ∙ found_new names more name (sym (place_is names name) ∙ h)

at_if : (b : Bool) (n name : List ℕ) (ns : List (List ℕ)) (o : Option ℕ) (k : ℕ) → bytes_eq name n ≡ b → ((j : ℕ) → o ≡ Some j → slice_get ns j ≡ Some name) → (if b then Some 0 else option_map (λ k. suc k) o) ≡ Some k → slice_get (n ∷ ns) k ≡ Some name
at_if true n name ns o k b h e = let z : 0 ≡ k = cc in subst (λ x. slice_get (n ∷ ns) x ≡ Some name) z (ap Some (sym (same_name name n b)))
at_if false n name ns (Some j) k b h e = let z : suc j ≡ k = cc in subst (λ x. slice_get (n ∷ ns) x ≡ Some name) z (h j refl)
at_if false n name ns None k b h e = absurd cc

found_at : (names : List (List ℕ)) (name : List ℕ) (k : ℕ) → found_in names name ≡ Some k → slice_get names k ≡ Some name
found_at [] name k h = absurd cc
found_at (n ∷ ns) name k h = at_if (bytes_eq name n) n name ns (found_in ns name) k refl (found_at ns name) h

-- what stands at a name's place is the name
pub name_at : (names : List (List ℕ)) (name : List ℕ) (k : ℕ) → place_of names name ≡ Some k → slice_get names k ≡ Some name
name_at names name k h = found_at names name k (sym (place_is names name) ∙ h)
