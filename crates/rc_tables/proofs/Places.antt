-- A thing's key stands among the keys of a table where the thing stands in the table.
use Rattle.std.proofs.Common.{◌≡◌, ◌+◌, ℕ, Bool, true, false, List, [], ◌∷◌, ◌++◌, length, map, Option, Some, None, refl, sym, ap, ◌∙◌, arith, rules}
use Rattle.std.specs.Prelude.{not, nat_lt, cond, unwrap_or, OnOk, Result, Ok, Err}
use Rattle.std.specs.List.{AllByRecursion as Every, position_or_len}
use Rattle.std.specs.Str.{bytes_eq}
use Rattle.std.proofs.lemmas.List.{length-map}
use Rattle.std.proofs.lemmas.Slice.Eq.{bytes_eq-Decides}
use Rattle.rc_emission.specs.KeptOperands.{place_in, counted_on}
use Rattle.rc_scope.specs.Names.{place_of, number_of}
use Rattle.rc_scope.proofs.Numbers.{first_at_end}
use Rattle.rc_numbering.specs.Tables.{has, with_new, seen_behind}

pub equal_tests : (b c : Bool) → (b ≡ true → c ≡ true) → (c ≡ true → b ≡ true) → b ≡ c
equal_tests true c f g = sym (f refl)
equal_tests false true f g = g refl
equal_tests false false f g = refl

pub on_ok : {T E P Q : Type 0} (r : Result T E) → (P → Q) → OnOk r P → OnOk r Q
on_ok (Ok x) f h = f h
on_ok (Err e) f h = h

pub bytes_is : (xs ys : List ℕ) → bytes_eq xs ys ≡ true → xs ≡ ys
bytes_is xs ys = (bytes_eq-Decides xs ys).0

pub bytes_self : (xs : List ℕ) → bytes_eq xs xs ≡ true
bytes_self xs = (bytes_eq-Decides xs xs).1 refl

number_or : (names : List (List ℕ)) (name : List ℕ) → number_of names name ≡ position_or_len (bytes_eq name) names
number_or names name = by (nat_lt (position_or_len (bytes_eq name) names) (length names)) refl
  where
    by : (b : Bool) → nat_lt (position_or_len (bytes_eq name) names) (length names) ≡ b → unwrap_or (cond b (Some (position_or_len (bytes_eq name) names)) None) (length names) ≡ position_or_len (bytes_eq name) names
    by true e = refl
    by false e = sym (first_at_end names name (ap (λ b. cond b (Some (position_or_len (bytes_eq name) names)) None) e))

some_there : (b : Bool) (n p : ℕ) → Some n ≡ cond b (Some p) None → b ≡ true
some_there true n p e = refl
some_there false n p e = absurd (cc e)

none_there : (b : Bool) (p : ℕ) → None ≡ cond b (Some p) None → b ≡ false
none_there true p e = absurd (cc e)
none_there false p e = refl

module _ {A : Type 0} (equal : A → A → Bool) (key : A → List ℕ) (Has : A → Type 0) (same : (a x : A) → Has a → Has x → bytes_eq (key a) (key x) ≡ equal x a) where
  first_is : (table : List A) (a : A) → Every Has table → Has a → position_or_len (bytes_eq (key a)) (map key table) ≡ place_in equal table a
  first_is [] a t h = refl
  first_is (x ∷ table) a t h = by (bytes_eq (key a) (key x)) (equal x a) (same a x h t.0) (first_is table a t.1 h)
    where
      by : (b c : Bool) → b ≡ c → position_or_len (bytes_eq (key a)) (map key table) ≡ place_in equal table a → cond (not b) (1 + position_or_len (bytes_eq (key a)) (map key table)) 0 ≡ counted_on c (place_in equal table a)
      by true true e p = refl
      by true false e p = absurd (search (rules, e))
      by false true e p = absurd (search (rules, e))
      by false false e p = omega (arith, p)

  place_is : (table : List A) (a : A) → Every Has table → Has a → place_of (map key table) (key a) ≡ cond (has equal table a) (Some (place_in equal table a)) None
  place_is table a t h =
      let first = first_is table a t h in
      let count = length-map table key in
      λ j. cond (nat_lt (first j) (count j)) (Some (first j)) None

  module _ (keys : List (List ℕ)) (name : List ℕ) (table : List A) (a : A) (keyed : keys ≡ map key table) (named : name ≡ key a) (t : Every Has table) (h : Has a) where
    found_is : place_of keys name ≡ cond (has equal table a) (Some (place_in equal table a)) None
    found_is = (λ j. place_of (keyed j) (named j)) ∙ place_is table a t h

    -- what a look-up finds, or else the count, is the thing's number
    pub number_is : (found : Option ℕ) → found ≡ place_of keys name → unwrap_or found (length keys) ≡ place_in equal table a
    number_is found e = ap (λ o. unwrap_or o (length keys)) e ∙ (λ j. number_of (keyed j) (named j)) ∙ number_or (map key table) (key a) ∙ first_is table a t h

    pub stays : (n : ℕ) → Some n ≡ place_of keys name → seen_behind equal table (a ∷ []) ≡ table
    stays n e = ap (λ b. with_new equal b table a) (some_there (has equal table a) n (place_in equal table a) (e ∙ found_is))

    pub grows : None ≡ place_of keys name → seen_behind equal table (a ∷ []) ≡ table ++ a ∷ []
    grows e = ap (λ b. with_new equal b table a) (none_there (has equal table a) (place_in equal table a) (e ∙ found_is))
