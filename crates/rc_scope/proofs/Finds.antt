-- The look-up by slots finds what a name stands for.
use Rattle.std.proofs.Common.{◌≡◌, ◌≢◌, ◌<◌, ◌≤◌, ℕ, suc, refl, sym, ap, ◌∙◌, subst, ◌⊎◌, List, [], ◌∷◌, length, get_or, Option, Some, None, Bool, true, false, AllPairs, arith, inl, inr, nat_lt, nat_eq, if◌then◌else◌}
use Rattle.std.proofs.lemmas.Bool.Decides.{eqb_tells, nat_tests}
use Rattle.std.proofs.lemmas.List.{get_or_default}
use Rattle.std.proofs.lemmas.Slice.Eq.{bytes_eq-Decides}
use Rattle.std.specs.Str.{bytes_eq}
use Rattle.rc_scope.specs.declared.entry.Entry.{Entry}
use Rattle.rc_scope.specs.Names.{place_of}
use Rattle.rc_scope.specs.Scopes.{meaning_of, from_below}
use Rattle.rc_scope.specs.Stack.{name_at, shown, slot_of, innermost, AreLinked, IsSound}
use Rattle.rc_scope.proofs.Numbers.{is_at, differs}
use Rattle.rc_scope.proofs.Stacks.{from_below-top, from_below-rest, there_below}

is_false : (b : Bool) → (b ≡ true → ⊥) → b ≡ false
is_false true h = absurd (h refl)
is_false false h = refl

spelt : (x name : List ℕ) → x ≡ name → bytes_eq x name ≡ true
spelt x name h = (bytes_eq-Decides x name).1 h

other : (x name : List ℕ) → x ≢ name → bytes_eq x name ≡ false
other x name h = is_false (bytes_eq x name) (λ e. h ((bytes_eq-Decides x name).0 e))

less_or : (k n : ℕ) → k ≢ n → (k < n) ⊎ (n < k)
less_or k n h = by (nat_lt k n) refl where
  by : (b : Bool) → nat_lt k n ≡ b → (k < n) ⊎ (n < k)
  by true e = inl (grind (arith, nat_tests))
  by false e = let most : n ≤ k = grind (arith, nat_tests) in inr (grind arith)

head_found : {T : Type 0} (b : Bool) (m : T) (rest : Option T) → b ≡ true → (if b then Some m else rest) ≡ Some m
head_found true m rest h = refl
head_found false m rest h = absurd cc

head_passed : {T : Type 0} (b : Bool) (m : T) (rest : Option T) → b ≡ false → (if b then Some m else rest) ≡ rest
head_passed false m rest h = refl
head_passed true m rest h = absurd cc

head_is : {T : Type 0} (b : Bool) (m : T) (rest : Option T) (x : T) → b ≡ true → (if b then Some m else rest) ≡ Some x → m ≡ x
head_is true m rest x h q = cc
head_is false m rest x h q = absurd cc

rest_is : {T : Type 0} (b : Bool) (m : T) (rest o : Option T) → b ≡ false → (if b then Some m else rest) ≡ o → rest ≡ o
rest_is false m rest o h q = q
rest_is true m rest o h q = absurd cc

none_there : {T : Type 0} (b : Bool) (m : T) (rest : Option T) → b ≡ true → (if b then Some m else rest) ≡ None → ⊥
none_there true m rest h q = cc
none_there false m rest h q = cc

some_is : {T : Type 0} (a b : T) → Some a ≡ Some b → a ≡ b
some_is a b q = cc

within_more : (b : Bool) (n place : ℕ) (rest : Option ℕ) → (if b then Some n else rest) ≡ Some place → (rest ≡ Some place → place < n) → place < suc n
within_more true n place rest q h = let same : n ≡ place = cc in omega arith
within_more false n place rest q h = let less = h q in omega arith

module _ (names : List (List ℕ)) (name : List ℕ) (distinct : AllPairs (λ a b. a ≢ b) names) (n : ℕ) (at : place_of names name ≡ Some n) where
  named : (n < length names) × (name_at names n ≡ name)
  named = let h = is_at names name n at in (h.0, get_or_default names n [] name h.0 ∙ h.1)

  -- another number has another name
  differs_at : (k : ℕ) → k < length names → k ≢ n → name_at names k ≢ name
  differs_at k h other_number same = by (less_or k n other_number) where
    by : (k < n) ⊎ (n < k) → ⊥
    by (inl less) = distinct k n [] less named.0 (same ∙ sym named.1)
    by (inr more) = distinct n k [] more h (named.1 ∙ sym same)

module _ {T : Type 0} where
  innermost_within : (es : List (Entry T)) (n place : ℕ) → innermost es n ≡ Some place → place < length es
  innermost_within [] n place h = absurd cc
  innermost_within (e ∷ es) n place h = within_more (nat_eq e.name n) (length es) place (innermost es n) h (innermost_within es n place)

  module _ (names : List (List ℕ)) (name : List ℕ) where
    -- no entry has a name without a number
    pub unknown_stands_for_nothing : (es : List (Entry T)) (s : ℕ) → AreLinked (length names) s es → place_of names name ≡ None → meaning_of (shown names es) name ≡ None
    unknown_stands_for_nothing [] s h none = refl
    unknown_stands_for_nothing (e ∷ es) s h none = head_passed (bytes_eq (name_at names e.name) name) e.meaning (meaning_of (shown names es) name) (other (name_at names e.name) name (differs names name none e.name [] h.0)) ∙ unknown_stands_for_nothing es s h.1.1.1 none

    module _ (distinct : AllPairs (λ a b. a ≢ b) names) (n : ℕ) (at : place_of names name ≡ Some n) where
      -- an entry of another name is passed over
      passed : (e : Entry T) (es : List (Entry T)) → e.name < length names → e.name ≢ n → meaning_of (shown names (e ∷ es)) name ≡ meaning_of (shown names es) name
      passed e es h k = head_passed (bytes_eq (name_at names e.name) name) e.meaning (meaning_of (shown names es) name) (other (name_at names e.name) name (differs_at names name distinct n at e.name h k))

      own : (e : Entry T) (es : List (Entry T)) → e.name ≡ n → meaning_of (shown names (e ∷ es)) name ≡ Some e.meaning
      own e es k = head_found (bytes_eq (name_at names e.name) name) e.meaning (meaning_of (shown names es) name) (spelt (name_at names e.name) name (ap (name_at names) k ∙ (named names name distinct n at).1))

      pub nowhere_stands_for_nothing : (es : List (Entry T)) (s : ℕ) → AreLinked (length names) s es → innermost es n ≡ None → meaning_of (shown names es) name ≡ None
      nowhere_stands_for_nothing [] s h none = refl
      nowhere_stands_for_nothing (e ∷ es) s h none = elim (eqb_tells e.name n) [
        | inl k ↦ absurd (none_there (nat_eq e.name n) (length es) (innermost es n) k.0 none)
        | inr k ↦ passed e es h.0 k.1 ∙ nowhere_stands_for_nothing es s h.1.1.1 (rest_is (nat_eq e.name n) (length es) (innermost es n) None k.0 none)
      ]

      pub innermost_stands : (es : List (Entry T)) (s place : ℕ) (x : Entry T) → AreLinked (length names) s es → innermost es n ≡ Some place → from_below es place ≡ Some x → meaning_of (shown names es) name ≡ Some x.meaning
      innermost_stands [] s place x h at_place there = absurd cc
      innermost_stands (e ∷ es) s place x h at_place there = elim (eqb_tells e.name n) [
        | inl k ↦
            let same = head_is (nat_eq e.name n) (length es) (innermost es n) place k.0 at_place in
            let is : e ≡ x = some_is e x (sym (from_below-top e es) ∙ subst (λ p. from_below (e ∷ es) p ≡ Some x) (sym same) there) in
            own e es k.1 ∙ ap (λ (y : Entry T). Some y.meaning) is
        | inr k ↦
            let at_rest = rest_is (nat_eq e.name n) (length es) (innermost es n) (Some place) k.0 at_place in
            passed e es h.0 k.1 ∙ innermost_stands es s place x h.1.1.1 at_rest (sym (from_below-rest e es place (innermost_within es n place at_rest)) ∙ there)
      ]

      pub innermost_is_there : (es : List (Entry T)) (place : ℕ) → innermost es n ≡ Some place → from_below es place ≡ None → ⊥
      innermost_is_there es place at_place none = there_below es place (innermost_within es n place at_place) none
