-- It is decided what is derivable from facts on finitely many variables.
use Rattle.std.proofs.Common.{◌≡◌, ◌<◌, ◌⊎◌, inl, inr, ◌↔◌, ℕ, zero, suc, Bool, true, false, ◌&&◌, ◌||◌, not, List, [], ◌∷◌, refl, sym, ap, ◌∙◌, subst, arith, nat_eq}
use Rattle.std.specs.Prelude.{nat_lt}
use Rattle.std.specs.List.{list_any}
use Rattle.std.proofs.lemmas.Bool.{and_parts, and_from, or_cases, or_left, or_right, lt-ltb, ltb-true, eqb-true, eqb-false, eq-eqb}
use Rattle.rc_facts.specs.declared.fact.Fact.{Fact}
use Rattle.rc_facts.specs.declared.fact.Fact.TheVariants.{In, Up, Trad, NonNull}
use Rattle.rc_facts.specs.Derivable.{Derivable, stated, in_itself, in_through, up_through, up_by_in, in_back, present_by_in, present_by_up, trad_by_up, up_by_trad, in_by_trad}
use Rattle.rc_facts.specs.Facts.{is_over, same_fact}
use Rattle.rc_facts.specs.Inside.{facts_over}
use Rattle.rc_facts.proofs.Closes.{derivable_over}
use Rattle.rc_facts.proofs.Sets.{all_over, same_fact-true}
use Rattle.rc_annotations.specs.Annotations.{Facts, some_below}
use Rattle.rc_edges.proofs.Search.{next, settle, Settled}

pub some_in : (test : ℕ → Bool) (n z : ℕ) → z < n → test z ≡ true → some_below test n ≡ true
some_in test zero z l e = absurd (omega (arith, l))
some_in test (suc n) z l e = by (nat_eq z n) refl (some_in test n z)
  where
    by : (b : Bool) → nat_eq z n ≡ b → (z < n → test z ≡ true → some_below test n ≡ true) → (test n || some_below test n) ≡ true
    by true is again = or_left (test n) (some_below test n) (subst (λ k. test k ≡ true) (eqb-true z n is) e)
    by false is again = or_right (test n) (some_below test n) (again (let h = eqb-false z n is in omega (arith, l, h)) e)

pub some_out : (test : ℕ → Bool) (n : ℕ) → some_below test n ≡ true → (z : ℕ) × (z < n) × (test z ≡ true)
some_out test zero e = absurd cc
some_out test (suc n) e = by (or_cases (test n) (some_below test n) e) (some_out test n)
  where
    by : (test n ≡ true) ⊎ (some_below test n ≡ true) → (some_below test n ≡ true → (z : ℕ) × (z < n) × (test z ≡ true)) → (z : ℕ) × (z < suc n) × (test z ≡ true)
    by (inl here) again = (n, omega arith, here)
    by (inr rest) again = let found = again rest in (found.0, (let l = found.1 in omega (arith, l)), found.2)

-- a fact follows by one rule from facts that are known
abbrev follows : ℕ → Facts → Fact → Bool
follows n s (In x y) = (nat_eq x y && nat_lt x n) || (some_below (λ z. s (In x z) && s (In z y)) n || ((s (In y x) && s (NonNull y)) || (s (Trad x) && (s (Trad y) && s (NonNull y)))))
follows n s (Up x y) = some_below (λ z. s (Up x z) && s (Up z y)) n || (s (In x y) || (s (Trad x) && s (NonNull y)))
follows n s (Trad x) = some_below (λ y. s (Up x y) && s (Trad y)) n
follows n s (NonNull y) = some_below (λ x. s (In x y) && s (NonNull x)) n || some_below (λ x. s (Up x y) && s (NonNull x)) n

module _ (n : ℕ) (given : Facts) where
  sound : (s : Facts) → ((p : Fact) → s p ≡ true → Derivable n given p) → (f : Fact) → follows n s f ≡ true → Derivable n given f
  sound s h (In x y) e = elim (or_cases (nat_eq x y && nat_lt x n) _ e) [
    | inl same ↦ let q = and_parts (nat_eq x y) (nat_lt x n) same in subst (λ k. Derivable n given (In x k)) (eqb-true x y q.0) (in_itself (ltb-true x n q.1))
    | inr rest ↦ elim (or_cases (some_below (λ z. s (In x z) && s (In z y)) n) _ rest) [
      | inl some ↦ let found = some_out (λ z. s (In x z) && s (In z y)) n some in let q = and_parts (s (In x found.0)) (s (In found.0 y)) found.2 in in_through (h (In x found.0) q.0) (h (In found.0 y) q.1)
      | inr last ↦ elim (or_cases (s (In y x) && s (NonNull y)) _ last) [
        | inl back ↦ let q = and_parts (s (In y x)) (s (NonNull y)) back in in_back (h (In y x) q.0) (h (NonNull y) q.1)
        | inr trad ↦ let q = and_parts (s (Trad x)) (s (Trad y) && s (NonNull y)) trad in let p = and_parts (s (Trad y)) (s (NonNull y)) q.1 in in_by_trad (h (Trad x) q.0) (h (Trad y) p.0) (h (NonNull y) p.1)
      ]
    ]
  ]
  sound s h (Up x y) e = elim (or_cases (some_below (λ z. s (Up x z) && s (Up z y)) n) _ e) [
    | inl some ↦ let found = some_out (λ z. s (Up x z) && s (Up z y)) n some in let q = and_parts (s (Up x found.0)) (s (Up found.0 y)) found.2 in up_through (h (Up x found.0) q.0) (h (Up found.0 y) q.1)
    | inr rest ↦ elim (or_cases (s (In x y)) _ rest) [
      | inl one ↦ up_by_in (h (In x y) one)
      | inr trad ↦ let q = and_parts (s (Trad x)) (s (NonNull y)) trad in up_by_trad (h (Trad x) q.0) (h (NonNull y) q.1)
    ]
  ]
  sound s h (Trad x) e =
      let found = some_out (λ y. s (Up x y) && s (Trad y)) n e in
      let q = and_parts (s (Up x found.0)) (s (Trad found.0)) found.2 in
      trad_by_up (h (Up x found.0) q.0) (h (Trad found.0) q.1)
  sound s h (NonNull y) e = elim (or_cases (some_below (λ x. s (In x y) && s (NonNull x)) n) _ e) [
    | inl some ↦ let found = some_out (λ x. s (In x y) && s (NonNull x)) n some in let q = and_parts (s (In found.0 y)) (s (NonNull found.0)) found.2 in present_by_in (h (In found.0 y) q.0) (h (NonNull found.0) q.1)
    | inr some ↦ let found = some_out (λ x. s (Up x y) && s (NonNull x)) n some in let q = and_parts (s (Up found.0 y)) (s (NonNull found.0)) found.2 in present_by_up (h (Up found.0 y) q.0) (h (NonNull found.0) q.1)
  ]

  -- facts that have what is given, and what follows from them by a rule, have all that is derivable
  module _ (over : (f : Fact) → given f ≡ true → is_over n f ≡ true) (s : Facts) (has : (f : Fact) → given f ≡ true → s f ≡ true) (shut : (f : Fact) → is_over n f ≡ true → follows n s f ≡ true → s f ≡ true) where
    whole : {f : Fact} → Derivable n given f → s f ≡ true
    whole {f} (stated is) = has f is
    whole (in_itself {x} below) = shut (In x x) (and_from (nat_lt x n) (nat_lt x n) (lt-ltb x n below) (lt-ltb x n below)) (or_left (nat_eq x x && nat_lt x n) _ (and_from (nat_eq x x) (nat_lt x n) (eq-eqb x x refl) (lt-ltb x n below)))
    whole (in_through {x} {y} {z} one two) =
        let o = derivable_over over (in_through one two) in
        let l = ltb-true y n (and_parts (nat_lt x n) (nat_lt y n) (derivable_over over one)).1 in
        shut (In x z) o (or_right (nat_eq x z && nat_lt x n) _ (or_left (some_below (λ k. s (In x k) && s (In k z)) n) _ (some_in (λ k. s (In x k) && s (In k z)) n y l (and_from (s (In x y)) (s (In y z)) (whole one) (whole two)))))
    whole (up_through {x} {y} {z} one two) =
        let o = derivable_over over (up_through one two) in
        let l = ltb-true y n (and_parts (nat_lt x n) (nat_lt y n) (derivable_over over one)).1 in
        shut (Up x z) o (or_left (some_below (λ k. s (Up x k) && s (Up k z)) n) _ (some_in (λ k. s (Up x k) && s (Up k z)) n y l (and_from (s (Up x y)) (s (Up y z)) (whole one) (whole two))))
    whole (up_by_in {x} {y} one) = shut (Up x y) (derivable_over over (up_by_in one)) (or_right (some_below (λ k. s (Up x k) && s (Up k y)) n) _ (or_left (s (In x y)) _ (whole one)))
    whole (in_back {x} {y} one two) =
        shut (In y x) (derivable_over over (in_back one two)) (or_right (nat_eq y x && nat_lt y n) _ (or_right (some_below (λ k. s (In y k) && s (In k x)) n) _ (or_left (s (In x y) && s (NonNull x)) _ (and_from (s (In x y)) (s (NonNull x)) (whole one) (whole two)))))
    whole (present_by_in {x} {y} one two) =
        let l = ltb-true x n (and_parts (nat_lt x n) (nat_lt y n) (derivable_over over one)).0 in
        shut (NonNull y) (derivable_over over (present_by_in one two)) (or_left (some_below (λ k. s (In k y) && s (NonNull k)) n) _ (some_in (λ k. s (In k y) && s (NonNull k)) n x l (and_from (s (In x y)) (s (NonNull x)) (whole one) (whole two))))
    whole (present_by_up {x} {y} one two) =
        let l = ltb-true x n (and_parts (nat_lt x n) (nat_lt y n) (derivable_over over one)).0 in
        shut (NonNull y) (derivable_over over (present_by_up one two)) (or_right (some_below (λ k. s (In k y) && s (NonNull k)) n) _ (some_in (λ k. s (Up k y) && s (NonNull k)) n x l (and_from (s (Up x y)) (s (NonNull x)) (whole one) (whole two))))
    whole (trad_by_up {x} {y} one two) =
        let l = ltb-true y n (and_parts (nat_lt x n) (nat_lt y n) (derivable_over over one)).1 in
        shut (Trad x) (derivable_over over (trad_by_up one two)) (some_in (λ k. s (Up x k) && s (Trad k)) n y l (and_from (s (Up x y)) (s (Trad y)) (whole one) (whole two)))
    whole (up_by_trad {x} {y} one two) =
        shut (Up x y) (derivable_over over (up_by_trad one two)) (or_right (some_below (λ k. s (Up x k) && s (Up k y)) n) _ (or_right (s (In x y)) _ (and_from (s (Trad x)) (s (NonNull y)) (whole one) (whole two))))
    whole (in_by_trad {x} {y} one two three) =
        shut (In x y) (derivable_over over (in_by_trad one two three)) (or_right (nat_eq x y && nat_lt x n) _ (or_right (some_below (λ k. s (In x k) && s (In k y)) n) _ (or_right (s (In y x) && s (NonNull y)) _ (and_from (s (Trad x)) (s (Trad y) && s (NonNull y)) (whole one) (and_from (s (Trad y)) (s (NonNull y)) (whole two) (whole three))))))

-- of a list, where no element passes a test
none_passes : (test : Fact → Bool) (f : Fact) (facts : List Fact) → list_any test facts ≡ false → list_any (same_fact f) facts ≡ true → test f ≡ false
none_passes test f [] none e = absurd cc
none_passes test f (p ∷ facts) none e = by (same_fact f p) refl (none_passes test f facts)
  where
    parts : (a b : Bool) → (a || b) ≡ false → (a ≡ false) × (b ≡ false)
    parts true b h = absurd cc
    parts false b h = (refl, h)

    by : (b : Bool) → same_fact f p ≡ b → (list_any test facts ≡ false → list_any (same_fact f) facts ≡ true → test f ≡ false) → test f ≡ false
    by true is again = ap test (same_fact-true f p is) ∙ (parts (test p) (list_any test facts) none).0
    by false is again = again (parts (test p) (list_any test facts) none).1 (sym (ap (λ b. b || list_any (same_fact f) facts) is) ∙ e)

not_true : (b : Bool) → not b ≡ true → b ≡ false
not_true true e = absurd cc
not_true false e = refl

is_not : (b : Bool) → b ≡ false → not b ≡ true
is_not b e = ap not e

pub record Decided (n : ℕ) (given : Facts) : Type 0 where
  pub derived : Facts
  pub is : (f : Fact) → derived f ≡ true ↔ Derivable n given f

module _ (n : ℕ) (given : Facts) (over : (f : Fact) → given f ≡ true → is_over n f ≡ true) where
  -- what is not derived yet
  abbrev drops : (Fact → Bool) → Fact → Bool
  drops u f = given f || follows n (λ p. not (u p)) f

  abbrev Rightly : (Fact → Bool) → Type 0
  Rightly u = (f : Fact) → u f ≡ false → Derivable n given f

  dropped : (x d : Bool) → (x && not d) ≡ false → (x ≡ false) ⊎ (d ≡ true)
  dropped true true e = inr refl
  dropped true false e = absurd cc
  dropped false d e = inl refl

  keeps : (u : Fact → Bool) → Rightly u → Rightly (next drops u)
  keeps u h f e = elim (dropped (u f) (drops u f) e) [
    | inl was ↦ h f was
    | inr now ↦ elim (or_cases (given f) (follows n (λ p. not (u p)) f) now) [
      | inl is ↦ stated is
      | inr rule ↦ sound n given (λ p. not (u p)) (λ p q. h p (not_true (u p) q)) f rule
    ]
  ]

  ended : Settled drops (facts_over n) Rightly
  ended = settle drops (facts_over n) Rightly keeps (λ f. true) (λ f e. absurd cc)

  not_both : (x d : Bool) → (x && d) ≡ false → d ≡ true → x ≡ false
  not_both true d e k = absurd cc
  not_both false d e k = refl

  gone : (f : Fact) → is_over n f ≡ true → drops ended.state f ≡ true → ended.state f ≡ false
  gone f o e = not_both (ended.state f) (drops ended.state f) (none_passes (λ k. ended.state k && drops ended.state k) f (facts_over n) ended.stable (all_over f n ∙ o)) e

  abbrev s : Facts
  s f = not (ended.state f)

  pub decided : Decided n given
  decided = record {
    derived = s;
    is = λ f. (
      λ e. ended.holds f (not_true (ended.state f) e),
      λ d. whole n given over s
          (λ p is. is_not (ended.state p) (gone p (over p is) (or_left (given p) (follows n s p) is)))
          (λ p o rule. is_not (ended.state p) (gone p o (or_right (given p) (follows n s p) rule)))
          d,
    );
  }
