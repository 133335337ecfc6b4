-- Sets to which is added that each variable is in its own region, and above itself.
use Rattle.std.proofs.Common.{◌≡◌, ◌∙◌, ℕ, ◌+◌, ◌<◌, ◌⊎◌, ◌&&◌, ◌||◌, nat_eq, nat_lt, IsTrue, ◌↔◌, refl, sym, subst, inl, inr, arith}
use Rattle.std.proofs.lemmas.Bool.{and_parts, and_from, or_cases, or_left, or_right, ltb-true, eq-eqb, eqb-true}
use Rattle.rc_facts.specs.declared.fact.Fact.{Fact}
use Rattle.rc_facts.specs.declared.fact.Fact.TheVariants.{In, Up, Trad, NonNull}
use Rattle.rc_facts.specs.Derivable.{Derivable, stated, in_itself, up_by_in}
use Rattle.rc_facts.specs.Facts.{Known, holds, is_over, same_fact}
use Rattle.rc_facts.proofs.Closes.{derivable_over}
use Rattle.rc_facts.proofs.Sets.{same_fact-true}
use Rattle.rc_annotations.proofs.Derivations.{derivable_more}
use Rattle.rc_carrying.specs.Left.{is_own}
use Rattle.rc_target_sets.specs.Shut.{HasMore, IsShut}

order : (a b : ℕ) → (a < b) ⊎ ((a ≡ b) ⊎ (b < a))
order a b = grind arith

pub more_none : (set : Known) → HasMore 0 set set
more_none set = record { variables = refl; kept = λ fact is. is; own = λ x lt. absurd (omega (arith, lt)); derived = λ fact is. stated is }

module _ (x : ℕ) (first old new : Known) (lt : x < first.variables) (h : HasMore x first old) (added : (fact : Fact) → holds new fact ≡ ((holds old fact || same_fact (In x x) fact) || same_fact (Up x x) fact)) where
  stays : (fact : Fact) → IsTrue (holds old fact) → IsTrue (holds new fact)
  stays fact is = added fact ∙ or_left (holds old fact || same_fact (In x x) fact) (same_fact (Up x x) fact) (or_left (holds old fact) (same_fact (In x x) fact) is)

  same : IsTrue (nat_eq x x && nat_eq x x)
  same = and_from (nat_eq x x) (nat_eq x x) (eq-eqb x x refl) (eq-eqb x x refl)

  now_own : IsTrue (holds new (In x x)) × IsTrue (holds new (Up x x))
  now_own = (
    added (In x x) ∙ or_left (holds old (In x x) || same_fact (In x x) (In x x)) (same_fact (Up x x) (In x x)) (or_right (holds old (In x x)) (same_fact (In x x) (In x x)) same),
    added (Up x x) ∙ or_right (holds old (Up x x) || same_fact (In x x) (Up x x)) (same_fact (Up x x) (Up x x)) same,
  )

  own : (u : ℕ) → u < x + 1 → IsTrue (holds new (In u u)) × IsTrue (holds new (Up u u))
  own u l = by (order u x)
    where
      by : (u < x) ⊎ ((u ≡ x) ⊎ (x < u)) → IsTrue (holds new (In u u)) × IsTrue (holds new (Up u u))
      by (inl less) = (stays (In u u) (h.own u less).0, stays (Up u u) (h.own u less).1)
      by (inr (inl is)) = subst (λ v. IsTrue (holds new (In v v)) × IsTrue (holds new (Up v v))) (sym is) now_own
      by (inr (inr more)) = absurd (omega (arith, l, more))

  derived : (fact : Fact) → IsTrue (holds new fact) → Derivable first.variables (holds first) fact
  derived fact is = by (or_cases (holds old fact || same_fact (In x x) fact) (same_fact (Up x x) fact) (sym (added fact) ∙ is))
    where
      before : (IsTrue (holds old fact) ⊎ IsTrue (same_fact (In x x) fact)) → Derivable first.variables (holds first) fact
      before (inl was) = h.derived fact was
      before (inr e) = subst (Derivable first.variables (holds first)) (same_fact-true (In x x) fact e) (in_itself lt)

      by : (IsTrue (holds old fact || same_fact (In x x) fact) ⊎ IsTrue (same_fact (Up x x) fact)) → Derivable first.variables (holds first) fact
      by (inl one) = before (or_cases (holds old fact) (same_fact (In x x) fact) one)
      by (inr e) = subst (Derivable first.variables (holds first)) (same_fact-true (Up x x) fact e) (up_by_in (in_itself lt))

  pub more_one : new.variables ≡ old.variables → HasMore (x + 1) first new
  more_one e = record { variables = e ∙ h.variables; kept = λ fact is. stays fact (h.kept fact is); own = own; derived = derived }

-- what such a set has is what follows from a shut one
pub follows : (set new : Known) → IsShut set → HasMore set.variables set new → (fact : Fact) → IsTrue (holds new fact) ↔ Derivable set.variables (holds set) fact
follows set new s h fact = (h.derived fact, λ d. by fact (derivable_over s.over d) (or_cases (holds set fact) (is_own fact) (s.shut fact d)))
  where
    by : (p : Fact) → IsTrue (is_over set.variables p) → (IsTrue (holds set p) ⊎ IsTrue (is_own p)) → IsTrue (holds new p)
    by p over (inl is) = h.kept p is
    by (In u v) over (inr e) = subst (λ w. IsTrue (holds new (In u w))) (eqb-true u v e) (h.own u (ltb-true u set.variables (and_parts (nat_lt u set.variables) (nat_lt v set.variables) over).0)).0
    by (Up u v) over (inr e) = subst (λ w. IsTrue (holds new (Up u w))) (eqb-true u v e) (h.own u (ltb-true u set.variables (and_parts (nat_lt u set.variables) (nat_lt v set.variables) over).0)).1
    by (Trad u) over (inr e) = absurd cc
    by (NonNull u) over (inr e) = absurd cc

-- what two shut sets have is shut
pub both_shut : (a b c : Known) → IsShut a → IsShut b → b.variables ≡ a.variables → c.variables ≡ a.variables → ((fact : Fact) → holds c fact ≡ (holds a fact && holds b fact)) → IsShut c
both_shut a b c s t eb ec both = record {
  over = λ fact is. subst (λ n. IsTrue (is_over n fact)) (sym ec) (s.over fact (parts fact is).0);
  shut = λ fact d. by fact (or_cases (holds a fact) (is_own fact) (s.shut fact (derivable_more (λ p is. (parts p is).0) (subst (λ n. Derivable n (holds c) fact) ec d))))
      (or_cases (holds b fact) (is_own fact) (t.shut fact (derivable_more (λ p is. (parts p is).1) (subst (λ n. Derivable n (holds c) fact) (ec ∙ sym eb) d))));
}
  where
    parts : (fact : Fact) → IsTrue (holds c fact) → IsTrue (holds a fact) × IsTrue (holds b fact)
    parts fact is = and_parts (holds a fact) (holds b fact) (sym (both fact) ∙ is)

    by : (fact : Fact) → (IsTrue (holds a fact) ⊎ IsTrue (is_own fact)) → (IsTrue (holds b fact) ⊎ IsTrue (is_own fact)) → IsTrue (holds c fact || is_own fact)
    by fact (inr own) q = or_right (holds c fact) (is_own fact) own
    by fact (inl one) (inr own) = or_right (holds c fact) (is_own fact) own
    by fact (inl one) (inl two) = or_left (holds c fact) (is_own fact) (both fact ∙ and_from (holds a fact) (holds b fact) one two)
