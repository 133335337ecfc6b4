-- A set of a list that loses facts.
use Rattle.std.proofs.Common.{◌≡◌, ℕ, ◌<◌, Bool, true, false, ◌&&◌, ◌||◌, nat_eq, IsTrue, ◌↔◌, List, length, get_or, refl, sym, ap, ◌∙◌, subst, arith}
use Rattle.std.specs.Prelude.{MatchBool}
use Rattle.std.proofs.lemmas.Bool.{and_parts, and_from, eqb-true, eq-eqb}
use Rattle.rc_facts.specs.declared.fact.Fact.{Fact}
use Rattle.rc_facts.specs.Facts.{Known, holds}
use Rattle.rc_facts.specs.Flow.{facts_in, no_set, set_at}
use Rattle.rc_edges.specs.Reading.{Loses}

apart : (p at : ℕ) → nat_eq p at ≡ false → p ≡ at → ⊥
apart p at e q = not_both (sym e ∙ eq-eqb p at q)
  where
    not_both : false ≡ true → ⊥
    not_both c = cc

pub lost_at : (lost : Bool) (old new : List Known) (at : ℕ) (other : Known) → length new ≡ length old → (get_or new at no_set).variables ≡ (get_or old at no_set).variables
    → ((p : ℕ) → (p ≡ at → ⊥) → get_or new p no_set ≡ get_or old p no_set) → ((fact : Fact) → set_at new at fact ≡ (set_at old at fact && holds other fact)) → MatchBool lost (facts_in new < facts_in old) (new ≡ old)
    → Loses lost old new (λ p fact. p ≡ at → IsTrue (holds other fact))
lost_at lost old new at other long variables others there fewer = record {
  long = long;
  variables = λ p. by_variables p (nat_eq p at) refl;
  facts = λ p fact. by_facts p fact (nat_eq p at) refl;
  fewer = fewer;
}
  where
    by_variables : (p : ℕ) (b : Bool) → nat_eq p at ≡ b → (get_or new p no_set).variables ≡ (get_or old p no_set).variables
    by_variables p true e = subst (λ q. (get_or new q no_set).variables ≡ (get_or old q no_set).variables) (sym (eqb-true p at e)) variables
    by_variables p false e = ap (λ (s : Known). s.variables) (others p (apart p at e))

    by_facts : (p : ℕ) (fact : Fact) (b : Bool) → nat_eq p at ≡ b → IsTrue (set_at new p fact) ↔ (IsTrue (set_at old p fact) × (p ≡ at → IsTrue (holds other fact)))
    by_facts p fact true e =
        let q : p ≡ at = eqb-true p at e in (
          λ is. (let h = and_parts (set_at old at fact) (holds other fact) (sym (there fact) ∙ subst (λ i. IsTrue (set_at new i fact)) q is) in (subst (λ i. IsTrue (set_at old i fact)) (sym q) h.0, λ _. h.1)),
          λ h. subst (λ i. IsTrue (set_at new i fact)) (sym q) (there fact ∙ and_from (set_at old at fact) (holds other fact) (subst (λ i. IsTrue (set_at old i fact)) q h.0) (h.1 q)),
        )
    by_facts p fact false e =
        let s : set_at new p fact ≡ set_at old p fact = ap (λ k. holds k fact) (others p (apart p at e)) in
        (λ is. (sym s ∙ is, λ q. absurd (apart p at e q)), λ h. s ∙ h.0)

-- one after the other
pub loses_then : (l1 l2 : Bool) (old mid new : List Known) (s1 s2 : ℕ → Fact → Type 0) → Loses l1 old mid s1 → Loses l2 mid new s2 → Loses (l1 || l2) old new (λ p fact. s1 p fact × s2 p fact)
loses_then l1 l2 old mid new s1 s2 a b = record {
  long = b.long ∙ a.long;
  variables = λ p. b.variables p ∙ a.variables p;
  facts = λ p fact. (λ is. (let h = (b.facts p fact).0 is in let g = (a.facts p fact).0 h.0 in (g.0, (g.1, h.1))), λ h. (b.facts p fact).1 ((a.facts p fact).1 (h.0, h.1.0), h.1.1));
  fewer = by l1 l2 a.fewer b.fewer;
}
  where
    by : (l1 l2 : Bool) → MatchBool l1 (facts_in mid < facts_in old) (mid ≡ old) → MatchBool l2 (facts_in new < facts_in mid) (new ≡ mid) → MatchBool (l1 || l2) (facts_in new < facts_in old) (new ≡ old)
    by true true a b = omega (arith, a, b)
    by true false a b = subst (λ s. facts_in s < facts_in old) (sym b) a
    by false true a b = subst (λ s. facts_in new < facts_in s) a b
    by false false a b = b ∙ a

-- with another condition that says the same
pub loses_as : (lost : Bool) (old new : List Known) (s1 s2 : ℕ → Fact → Type 0) → ((p : ℕ) (fact : Fact) → s1 p fact ↔ s2 p fact) → Loses lost old new s1 → Loses lost old new s2
loses_as lost old new s1 s2 same a = record {
  long = a.long;
  variables = a.variables;
  facts = λ p fact. (λ is. (let h = (a.facts p fact).0 is in (h.0, (same p fact).0 h.1)), λ h. (a.facts p fact).1 (h.0, (same p fact).1 h.1));
  fewer = a.fewer;
}

pub loses_nothing : (old : List Known) (s : ℕ → Fact → Type 0) → ((p : ℕ) (fact : Fact) → s p fact) → Loses false old old s
loses_nothing old s h = record { long = refl; variables = λ p. refl; facts = λ p fact. (λ is. (is, h p fact), λ g. g.0); fewer = refl }
