-- Derivations with one name for another, and lists that a set has.
use Rattle.std.proofs.Common.{◌≡◌, ℕ, ◌<◌, Bool, true, false, not, ◌||◌, nat_eq, IsTrue, List, [], ◌∷◌, refl, sym, subst, inl, inr}
use Rattle.std.proofs.lemmas.Bool.{or_cases}
use Rattle.rc_facts.specs.declared.fact.Fact.{Fact}
use Rattle.rc_facts.specs.declared.fact.Fact.TheVariants.{In, Up, Trad, NonNull}
use Rattle.rc_facts.specs.Derivable.{Derivable}
use Rattle.rc_facts.specs.Facts.{same_fact, replaced, with_replaced}
use Rattle.rc_facts.proofs.Sets.{same_fact-true}
use Rattle.rc_annotations.specs.Annotations.{fact_with}
use Rattle.rc_edges.proofs.Renaming.{derivable_under}
use Rattle.rc_facts.specs.Flow.{Facts}
use Rattle.rc_crossing.specs.Fitting.{lacks}
use Rattle.rc_carrying.specs.Passing.{listed}

-- ---- derivations

pub replaced_under : (n x s u : ℕ) → s < n → u < n → replaced x s u < n
replaced_under n x s u lt under = by (nat_eq u x) refl
  where
    by : (b : Bool) → nat_eq u x ≡ b → replaced x s u < n
    by true e = rw e lt
    by false e = rw e under

as_named : (x s : ℕ) (p : Fact) → with_replaced x s p ≡ fact_with (replaced x s) p
as_named x s (In a b) = refl
as_named x s (Up a b) = refl
as_named x s (Trad a) = refl
as_named x s (NonNull a) = refl

-- a derivation with one name for another
pub derivable_replaced : {n : ℕ} {given others : Facts} (x s : ℕ) → s < n → ((p : Fact) → IsTrue (given p) → Derivable n others (with_replaced x s p)) → {fact : Fact} → Derivable n given fact → Derivable n others (with_replaced x s fact)
derivable_replaced {n} {given} {others} x s lt h {fact} d =
    subst (Derivable n others) (sym (as_named x s fact)) (derivable_under (replaced x s) (λ u under. replaced_under n x s u lt under) (λ p is. subst (Derivable n others) (as_named x s p) (h p is)) d)

-- ---- what isn't lacking is there

truly : (b : Bool) → not b ≡ false → b ≡ true
truly true e = refl
truly false e = cc

neither : (a b : Bool) → (a || b) ≡ false → (a ≡ false) × (b ≡ false)
neither true b e = cc
neither false b e = (refl, e)

-- what isn't lacking is there
pub there : (set : Facts) (facts : List Fact) → lacks set facts ≡ false → (p : Fact) → IsTrue (listed facts p) → IsTrue (set p)
there set [] e p is = cc
there set (q ∷ facts) e p is = let b = neither (not (set q)) (lacks set facts) e in elim (or_cases (same_fact q p) (listed facts p) is) [
  | inl one ↦ subst (λ r. IsTrue (set r)) (same_fact-true q p one) (truly (set q) b.0)
  | inr other ↦ there set facts b.1 p other
]
