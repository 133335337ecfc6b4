-- Proofs fail first in one place, or nowhere.
use Rattle.std.proofs.Common.{◌≡◌, ◌≢◌, ◌<◌, ◌⊎◌, ◌∙◌, ℕ, inl, inr, refl, sym, ap, subst}
use Rattle.std.proofs.lemmas.Bool.{cases_order}
use Rattle.rc_annotations.specs.Annotations.{Annotation}
use Rattle.rc_code.specs.declared.image.Parts.{Parts}
use Rattle.rc_code.specs.Running.{reading_of}
use Rattle.rc_sealed.specs.AllProved.{AllProved}
use Rattle.rc_sealed.specs.Faults.{FirstFailure, FirstWide, IsProofFault, NoneIsWide, StandsBefore}
use Rattle.rc_sealed.specs.Pinned.{Pinned}
use Rattle.rc_sealed.specs.Proved.{Proved}
use Rattle.rc_sealed.specs.declared.fault.ProofFault.{ProofFault}
use Rattle.rc_sealed.specs.declared.fault.ProofFault.TheVariants.{Facts, Pins, Wide, Memory}

pub one_wide : (parts : Parts) (f g : ℕ) → FirstWide parts f → FirstWide parts g → f ≡ g
one_wide parts f g a b = by (cases_order f g)
  where
    by : (f ≡ g) ⊎ ((f < g) ⊎ (g < f)) → f ≡ g
    by (inl e) = e
    by (inr (inl l)) = absurd (b.first f l a.wide)
    by (inr (inr l)) = absurd (a.first g l b.wide)

module _ (parts : Parts) (proofs : Annotation) where
  -- the first instruction that isn't both proved and pinned
  record Fails (f i : ℕ) : Type 0 where
    pub first : FirstFailure parts proofs f i
    pub fails : Proved (reading_of parts) proofs f i → Pinned (reading_of parts) f i → ⊥

  none_before : (f i g j : ℕ) → Fails f i → Fails g j → StandsBefore f i g j → ⊥
  none_before f i g j a b l = a.fails (b.first.proved f i l a.first.inside) (b.first.pinned f i l a.first.inside)

  record IsSamePlace (f i g j : ℕ) : Type 0 where
    pub function : f ≡ g
    pub instruction : i ≡ j

  one_place : (f i g j : ℕ) → Fails f i → Fails g j → IsSamePlace f i g j
  one_place f i g j a b = by (cases_order f g) (cases_order i j)
    where
      by : (f ≡ g) ⊎ ((f < g) ⊎ (g < f)) → (i ≡ j) ⊎ ((i < j) ⊎ (j < i)) → IsSamePlace f i g j
      by (inr (inl l)) q = absurd (none_before f i g j a b (inl l))
      by (inr (inr l)) q = absurd (none_before g j f i b a (inl l))
      by (inl e) (inl p) = record { function = e; instruction = p }
      by (inl e) (inr (inl l)) = absurd (none_before f i g j a b (inr (e, l)))
      by (inl e) (inr (inr l)) = absurd (none_before g j f i b a (inr (sym e, l)))

  by_facts : (f i : ℕ) → IsProofFault parts proofs (Facts f i) → Fails f i
  by_facts f i p = record { first = p.1.0; fails = λ proved pinned. p.1.1 proved }

  by_pins : (f i : ℕ) → IsProofFault parts proofs (Pins f i) → Fails f i
  by_pins f i p = record { first = p.1.0; fails = λ proved pinned. p.1.1.1 pinned }

  -- where it is proved, facts don't fail
  not_both : (f i g j : ℕ) → IsProofFault parts proofs (Facts f i) → IsProofFault parts proofs (Pins g j) → ⊥
  not_both f i g j p q =
      let same = one_place f i g j (by_facts f i p) (by_pins g j q) in
      p.1.1 (subst (λ h. Proved (reading_of parts) proofs h i) (sym same.function) (subst (λ k. Proved (reading_of parts) proofs g k) (sym same.instruction) q.1.1.0))

  same_fault : (make : ℕ → ℕ → ProofFault) (f i g j : ℕ) → IsSamePlace f i g j → make f i ≡ make g j
  same_fault make f i g j same = ap (λ h. make h i) same.function ∙ ap (make g) same.instruction

  pub one_fault : (a b : ProofFault) → a ≢ Memory → b ≢ Memory → IsProofFault parts proofs a → IsProofFault parts proofs b → a ≡ b
  one_fault Memory b n m p q = absurd (n refl)
  one_fault a Memory n m p q = absurd (m refl)
  one_fault (Facts f i) (Facts g j) n m p q = same_fault Facts f i g j (one_place f i g j (by_facts f i p) (by_facts g j q))
  one_fault (Facts f i) (Pins g j) n m p q = absurd (not_both f i g j p q)
  one_fault (Facts f i) (Wide g) n m p q = absurd (p.0 g q.there q.wide)
  one_fault (Pins f i) (Facts g j) n m p q = absurd (not_both g j f i q p)
  one_fault (Pins f i) (Pins g j) n m p q = same_fault Pins f i g j (one_place f i g j (by_pins f i p) (by_pins g j q))
  one_fault (Pins f i) (Wide g) n m p q = absurd (p.0 g q.there q.wide)
  one_fault (Wide f) (Facts g j) n m p q = absurd (q.0 f p.there p.wide)
  one_fault (Wide f) (Pins g j) n m p q = absurd (q.0 f p.there p.wide)
  one_fault (Wide f) (Wide g) n m p q = ap Wide (one_wide parts f g p q)

  -- and where all is proved there is none
  pub none_where_proved : (fault : ProofFault) → fault ≢ Memory → AllProved parts proofs → NoneIsWide parts → IsProofFault parts proofs fault → ⊥
  none_where_proved Memory n all narrow p = n refl
  none_where_proved (Facts f i) n all narrow p = p.1.1 (all.proved f i p.1.0.there p.1.0.inside)
  none_where_proved (Pins f i) n all narrow p = p.1.1.1 (all.pinned f i p.1.0.there p.1.0.inside)
  none_where_proved (Wide f) n all narrow p = narrow f p.there p.wide
