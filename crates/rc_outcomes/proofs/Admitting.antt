-- What is run of a file's image, or the refusal of it, is one thing.
use Rattle.std.proofs.Common.{◌≡◌, ◌≢◌, ◌∙◌, ◌⊎◌, ℕ, Some, None, Result, Err, inl, inr, refl, sym, ap, subst}
use Rattle.std.proofs.lemmas.Option.{same_Some}
use Rattle.rc_annotations.specs.Annotations.{Annotation}
use Rattle.rc_claims.specs.declared.proofs.Proofs.{Proofs}
use Rattle.rc_code.specs.declared.image.Parts.{Parts}
use Rattle.rc_loader.specs.declared.fault.Rule.{Rule}
use Rattle.rc_loader.specs.declared.fault.Rule.TheVariants as rule
use Rattle.rc_loader.specs.declared.fault.Violation.{Violation}
use Rattle.rc_loader.proofs.Firsts.{none_where_sound, one_first}
use Rattle.rc_sealed.specs.AllProved.{AllProved}
use Rattle.rc_sealed.specs.Claimed.{annotation_of}
use Rattle.rc_sealed.specs.Faults.{IsProofFault, NoneIsWide}
use Rattle.rc_sealed.specs.declared.fault.ProofFault.{ProofFault}
use Rattle.rc_sealed.specs.declared.fault.ProofFault.TheVariants as proof_fault
use Rattle.rc_sealings.proofs.Faults.{none_where_proved, one_fault}
use Rattle.rc_answers.specs.Answers.{IsOfCode, IsOfProofs}
use Rattle.rc_answers.specs.declared.image_refusal.ImageRefusal.{ImageRefusal}
use Rattle.rc_outcomes.specs.Images.{Carried}
use Rattle.rc_outcomes.specs.Outcome.{Admits, bare, broken, proven, refusal_by, refusal_of_code, refusal_of_proofs, unproven}

-- ---- refusals

pub is_of_code : (rule : Rule) (function instruction : ℕ) → IsOfCode (refusal_by rule function instruction)
is_of_code rule.Number function instruction = tt
is_of_code rule.Target function instruction = tt
is_of_code rule.Height function instruction = tt
is_of_code rule.Kind function instruction = tt

pub of_proofs : (fault : ProofFault) (refusal : ImageRefusal) → refusal_of_proofs fault ≡ Some refusal → IsOfProofs refusal
of_proofs (proof_fault.Facts function instruction) refusal told = subst IsOfProofs (same_Some _ refusal told) tt
of_proofs (proof_fault.Pins function instruction) refusal told = subst IsOfProofs (same_Some _ refusal told) tt
of_proofs (proof_fault.Wide function) refusal told = subst IsOfProofs (same_Some _ refusal told) tt
of_proofs proof_fault.Memory refusal told = absurd cc

-- want of memory is no refusal
pub no_memory : (fault : ProofFault) (refusal : ImageRefusal) → refusal_of_proofs fault ≡ Some refusal → fault ≢ proof_fault.Memory
no_memory fault refusal told is = let none : None ≡ Some refusal = ap refusal_of_proofs (sym is) ∙ told in absurd cc

pub one_told : (a b : ProofFault) (k l : ImageRefusal) → refusal_of_proofs a ≡ Some k → refusal_of_proofs b ≡ Some l → a ≡ b → k ≡ l
one_told a b k l told also same = same_Some k l (sym told ∙ ap refusal_of_proofs same ∙ also)

-- ---- one thing

same_proofs : (carried : Carried) (p q : Proofs) → carried.proofs ≡ Some p → carried.proofs ≡ Some q → q ≡ p
same_proofs carried p q a b = same_Some q p (sym b ∙ a)

none_or_some : (carried : Carried) (p : Proofs) → carried.proofs ≡ None → carried.proofs ≡ Some p → ⊥
none_or_some carried p a b = let wrong : None ≡ Some p = sym a ∙ b in absurd cc

module _ (carried : Carried) where
  proves : Proofs → Annotation
  proves proofs = annotation_of carried.image proofs

  not_both : (p q : Proofs) (fault : ProofFault) (refusal : ImageRefusal) → carried.proofs ≡ Some p → carried.proofs ≡ Some q → AllProved carried.image (annotation_of carried.image p) → NoneIsWide carried.image → IsProofFault carried.image (annotation_of carried.image q) fault → refusal_of_proofs fault ≡ Some refusal → ⊥
  not_both p q fault refusal has also all narrow is told =
      none_where_proved carried.image (annotation_of carried.image p) fault (no_memory fault refusal told) all narrow
      (subst (λ (proofs : Proofs). IsProofFault carried.image (annotation_of carried.image proofs) fault) (same_proofs carried p q has also) is)

  one_refusal : (p q : Proofs) (a b : ProofFault) (k l : ImageRefusal) → carried.proofs ≡ Some p → carried.proofs ≡ Some q → IsProofFault carried.image (annotation_of carried.image p) a → IsProofFault carried.image (annotation_of carried.image q) b → refusal_of_proofs a ≡ Some k → refusal_of_proofs b ≡ Some l → k ≡ l
  one_refusal p q a b k l has also is so told tells =
      one_told a b k l told tells
      (one_fault carried.image (annotation_of carried.image p) a b (no_memory a k told) (no_memory b l tells) is
      (subst (λ (proofs : Proofs). IsProofFault carried.image (annotation_of carried.image proofs) b) (same_proofs carried p q has also) so))

  pub one_admitted : (a b : Result Parts ImageRefusal) → Admits carried a → Admits carried b → a ≡ b
  one_admitted a b (bare none sound) (bare none' sound') = refl
  one_admitted a b (bare none sound) (proven p has sound' all narrow) = absurd (none_or_some carried p none has)
  one_admitted a b (bare none sound) (unproven p fault k has sound' is told) = absurd (none_or_some carried p none has)
  one_admitted a b (bare none sound) (broken v first) = absurd (none_where_sound carried.image v sound first)
  one_admitted a b (proven p has sound all narrow) (bare none sound') = absurd (none_or_some carried p none has)
  one_admitted a b (proven p has sound all narrow) (proven q has' sound' all' narrow') = refl
  one_admitted a b (proven p has sound all narrow) (unproven q fault k has' sound' is told) = absurd (not_both p q fault k has has' all narrow is told)
  one_admitted a b (proven p has sound all narrow) (broken v first) = absurd (none_where_sound carried.image v sound first)
  one_admitted a b (unproven p fault k has sound is told) (bare none sound') = absurd (none_or_some carried p none has)
  one_admitted a b (unproven p fault k has sound is told) (proven q has' sound' all narrow) = absurd (not_both q p fault k has' has all narrow is told)
  one_admitted a b (unproven p fault k has sound is told) (unproven q other l has' sound' so tells) = ap Err (one_refusal p q fault other k l has has' is so told tells)
  one_admitted a b (unproven p fault k has sound is told) (broken v first) = absurd (none_where_sound carried.image v sound first)
  one_admitted a b (broken v first) (bare none sound) = absurd (none_where_sound carried.image v sound first)
  one_admitted a b (broken v first) (proven p has sound all narrow) = absurd (none_where_sound carried.image v sound first)
  one_admitted a b (broken v first) (unproven p fault k has sound is told) = absurd (none_where_sound carried.image v sound first)
  one_admitted a b (broken v first) (broken w also) = ap (λ (u : Violation). Err (refusal_of_code u)) (one_first carried.image v w first also)

  -- a refusal is one of code or of proofs
  kind_of : (admitted : Result Parts ImageRefusal) (refusal : ImageRefusal) → admitted ≡ Err refusal → Admits carried admitted → IsOfCode refusal ⊎ IsOfProofs refusal
  kind_of admitted refusal e (bare none sound) = absurd cc
  kind_of admitted refusal e (proven p has sound all narrow) = absurd cc
  kind_of admitted refusal e (unproven p fault k has sound is told) = let same : k ≡ refusal = cc in inr (subst IsOfProofs same (of_proofs fault k told))
  kind_of admitted refusal e (broken v first) = let same : refusal_of_code v ≡ refusal = cc in inl (subst IsOfCode same (is_of_code v.rule v.function v.instruction))

  pub refused_for : (refusal : ImageRefusal) → Admits carried (Err refusal) → IsOfCode refusal ⊎ IsOfProofs refusal
  refused_for refusal is = kind_of (Err refusal) refusal refl is
