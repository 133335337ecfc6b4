-- What an image is sealed as, or the refusal of it, is one thing.
use Rattle.std.proofs.Common.{◌≡◌, ◌∙◌, ℕ, List, Some, sym, ap, subst}
use Rattle.std.proofs.lemmas.Option.{same_Some}
use Rattle.rc_claims.specs.declared.proofs.Proofs.{Proofs}
use Rattle.rc_code.specs.declared.image.Parts.{Parts}
use Rattle.rc_loader.specs.declared.fault.Violation.{Violation}
use Rattle.rc_loader.proofs.Firsts.{none_where_sound, one_first}
use Rattle.rc_greatest_proofs.specs.Sealed.{IsPinFault}
use Rattle.rc_sealed.specs.declared.fault.ProofFault.{ProofFault}
use Rattle.rc_sealed.specs.declared.fault.ProofFault.TheVariants as proof_fault
use Rattle.rc_sealed_images.specs.Spelling.{sealing}
use Rattle.rc_sealings.proofs.One.{not_refused, one_pin_fault, one_seal}
use Rattle.rc_answers.specs.Answers.{IsOfPins}
use Rattle.rc_answers.specs.declared.answer.Done.TheVariants.{ImageRefused}
use Rattle.rc_answers.specs.declared.image_refusal.ImageRefusal.{ImageRefusal}
use Rattle.rc_outcomes.specs.Images.{Carried}
use Rattle.rc_outcomes.specs.Outcome.{Outcome, Seals, answers, breaks, refusal_of_code, refusal_of_proofs, seals, stores, unsealable}
use Rattle.rc_outcomes.proofs.Admitting.{no_memory, one_told}

-- a refusal of what can't be sealed is for pins or for variables
pub of_pins : (parts : Parts) (fault : ProofFault) (refusal : ImageRefusal) → IsPinFault parts fault → refusal_of_proofs fault ≡ Some refusal → IsOfPins refusal
of_pins parts (proof_fault.Facts f i) refusal is told = absurd is
of_pins parts (proof_fault.Pins f i) refusal is told = subst IsOfPins (same_Some _ refusal told) tt
of_pins parts (proof_fault.Wide f) refusal is told = subst IsOfPins (same_Some _ refusal told) tt
of_pins parts proof_fault.Memory refusal is told = absurd cc

module _ (to : List ℕ) (carried : Carried) (input : List ℕ) where
  pub one_sealing : (one other : Outcome) → Seals to carried input one → Seals to carried input other → one ≡ other
  one_sealing one other (seals a p sound is bytes comes) (seals b q sound' is' bytes' comes') =
      let same = one_seal carried.image a b p q is is' bytes bytes' in
      comes ∙ ap (λ (image : Parts). stores to (sealing image p)) same.image ∙ ap (λ (proofs : Proofs). stores to (sealing b proofs)) same.claims ∙ sym comes'
  one_sealing one other (seals a p sound is bytes comes) (unsealable fault k sound' is' told comes') = absurd (not_refused carried.image a p is fault (no_memory fault k told) is')
  one_sealing one other (seals a p sound is bytes comes) (breaks v first comes') = absurd (none_where_sound carried.image v sound first)
  one_sealing one other (unsealable fault k sound is told comes) (seals b q sound' is' bytes comes') = absurd (not_refused carried.image b q is' fault (no_memory fault k told) is)
  one_sealing one other (unsealable fault k sound is told comes) (unsealable also l sound' is' tells comes') =
      let same = one_told fault also k l told tells (one_pin_fault carried.image fault also (no_memory fault k told) (no_memory also l tells) is is') in
      comes ∙ ap (λ (refusal : ImageRefusal). answers (ImageRefused refusal)) same ∙ sym comes'
  one_sealing one other (unsealable fault k sound is told comes) (breaks v first comes') = absurd (none_where_sound carried.image v sound first)
  one_sealing one other (breaks v first comes) (seals b q sound is bytes comes') = absurd (none_where_sound carried.image v sound first)
  one_sealing one other (breaks v first comes) (unsealable fault k sound is told comes') = absurd (none_where_sound carried.image v sound first)
  one_sealing one other (breaks v first comes) (breaks w also comes') = comes ∙ ap (λ (u : Violation). answers (ImageRefused (refusal_of_code u))) (one_first carried.image v w first also) ∙ sym comes'
