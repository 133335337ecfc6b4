-- What is run of a file's image, and why another isn't run or isn't sealed.
use Rattle.std.proofs.Common.{◌≡◌, ◌∙◌, ℕ, List, Option, Some, None, Result, Ok, Err, refl, sym, ap, subst}
use Rattle.std.specs.List.{AllByRecursion as Every}
use Rattle.rc_base.specs.Shelves.{ShelfState}
use Rattle.rc_claims.specs.declared.proofs.Proofs.{Proofs}
use Rattle.rc_code.specs.Soundness.{Sound}
use Rattle.rc_code.specs.declared.image.Parts.{Parts}
use Rattle.rc_loader.specs.Unmarked.{unmarked}
use Rattle.rc_loader.specs.Violations.{FirstViolation, IsFault}
use Rattle.rc_loader.specs.declared.fault.LoadFault.{LoadFault}
use Rattle.rc_loader.specs.declared.fault.LoadFault.TheVariants as load_fault
use Rattle.rc_loader.specs.declared.fault.Violation.{Violation}
use Rattle.rc_greatest_proofs.specs.Sealed.{IsPinFault, IsSealedAs}
use Rattle.rc_sealed.specs.AllProved.{AllProved}
use Rattle.rc_sealed.specs.Claimed.{annotation_of}
use Rattle.rc_sealed.specs.Faults.{IsProofFault, NoneIsWide}
use Rattle.rc_sealed.specs.declared.fault.ProofFault.{ProofFault}
use Rattle.rc_sealed.specs.declared.fault.ProofFault.TheVariants as proof_fault
use Rattle.rc_sealed_images.specs.Spelling.{sealing}
use Rattle.rc_answers.specs.declared.answer.Done.{Done}
use Rattle.rc_answers.specs.declared.answer.Fault.{Fault}
use Rattle.rc_answers.specs.declared.image_refusal.ImageRefusal.TheVariants.{Facts, Pins, Wide}
use Rattle.rc_files.specs.Making.{MadeBytes, made as made_bytes, not_made}
use Rattle.rc_outcomes.specs.Images.{Carried, alone}
use Rattle.rc_outcomes.specs.Outcome.{Admits, bare, broken as breaks_rule, proven, refusal_of_code, unproven as fails}
use Rattle.rc_driver.specs.Admitting.{Admitted, IsSoundOr, breaks, keeps, out_of_memory, unproven, unsound}
use Rattle.rc_driver.specs.Sealing.{Sealed, broken, made, no_memory, not_sealed, unsealable}
use Rattle.rc_driver.specs.declared.admit.NotRun.{NotRun}

-- ---- rules of code

pub unsound_so : {T : Type 0} (image : Parts) (fault : LoadFault) → IsFault image fault → IsSoundOr {T = T} image (Err (unsound fault))
unsound_so image (load_fault.Broken v) first = breaks v first
unsound_so image load_fault.Memory first = out_of_memory

pub is_sound : {T : Type 0} (image : Parts) (result : Result T NotRun) (value : T) → result ≡ Ok value → IsSoundOr image result → Sound image
is_sound image result value e (keeps other sound) = sound
is_sound image result value e (breaks v first) = absurd cc
is_sound image result value e out_of_memory = absurd cc

-- ---- what is run

pub bare_so : (image code : Parts) → Sound image → code ≡ unmarked image → Admitted (alone image) (Ok code)
bare_so image code sound is = subst (λ (parts : Parts). Admits (alone image) (Ok parts)) (sym is) (bare refl sound)

pub broken_so : (image : Parts) (fault : LoadFault) → IsFault image fault → Admitted (alone image) (Err (unsound fault))
broken_so image (load_fault.Broken v) first = breaks_rule v first
broken_so image load_fault.Memory first = tt

module _ (carried : Carried) where
  pub not_sound : {T : Type 0} (result : Result T NotRun) (reason : NotRun) → result ≡ Err reason → IsSoundOr carried.image result → Admitted carried (Err reason)
  not_sound result reason e (keeps other sound) = absurd cc
  not_sound {T} result reason e (breaks v first) = subst (λ (other : NotRun). Admitted carried (Err other)) (same_reason _ reason e) (breaks_rule v first)
    where
      same_reason : (one other : NotRun) → ◌≡◌ {A = Result T NotRun} (Err one) (Err other) → one ≡ other
      same_reason one other is = cc
  not_sound {T} result reason e out_of_memory = subst (λ (other : NotRun). Admitted carried (Err other)) (same_reason _ reason e) tt
    where
      same_reason : (one other : NotRun) → ◌≡◌ {A = Result T NotRun} (Err one) (Err other) → one ≡ other
      same_reason one other is = cc

  pub proven_so : (proofs : Proofs) (code : Parts) → carried.proofs ≡ Some proofs → Sound carried.image → code ≡ carried.image → AllProved carried.image (annotation_of carried.image proofs) → NoneIsWide carried.image → Admitted carried (Ok code)
  proven_so proofs code has sound is all narrow = subst (λ (parts : Parts). Admits carried (Ok parts)) (sym is) (proven proofs has sound all narrow)

  pub unproven_so : (proofs : Proofs) (fault : ProofFault) → carried.proofs ≡ Some proofs → Sound carried.image → IsProofFault carried.image (annotation_of carried.image proofs) fault → Admitted carried (Err (unproven fault))
  unproven_so proofs (proof_fault.Facts f i) has sound is = fails proofs (proof_fault.Facts f i) (Facts f i) has sound is refl
  unproven_so proofs (proof_fault.Pins f i) has sound is = fails proofs (proof_fault.Pins f i) (Pins f i) has sound is refl
  unproven_so proofs (proof_fault.Wide f) has sound is = fails proofs (proof_fault.Wide f) (Wide f) has sound is refl
  unproven_so proofs proof_fault.Memory has sound is = tt

-- ---- what is sealed

module _ (image : Parts) (to : List ℕ) (files : ShelfState) where
  pub made_so : (sealed : Parts) (proofs : Proofs) (files' : ShelfState) (result : Result Done Fault) → Sound image → IsSealedAs image sealed proofs → MadeBytes to (sealing sealed proofs) files files' result → Sealed image to files files' result
  made_so sealed proofs files' result sound is (not_made same) = no_memory same
  made_so sealed proofs files' result sound is (made_bytes other bytes m) = made sealed proofs other sound is bytes m

  pub unsealable_so : (fault : ProofFault) → Sound image → IsPinFault image fault → Sealed image to files files (not_sealed (unproven fault))
  unsealable_so (proof_fault.Facts f i) sound is = absurd is
  unsealable_so (proof_fault.Pins f i) sound is = unsealable (proof_fault.Pins f i) (Pins f i) sound is refl refl
  unsealable_so (proof_fault.Wide f) sound is = unsealable (proof_fault.Wide f) (Wide f) sound is refl refl
  unsealable_so proof_fault.Memory sound is = no_memory refl

  pub unsound_sealed : {T : Type 0} (result : Result T NotRun) (reason : NotRun) → result ≡ Err reason → IsSoundOr image result → Sealed image to files files (not_sealed reason)
  unsound_sealed result reason e (keeps other sound) = absurd cc
  unsound_sealed {T} result reason e (breaks v first) = subst (λ (other : NotRun). Sealed image to files files (not_sealed other)) (same_reason _ reason e) (broken v first refl)
    where
      same_reason : (one other : NotRun) → ◌≡◌ {A = Result T NotRun} (Err one) (Err other) → one ≡ other
      same_reason one other is = cc
  unsound_sealed {T} result reason e out_of_memory = subst (λ (other : NotRun). Sealed image to files files (not_sealed other)) (same_reason _ reason e) (no_memory refl)
    where
      same_reason : (one other : NotRun) → ◌≡◌ {A = Result T NotRun} (Err one) (Err other) → one ≡ other
      same_reason one other is = cc
