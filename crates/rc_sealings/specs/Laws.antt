-- What is said of the proofs of an image is said once: of each image there is at most one fault of its proofs, one sealed image, and one
-- reason why there is none.
use Rattle.std.specs.Prelude.{◌≡◌, ◌≢◌}
use Rattle.std.specs.List.{AllByRecursion as Every}
use Rattle.rc_annotations.specs.Annotations.{Annotation}
use Rattle.rc_claims.specs.declared.proofs.Proofs.{Proofs}
use Rattle.rc_code.specs.declared.image.Parts.{Parts}
use Rattle.rc_core.specs.Numbers.{IsByte}
use Rattle.rc_greatest_proofs.specs.Sealed.{IsPinFault, IsSealedAs}
use Rattle.rc_sealed.specs.AllProved.{AllProved}
use Rattle.rc_sealed.specs.Faults.{IsProofFault, NoneIsWide}
use Rattle.rc_sealed.specs.declared.fault.ProofFault.{ProofFault}
use Rattle.rc_sealed.specs.declared.fault.ProofFault.TheVariants.{Memory}
use Rattle.rc_sealed_images.specs.Spelling.{sealing}

-- want of memory is left out: it is free
abbrev pub OneFault : Type 0
OneFault = (parts : Parts) (proofs : Annotation) (one other : ProofFault) → one ≢ Memory → other ≢ Memory → IsProofFault parts proofs one → IsProofFault parts proofs other → one ≡ other

abbrev pub NoneWhereProved : Type 0
NoneWhereProved = (parts : Parts) (proofs : Annotation) (fault : ProofFault) → fault ≢ Memory → AllProved parts proofs → NoneIsWide parts → IsProofFault parts proofs fault → ⊥

pub record IsOne (one other : Parts) (proofs others : Proofs) : Type 0 where
  pub image : one ≡ other
  pub claims : proofs ≡ others

-- a sealed image that can be stored, so that what it claims are bytes
abbrev pub OneSeal : Type 0
OneSeal = (parts one other : Parts) (proofs others : Proofs) → IsSealedAs parts one proofs → IsSealedAs parts other others → Every IsByte (sealing one proofs) → Every IsByte (sealing other others) → IsOne one other proofs others

abbrev pub OnePinFault : Type 0
OnePinFault = (parts : Parts) (one other : ProofFault) → one ≢ Memory → other ≢ Memory → IsPinFault parts one → IsPinFault parts other → one ≡ other

abbrev pub NoneWhereSealed : Type 0
NoneWhereSealed = (parts sealed : Parts) (proofs : Proofs) → IsSealedAs parts sealed proofs → (fault : ProofFault) → fault ≢ Memory → IsPinFault parts fault → ⊥
