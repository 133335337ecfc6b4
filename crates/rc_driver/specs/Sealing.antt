-- Storing the image of a file with its proofs.
use Rattle.std.specs.Prelude.{◌≡◌, ◌⊎◌, ℕ, List, Option, Some, Result, Ok, Err}
use Rattle.std.specs.List.{AllByRecursion as Every}
use Rattle.rc_base.specs.Shelves.{Names, ShelfState}
use Rattle.rc_claims.specs.declared.proofs.Proofs.{Proofs}
use Rattle.rc_code.specs.Soundness.{Sound}
use Rattle.rc_code.specs.declared.image.Parts.{Parts}
use Rattle.rc_core.specs.Numbers.{IsByte}
use Rattle.rc_loader.specs.Violations.{FirstViolation}
use Rattle.rc_loader.specs.declared.fault.Violation.{Violation}
use Rattle.rc_greatest_proofs.specs.Sealed.{IsPinFault, IsSealedAs}
use Rattle.rc_sealed.specs.declared.fault.ProofFault.{ProofFault}
use Rattle.rc_sealed_images.specs.Spelling.{sealing}
use Rattle.rc_answers.specs.Answers.{IsOfCode, IsOfPins}
use Rattle.rc_answers.specs.declared.answer.Done.{Done}
use Rattle.rc_answers.specs.declared.answer.Done.TheVariants.{ImageRefused, Wrote}
use Rattle.rc_answers.specs.declared.answer.Fault.{Fault}
use Rattle.rc_answers.specs.declared.answer.Fault.TheVariants.{Memory}
use Rattle.rc_answers.specs.declared.image_refusal.ImageRefusal.{ImageRefusal}
use Rattle.rc_files.specs.Making.{MakesOf}
use Rattle.rc_outcomes.specs.Footprint.{Stores, footprint}
use Rattle.rc_outcomes.specs.MayAnswer.{MayAnswer}
use Rattle.rc_outcomes.specs.Outcome.{Seals, refusal_of_code, refusal_of_proofs}
use Rattle.rc_outcomes.specs.StoredPrograms.{StoresProgram}
use Rattle.rc_outcomes.specs.Storing.{MadeFile}
use Rattle.rc_requests.specs.Request.{Request}
use Rattle.rc_driver.specs.declared.admit.NotRun.{NotRun}
use Rattle.rc_driver.specs.declared.admit.NotRun.TheVariants as not_run

abbrev pub not_sealed : NotRun → Result Done Fault
not_sealed (not_run.Refused refusal) = Ok (ImageRefused refusal)
not_sealed not_run.Memory = Err Memory

-- the image was stored with its proofs, or it is refused
pub data Sealed (image : Parts) (to : List ℕ) (files files' : ShelfState) : Result Done Fault → Type 0 where
  made : (sealed : Parts) (proofs : Proofs) (result : Result Done Fault) → Sound image → IsSealedAs image sealed proofs → Every IsByte (sealing sealed proofs) → MadeFile to (sealing sealed proofs) files files' result → Sealed image to files files' result
  broken : (v : Violation) → FirstViolation image v → files' ≡ files → Sealed image to files files' (Ok (ImageRefused (refusal_of_code v)))
  unsealable : (fault : ProofFault) (refusal : ImageRefusal) → Sound image → IsPinFault image fault → refusal_of_proofs fault ≡ Some refusal → files' ≡ files → Sealed image to files files' (Ok (ImageRefused refusal))
  no_memory : files' ≡ files → Sealed image to files files' (Err Memory)

-- the rows of the tables say of a request that it stores the image of this file with its proofs under the other name
pub record SealsOf (request : Option Request) (from to : List ℕ) : Type 0 where
  pub makes : MakesOf request from (Seals to)
  pub stores : Stores (footprint request) to
  pub may_write : MayAnswer request Wrote
  pub may_refuse : (refusal : ImageRefusal) → IsOfCode refusal ⊎ IsOfPins refusal → MayAnswer request (ImageRefused refusal)
  pub stores_no_program : (files files' : Names) → StoresProgram request files files'
