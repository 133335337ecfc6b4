-- What comes of executing an image that carries proofs.
use Rattle.std.specs.Prelude.{◌≡◌, ◌≢◌, ◌⊎◌, ℕ, List, Some, Ok}
use Rattle.std.specs.List.{AllByRecursion as Every}
use Rattle.rc_base.specs.Shelves.{Names}
use Rattle.rc_base.specs.declared.ends.Limits.{Limits}
use Rattle.rc_claims.specs.declared.proofs.Proofs.{Proofs}
use Rattle.rc_code.specs.declared.image.Parts.{Parts}
use Rattle.rc_core.specs.Numbers.{IsByte}
use Rattle.rc_loader.specs.Unmarked.{unmarked}
use Rattle.rc_answers.specs.declared.answer.Done.TheVariants.{ImageRefused, StaleImage}
use Rattle.rc_answers.specs.declared.image_refusal.ImageRefusal.{ImageRefusal}
use Rattle.rc_outcomes.specs.Images.{carried_by, carrying}
use Rattle.rc_outcomes.specs.Outcome.{Outcome, answers, comes_of}

-- the file's bytes carry one
pub record HasSealed (files : Names) (file : List ℕ) : Type 0 where
  pub bytes : List ℕ
  pub there : files file ≡ Some bytes
  pub are_bytes : Every IsByte bytes
  pub image : Parts
  pub proofs : Proofs
  pub carried : carried_by bytes ≡ Ok (carrying image (Some proofs))

-- no deleted region was touched; and it is just what comes of the image with the mark of every store taken away, or a refusal
pub record RunsChecked (image : Parts) (limits : Limits) (input : List ℕ) (outcome : Outcome) : Type 0 where
  pub never : (line : ℕ) → outcome.done ≢ StaleImage line
  pub checked : (outcome ≡ comes_of (unmarked image) limits input) ⊎ ((refusal : ImageRefusal) × (outcome ≡ answers (ImageRefused refusal)))
