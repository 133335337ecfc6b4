-- What has to be known of an image, so that it is decided what it comes to: of one that is executed what its proofs prove, if it carries
-- some, and of one that is sealed what can be proved.
use Rattle.std.specs.Prelude.{◌≡◌, ℕ, List, Option, Some, Result, Ok}
use Rattle.rc_base.specs.Shelves.{Names}
use Rattle.rc_claims.specs.declared.proofs.Proofs.{Proofs}
use Rattle.rc_code.specs.Soundness.{Sound}
use Rattle.rc_code.specs.declared.image.Parts.{Parts}
use Rattle.rc_answers.specs.declared.image_refusal.ImageRefusal.{ImageRefusal}
use Rattle.rc_outcomes.specs.Images.{Carried, carried_by}
use Rattle.rc_outcomes.specs.Outcome.{Admits, Outcome, Seals}
use Rattle.rc_requests.specs.Request.{Request, Exec, Seal}

-- of what a file carries, where its code keeps the rules
abbrev pub OfSound : (file : List ℕ) → Names → (Carried → Type 0) → Type 0
OfSound file files Known = (bytes : List ℕ) (carried : Carried) → files file ≡ Some bytes → carried_by bytes ≡ Ok carried → Sound carried.image → Known carried

-- whether proofs prove the image that carries them, or where first they don't
abbrev pub AreJudged : Carried → Type 0
AreJudged carried = (proofs : Proofs) → carried.proofs ≡ Some proofs → (admitted : Result Parts ImageRefusal) × Admits carried admitted

-- which proofs of the image are the greatest, or why it can't be sealed
abbrev pub AreFound : (to : List ℕ) → Carried → Type 0
AreFound to carried = (input : List ℕ) → (outcome : Outcome) × Seals to carried input outcome

abbrev pub IsJudged : Option Request → Names → Type 0
IsJudged (Some (Exec file limits)) files = OfSound file files AreJudged
IsJudged (Some (Seal from to)) files = OfSound from files (AreFound to)
IsJudged _ files = Unit {0}
