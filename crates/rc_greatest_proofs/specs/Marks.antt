-- What marks change of proofs: nothing but what the check of a marked store asks.
use Rattle.std.specs.Prelude.{◌≡◌, ◌↔◌, ℕ, true, IsTrue}
use Rattle.rc_facts.specs.declared.fact.Fact.{Fact}
use Rattle.rc_annotations.specs.Annotations.{Annotation}
use Rattle.rc_code.specs.declared.image.Parts.{Parts}
use Rattle.rc_code.specs.Running.{Reading, reading_of, function_at}
use Rattle.rc_code.specs.Soundness.{instruction_at}
use Rattle.rc_loader.specs.Unmarked.{unmarked}
use Rattle.rc_claims.specs.declared.proofs.Proofs.{Proofs}
use Rattle.rc_claims.specs.Claims.{ProofsFit}
use Rattle.rc_sealed.specs.ImageVariables.{variables}
use Rattle.rc_sealed.specs.Carrying.{is_target, Follows, Carried, Before}
use Rattle.rc_sealed.specs.Proved.{Way, EntryIsGiven, ExitIsGiven, CheckIsProved, AtEntry, Proved}
use Rattle.rc_sealed.specs.Pinned.{Pinned}
use Rattle.rc_sealed.specs.Claimed.{annotation_of}

-- all that is asked of an instruction, but for the check
pub record ProvedBare (image : Reading) (proofs : Annotation) (g at : ℕ) : Type 0 where
  pub targets : (to : ℕ) → Way (instruction_at (function_at image g) at) at to → is_target (function_at image g) to ≡ true → (fact : Fact) → IsTrue (proofs.before g to fact)
      → Follows (variables image (function_at image g)) (Carried image proofs g at (Before image proofs g at)) fact
  pub entry : EntryIsGiven image proofs g at (instruction_at (function_at image g) at)
  pub exit : ExitIsGiven image proofs g at (instruction_at (function_at image g) at)
  pub first : AtEntry image proofs g at at

-- without marks that is all, and the marks are no part of it
abbrev pub BareIsUnmarked : Type 0
BareIsUnmarked = (parts : Parts) (proofs : Annotation) (g at : ℕ) → ProvedBare (reading_of parts) proofs g at ↔ Proved (reading_of (unmarked parts)) proofs g at

-- with marks the check is asked too
abbrev pub BareAndChecked : Type 0
BareAndChecked = (image : Reading) (proofs : Annotation) (g at : ℕ) → Proved image proofs g at ↔ (ProvedBare image proofs g at × CheckIsProved image proofs g at (instruction_at (function_at image g) at))

-- the facts before an instruction are the same
abbrev pub SameBefore : Type 0
SameBefore = (parts : Parts) (proofs : Annotation) (g at : ℕ) (fact : Fact) → Before (reading_of parts) proofs g at fact ↔ Before (reading_of (unmarked parts)) proofs g at fact

-- so are pins that suffice, variables, proofs that fit, and what these claim
abbrev pub SamePinned : Type 0
SamePinned = (parts : Parts) (g at : ℕ) → Pinned (reading_of parts) g at ↔ Pinned (reading_of (unmarked parts)) g at

abbrev pub SameVariables : Type 0
SameVariables = (parts : Parts) (g : ℕ) → variables (reading_of (unmarked parts)) (function_at (reading_of (unmarked parts)) g) ≡ variables (reading_of parts) (function_at (reading_of parts) g)

abbrev pub SameFit : Type 0
SameFit = (parts : Parts) (proofs : Proofs) → ProofsFit parts proofs ↔ ProofsFit (unmarked parts) proofs

abbrev pub SameClaims : Type 0
SameClaims = (parts : Parts) (proofs : Proofs) → annotation_of (unmarked parts) proofs ≡ annotation_of parts proofs
