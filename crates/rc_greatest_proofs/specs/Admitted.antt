-- Proofs that an image may carry and that prove each of its instructions with every mark taken away, and the checks that some of them
-- prove.
use Rattle.std.specs.Prelude.{◌≡◌, ℕ, ◌<◌, ◌-◌, true, IsTrue, length, Option, Some}
use Rattle.rc_core.specs.Layout.{note_of}
use Rattle.rc_facts.specs.declared.fact.Fact.{Fact}
use Rattle.rc_facts.specs.Facts.{is_over}
use Rattle.rc_annotations.specs.Annotations.{Annotation, asked}
use Rattle.rc_code.specs.declared.image.Parts.{Parts}
use Rattle.rc_code.specs.Running.{Reading, reading_of, path_at, function_at, cell_at}
use Rattle.rc_loader.specs.Unmarked.{unmarked}
use Rattle.rc_claims.specs.Counts.{copies, exit_count, frame_count, place}
use Rattle.rc_sealed.specs.ImageVariables.{variables}
use Rattle.rc_sealed.specs.Carrying.{is_target, height, lowest, Follows, Before}
use Rattle.rc_sealed.specs.Proved.{Proved}

-- ---- proofs

-- entries speak of hidden copies, exits of these and of a result that is a region or a pointer, and frames, which count before targets
-- alone, of the hidden copies and the locals
pub record MayBeCarried (parts : Parts) (proofs : Annotation) : Type 0 where
  pub entries : (g : ℕ) (fact : Fact) → IsTrue (proofs.entry g fact) → IsTrue (is_over (copies (function_at (reading_of parts) g)) fact)
  pub exits : (g : ℕ) (fact : Fact) → IsTrue (proofs.exit g fact) → IsTrue (is_over (exit_count (function_at (reading_of parts) g)) fact)
  pub frames : (g at : ℕ) (fact : Fact) → IsTrue (proofs.before g at fact) → IsTrue (is_over (frame_count (function_at (reading_of parts) g)) fact)
  pub targets : (g at : ℕ) (fact : Fact) → IsTrue (proofs.before g at fact) → is_target (function_at (reading_of parts) g) at ≡ true

-- they prove each instruction of the image with every mark taken away, so that no check is asked of them
pub record IsAdmitted (parts : Parts) (proofs : Annotation) : Type 0 where
  pub carried : MayBeCarried parts proofs
  pub proved : (g at : ℕ) → g < length parts.functions → at < length (function_at (reading_of parts) g).code → Proved (reading_of (unmarked parts)) proofs g at

-- ---- checks

-- the fact that the check of a store there asks, where its cell has an annotation
abbrev pub asked_at : Reading → (g at path : ℕ) → Option Fact
asked_at image g at path = asked (note_of (cell_at image (path_at image path))) (place (function_at image g) (height image (function_at image g) at - 1)) (place (function_at image g) (lowest image (function_at image g) at))

-- some proofs have the fact
pub record Provable (parts : Parts) (g at path : ℕ) : Type 0 where
  pub proofs : Annotation
  pub admitted : IsAdmitted parts proofs
  pub fact : Fact
  pub asks : asked_at (reading_of parts) g at path ≡ Some fact
  pub follows : Follows (variables (reading_of parts) (function_at (reading_of parts) g)) (Before (reading_of parts) proofs g at) fact
