-- When proofs prove every instruction of an image.
use Rattle.std.specs.Prelude.{ℕ, suc, ◌<◌, IsTrue, length}
use Rattle.rc_facts.specs.declared.fact.Fact.{Fact}
use Rattle.rc_facts.specs.Facts.{is_over}
use Rattle.rc_annotations.specs.Annotations.{Annotation}
use Rattle.rc_code.specs.declared.image.Parts.{Parts}
use Rattle.rc_code.specs.Running.{reading_of, function_at}
use Rattle.rc_claims.specs.Counts.{copies, place}
use Rattle.rc_sealed.specs.Proved.{Proved}
use Rattle.rc_sealed.specs.Pinned.{Pinned}

-- entries speak of hidden copies, exits of these and the result, frames of these and the locals: as the format keeps it
pub record AreOver (parts : Parts) (proofs : Annotation) : Type 0 where
  pub entries : (g : ℕ) (fact : Fact) → IsTrue (proofs.entry g fact) → IsTrue (is_over (copies (function_at (reading_of parts) g)) fact)
  pub exits : (g : ℕ) (fact : Fact) → IsTrue (proofs.exit g fact) → IsTrue (is_over (suc (copies (function_at (reading_of parts) g))) fact)
  pub frames : (g at : ℕ) (fact : Fact) → IsTrue (proofs.before g at fact) → IsTrue (is_over (place (function_at (reading_of parts) g) 0) fact)

-- at every instruction
pub record AllProved (parts : Parts) (proofs : Annotation) : Type 0 where
  pub over : AreOver parts proofs
  pub proved : (g at : ℕ) → g < length parts.functions → at < length (function_at (reading_of parts) g).code → Proved (reading_of parts) proofs g at
  pub pinned : (g at : ℕ) → g < length parts.functions → at < length (function_at (reading_of parts) g).code → Pinned (reading_of parts) g at
