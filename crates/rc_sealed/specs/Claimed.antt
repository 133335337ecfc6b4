-- The facts that the proofs of an image claim.
use Rattle.rc_annotations.specs.Annotations.{Annotation}
use Rattle.rc_code.specs.declared.image.Parts.{Parts}
use Rattle.rc_code.specs.Running.{reading_of, function_at}
use Rattle.rc_claims.specs.declared.proofs.Proofs.{Proofs}
use Rattle.rc_claims.specs.Counts.{copies, exit_count, frame_count}
use Rattle.rc_claims.specs.Bits.{claims}
use Rattle.rc_claims.specs.Claims.{known_at, frame_facts}
use Rattle.rc_sealed.specs.AllProved.{AreOver}

abbrev pub annotation_of : Parts → Proofs → Annotation
annotation_of parts proofs = record {
  before = λ g at. frame_facts (frame_count (function_at (reading_of parts) g)) (known_at proofs g).frames at;
  entry = λ g. claims (copies (function_at (reading_of parts) g)) (known_at proofs g).entry;
  exit = λ g. claims (exit_count (function_at (reading_of parts) g)) (known_at proofs g).exit;
}

-- what is claimed speaks of no other variables than it may
abbrev pub ClaimsAreOver : Type 0
ClaimsAreOver = (parts : Parts) (proofs : Proofs) → AreOver parts (annotation_of parts proofs)
