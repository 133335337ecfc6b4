-- What is found of an image before it is marked.
use Rattle.std.specs.Prelude.{◌≡◌, ◌<◌, ℕ, Bool, nat_eq, List, [], length, get_or, slice_get, Some}
use Rattle.std.specs.List.{list_any}
use Rattle.rc_annotations.specs.Annotations.{Annotation}
use Rattle.rc_annotations.specs.Laws.{Inside}
use Rattle.rc_code.specs.declared.image.Parts.{Parts}
use Rattle.rc_code.specs.Running.{Reading, reading_of, function_at}
use Rattle.rc_claims.specs.declared.proofs.Frame.{Frame}
use Rattle.rc_claims.specs.declared.proofs.Proofs.{Proofs}
use Rattle.rc_claims.specs.Claims.{known_at, ProofsFit}
use Rattle.rc_sealed.specs.Carrying.{is_target}
use Rattle.rc_sealed.specs.Claimed.{annotation_of}
use Rattle.rc_sealed.specs.Faults.{NoneIsWide}
use Rattle.rc_sealed.specs.Pinned.{Pinned}
use Rattle.rc_greatest_proofs.specs.Admitted.{IsAdmitted}
use Rattle.rc_greatest_proofs.specs.Marks.{ProvedBare}
use Rattle.rc_prove_parts.specs.declared.route.Route.{Route}
use Rattle.rc_prove.specs.Family.{Family, claimed, IsRoute}
use Rattle.rc_prove_marks.specs.Checked.{TellsChecked}

-- each instruction pins what it has to
abbrev pub AllPinned : Parts → Type 0
AllPinned parts = (g at : ℕ) → g < length parts.functions → at < length (function_at (reading_of parts) g).code → Pinned (reading_of parts) g at

-- no function is wide, and all is pinned
pub record MayBeSealed (parts : Parts) : Type 0 where
  pub narrow : NoneIsWide parts
  pub pinned : AllPinned parts

-- the marks of the first functions to which ways are given, by what sets of facts claim
pub record AreFirstMarks (routes : List Route) (m : Family) (n : ℕ) (marks : List (List Bool)) : Type 0 where
  pub long : length marks ≡ n
  pub each : (k : ℕ) (route : Route) → k < n → slice_get routes k ≡ Some route → (image : Reading) → IsRoute image m route → TellsChecked image (claimed image m) route.place.function (get_or marks k [])

abbrev pub AreMarks : List Route → Family → List (List Bool) → Type 0
AreMarks routes m marks = AreFirstMarks routes m (length routes) marks

-- the greatest proofs of an image, with one frame before each target, and marks that say which checks they prove
pub record AreFound (parts : Parts) (proofs : Proofs) (marks : List (List Bool)) : Type 0 where
  pub fits : ProofsFit parts proofs
  pub frames : (g at : ℕ) → g < length parts.functions → list_any (λ (frame : Frame). nat_eq frame.at at) (known_at proofs g).frames ≡ is_target (function_at (reading_of parts) g) at
  pub proved : (g at : ℕ) → g < length parts.functions → at < length (function_at (reading_of parts) g).code → ProvedBare (reading_of parts) (annotation_of parts proofs) g at
  pub greatest : (others : Annotation) → IsAdmitted parts others → Inside others (annotation_of parts proofs)
  pub tells : (g : ℕ) → g < length parts.functions → TellsChecked (reading_of parts) (annotation_of parts proofs) g (get_or marks g [])
