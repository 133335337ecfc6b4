-- The greatest facts of an image, by ways through its functions and counts of their variables.
use Rattle.std.specs.Prelude.{◌≡◌, ℕ, ◌<◌, true, List, length, slice_get, Some}
use Rattle.std.specs.List.{All}
use Rattle.rc_annotations.specs.Annotations.{Annotation}
use Rattle.rc_annotations.specs.Laws.{Inside}
use Rattle.rc_code.specs.declared.image.Parts.{Parts}
use Rattle.rc_code.specs.Running.{reading_of, function_at}
use Rattle.rc_claims.specs.Counts.{copies, exit_count, frame_count}
use Rattle.rc_sealed.specs.Carrying.{is_target}
use Rattle.rc_greatest_proofs.specs.Admitted.{IsAdmitted}
use Rattle.rc_greatest_proofs.specs.Marks.{ProvedBare}
use Rattle.rc_prove_parts.specs.declared.route.Route.{Route}
use Rattle.rc_prove.specs.declared.start.Counts.{Counts}
use Rattle.rc_prove.specs.Sets.{rank}
use Rattle.rc_prove.specs.Family.{Family, claimed, IsRoute}
use Rattle.rc_prove.specs.Starting.{IsBegun}

-- the counts are those of the function
pub record AreCounts (parts : Parts) (g : ℕ) (counts : Counts) : Type 0 where
  pub copies : counts.copies ≡ copies (function_at (reading_of parts) g)
  pub answers : counts.answers ≡ exit_count (function_at (reading_of parts) g)
  pub locals : counts.locals ≡ frame_count (function_at (reading_of parts) g)
  pub targets : counts.targets ≡ rank (function_at (reading_of parts) g) (length (function_at (reading_of parts) g).code)

-- each function has its way and its counts, and its jumps stay in it
pub record AreRoutes (parts : Parts) (routes : List Route) (counts : List Counts) : Type 0 where
  pub ways : length routes ≡ length parts.functions
  pub counted : length counts ≡ length parts.functions
  pub way : (g : ℕ) → g < length parts.functions → (route : Route) × (slice_get routes g ≡ Some route) × (route.place.function ≡ g)
  pub theirs : All (λ (route : Route). route.place.function < length parts.functions) routes
  pub count : (g : ℕ) → g < length parts.functions → (c : Counts) × (slice_get counts g ≡ Some c) × AreCounts parts g c
  pub looks : (m : Family) → IsBegun counts (length counts) m → All (IsRoute (reading_of parts) m) routes
  pub stay : (g at : ℕ) → is_target (function_at (reading_of parts) g) at ≡ true → at < length (function_at (reading_of parts) g).code

-- what is claimed proves each function but for its checks, and all proofs that count are inside of it
pub record AreGreatest (parts : Parts) (m : Family) : Type 0 where
  pub proved : (g at : ℕ) → g < length parts.functions → at < length (function_at (reading_of parts) g).code → ProvedBare (reading_of parts) (claimed (reading_of parts) m) g at
  pub greatest : (others : Annotation) → IsAdmitted parts others → Inside others (claimed (reading_of parts) m)
