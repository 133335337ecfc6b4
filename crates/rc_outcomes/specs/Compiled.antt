-- A file that has the image to which a program is compiled, that of another file's text or of several texts, and is no longer than an
-- image may be.
use Rattle.std.specs.Prelude.{◌≡◌, ◌≤◌, ◌↔◌, ℕ, List, length, Some}
use Rattle.std.specs.List.{AllByRecursion as Every}
use Rattle.rc_base.specs.Limits.{most_image_bytes}
use Rattle.rc_base.specs.Shelves.{Names}
use Rattle.rc_base.specs.declared.ends.Limits.{Limits}
use Rattle.rc_compile.specs.Acceptance.{Accepted}
use Rattle.rc_core.specs.Numbers.{IsByte}
use Rattle.rc_core.specs.Programs.{Program}
use Rattle.rc_image.specs.Spelling.{spelling}
use Rattle.rc_image.specs.declared.version.Version.TheVariants.{Two}
use Rattle.rc_linked_texts.specs.Texts.{AreProgram}
use Rattle.rc_linking.specs.Limits.{most_files}
use Rattle.rc_rlang.specs.Bounds.{IsWithinBounds}
use Rattle.rc_outcomes.specs.Outcome.{IsOutcome, Outcome, Runs, as_left}
use Rattle.rc_outcomes.specs.StoredPrograms.{IsUnder}
use Rattle.rc_requests.specs.Request.{Run, Exec}

pub record HasCompiled (files : Names) (from to : List ℕ) : Type 0 where
  pub text : List ℕ
  pub from_has : files from ≡ Some text
  pub bytes : Every IsByte text
  pub program : Program
  pub accepted : Accepted text program
  pub stored : IsUnder to files program
  pub short : length (spelling Two stored.image) ≤ most_image_bytes

-- of several texts nothing is asked but that they are the program together
pub record HasLinked (files : Names) (to : List ℕ) : Type 0 where
  pub texts : List (List ℕ)
  pub few : length texts ≤ most_files
  pub bytes : Every (Every IsByte) texts
  pub program : Program
  pub together : AreProgram texts program
  pub bounds : IsWithinBounds program
  pub stored : IsUnder to files program
  pub short : length (spelling Two stored.image) ≤ most_image_bytes

-- executing it comes to just what the program means
abbrev pub RunsAs : (files : Names) → (to : List ℕ) → Program → Type 0
RunsAs files to program = (input : List ℕ) (limits : Limits) → Every IsByte input → (outcome : Outcome) → IsOutcome (Some (Exec to limits)) files input outcome ↔ Runs as_left limits input program outcome

-- executing the one comes to just what running the other comes to
abbrev pub RunsTheSame : (files : Names) → (from to : List ℕ) → Type 0
RunsTheSame files from to = (input : List ℕ) (limits : Limits) → Every IsByte input → (outcome : Outcome) → IsOutcome (Some (Exec to limits)) files input outcome ↔ IsOutcome (Some (Run from limits)) files input outcome
