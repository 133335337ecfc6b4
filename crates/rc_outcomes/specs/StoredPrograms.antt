-- What a request stores of a program: its image.
use Rattle.std.specs.Prelude.{◌≡◌, ℕ, List, Option, Some, None}
use Rattle.rc_base.specs.Shelves.{Names}
use Rattle.rc_code.specs.declared.image.Parts.{Parts}
use Rattle.rc_compile.specs.Acceptance.{Accepted}
use Rattle.rc_core.specs.Programs.{Program}
use Rattle.rc_image.specs.Spelling.{spelling}
use Rattle.rc_image.specs.declared.version.Version.TheVariants.{Two}
use Rattle.rc_linked_texts.specs.Texts.{AreProgram}
use Rattle.rc_outcomes.specs.Loading.{Have}
use Rattle.rc_requests.specs.Request.{Request, Run, Slow, Compile, Exec, Listing, Upgrade, Script, Checks, Soak, Tasks, Link, Seal}
use Rattle.rc_unchecked.specs.Images.{HasImage}

-- under the name stands the image that the program is compiled to
pub record IsUnder (name : List ℕ) (files : Names) (program : Program) : Type 0 where
  pub image : Parts
  pub has : HasImage program image
  pub there : files name ≡ Some (spelling Two image)

-- the row of each request: what stands under which name behind it
abbrev pub StoresProgram : Option Request → (files files' : Names) → Type 0
StoresProgram None files files' = Unit {0}
StoresProgram (Some (Run file limits)) files files' = Unit {0}
StoresProgram (Some (Slow file limits)) files files' = Unit {0}
StoresProgram (Some (Compile from to)) files files' = (text : List ℕ) (program : Program) → files from ≡ Some text → Accepted text program → IsUnder to files' program
StoresProgram (Some (Exec file limits)) files files' = Unit {0}
StoresProgram (Some (Listing file)) files files' = Unit {0}
StoresProgram (Some (Upgrade from to)) files files' = Unit {0}
StoresProgram (Some (Script file limits)) files files' = Unit {0}
StoresProgram (Some (Checks file)) files files' = Unit {0}
StoresProgram (Some (Soak n)) files files' = Unit {0}
StoresProgram (Some (Tasks file choices limits)) files files' = Unit {0}
StoresProgram (Some (Link to wanted)) files files' = (texts : List (List ℕ)) (program : Program) → Have files wanted texts → AreProgram texts program → IsUnder to files' program
StoresProgram (Some (Seal from to)) files files' = Unit {0}
