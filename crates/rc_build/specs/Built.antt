-- The image of a program that keeps within the bounds, and that of a text: the image of its program. A text that is no program has
-- no image, but the refusal that it has as a text.
use Rattle.std.specs.Prelude.{ℕ, List, Result, Ok, Err}
use Rattle.rc_core.specs.Programs.{Program}
use Rattle.rc_rlang.specs.Bounds.{IsWithinBounds}
use Rattle.rc_code.specs.declared.image.Parts.{Parts}
use Rattle.rc_unchecked.specs.Images.{HasImage}
use Rattle.rc_compile.specs.Acceptance.{TooMuch}
use Rattle.rc_compile.specs.Answers.{IsOnlyProgram}
use Rattle.rc_compile.specs.Compiles.{IsReason}
use Rattle.rc_compile.specs.declared.fault.CompileFault.{CompileFault}
use Rattle.rc_compile.specs.declared.fault.CompileFault.TheVariants.{Refused, Memory}

-- the program keeps within the bounds, and this is its image
pub record IsFinished (program : Program) (image : Parts) : Type 0 where
  pub bounds : IsWithinBounds program
  pub has : HasImage program image

-- its image, or what it needs too much of
abbrev pub Finishes : Program → Result Parts CompileFault → Type 0
Finishes program (Ok image) = IsFinished program image
Finishes program (Err (Refused refusal)) = TooMuch program refusal
Finishes program (Err Memory) = Unit {0}

-- it is the one program of the text, and this is its image
pub record IsImageOf (text : List ℕ) (image : Parts) : Type 0 where
  pub program : Program
  pub compiles : IsOnlyProgram text program
  pub has : HasImage program image

abbrev pub Builds : List ℕ → Result Parts CompileFault → Type 0
Builds text (Ok image) = IsImageOf text image
Builds text (Err fault) = IsReason text fault
