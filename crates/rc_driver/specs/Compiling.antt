-- Storing the image of a text's program.
use Rattle.std.specs.Prelude.{◌≡◌, ℕ, List, Option, Some, Result, Ok, Err}
use Rattle.rc_base.specs.Shelves.{Names, ShelfState}
use Rattle.rc_compile.specs.Acceptance.{Accepted}
use Rattle.rc_compile.specs.Answers.{IsOnlyProgram, IsOnlyRefusal}
use Rattle.rc_compile.specs.declared.refusal.Refusal.{Refusal}
use Rattle.rc_core.specs.Programs.{Program}
use Rattle.rc_image.specs.Spelling.{spelling}
use Rattle.rc_image.specs.declared.version.Version.TheVariants.{Two}
use Rattle.rc_code.specs.declared.image.Parts.{Parts}
use Rattle.rc_unchecked.specs.Images.{HasImage}
use Rattle.rc_answers.specs.declared.answer.Done.{Done}
use Rattle.rc_answers.specs.declared.answer.Done.TheVariants.{Refused, Wrote}
use Rattle.rc_answers.specs.declared.answer.Fault.{Fault}
use Rattle.rc_answers.specs.declared.answer.Fault.TheVariants.{Memory}
use Rattle.rc_outcomes.specs.Footprint.{Stores, footprint}
use Rattle.rc_outcomes.specs.MayAnswer.{MayAnswer}
use Rattle.rc_outcomes.specs.Outcome.{Compiles, as_they_are}
use Rattle.rc_outcomes.specs.StoredPrograms.{IsUnder, StoresProgram}
use Rattle.rc_outcomes.specs.Storing.{MadeFile}
use Rattle.rc_requests.specs.Request.{Request}
use Rattle.rc_files.specs.Texts.{TextOf}

-- the image that the text's program is compiled to was stored, or the text is refused
pub data CompiledText (text to : List ℕ) (files files' : ShelfState) : Result Done Fault → Type 0 where
  made : (program : Program) (image : Parts) (result : Result Done Fault) → IsOnlyProgram text program → HasImage program image → MadeFile to (spelling Two image) files files' result → CompiledText text to files files' result
  refused : (refusal : Refusal) → IsOnlyRefusal text refusal → files' ≡ files → CompiledText text to files files' (Ok (Refused refusal))
  no_memory : files' ≡ files → CompiledText text to files files' (Err Memory)

-- the rows of the tables say of a request that it stores the image of this file's program under the other name
pub record CompilesOf (request : Option Request) (from to : List ℕ) : Type 0 where
  pub text : TextOf request from as_they_are (Compiles to)
  pub stores : Stores (footprint request) to
  pub may_write : MayAnswer request Wrote
  pub stores_program : (files files' : Names) → ((text : List ℕ) (program : Program) → files from ≡ Some text → Accepted text program → IsUnder to files' program) → StoresProgram request files files'
