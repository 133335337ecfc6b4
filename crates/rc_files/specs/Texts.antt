-- Texts in files, and requests that make something of one.
use Rattle.std.specs.Prelude.{◌≡◌, ◌<◌, ◌≤◌, ℕ, true, false, List, length, Option, Result, Ok, Err}
use Rattle.rc_base.specs.Limits.{most_text_bytes}
use Rattle.rc_base.specs.Shelves.{Names, ShelfState}
use Rattle.rc_base.specs.declared.outside.Piece.{Piece}
use Rattle.rc_compile.specs.declared.refusal.Refusal.{Refusal}
use Rattle.rc_core.specs.Programs.{Program}
use Rattle.rc_answers.specs.declared.answer.Done.TheVariants.{Refused}
use Rattle.rc_outcomes.specs.Footprint.{Reads, footprint}
use Rattle.rc_outcomes.specs.Loading.{Loaded, NotLoaded}
use Rattle.rc_outcomes.specs.MayAnswer.{MayAnswer}
use Rattle.rc_outcomes.specs.Outcome.{IsOutcome, OfTextFile, Outcome}
use Rattle.rc_requests.specs.Request.{Request}
use Rattle.rc_answers.specs.declared.answer.Fault.{Fault}
use Rattle.rc_files.specs.declared.text_files.FileText.{FileText}
use Rattle.rc_files.specs.declared.text_files.FileText.TheVariants as file_text
use Rattle.rc_files.specs.declared.text_file.NoText.{NoText}
use Rattle.rc_files.specs.declared.text_file.NoText.TheVariants.{TooLong, Failed}

-- ---- loading

-- what was loaded, if that is all of the file
pub data ReadText (piece : Piece) : Result (List ℕ) NoText → Type 0 where
  beyond : piece.whole ≡ false → ReadText piece (Err TooLong)
  whole : piece.whole ≡ true → ReadText piece (Ok piece.bytes)

abbrev pub IsTooLong : List ℕ → Type 0
IsTooLong bytes = most_text_bytes < length bytes

abbrev pub LoadedText : (name : List ℕ) → (files files' : ShelfState) → Result (List ℕ) NoText → Type 0
LoadedText name files files' (Ok text) = Loaded name files files' (λ bytes. bytes ≡ text)
LoadedText name files files' (Err TooLong) = Loaded name files files' IsTooLong
LoadedText name files files' (Err (Failed fault)) = NotLoaded name files files' fault

-- of one of several files
abbrev pub IsTextOf : FileText → List ℕ → Type 0
IsTextOf (file_text.Whole text) bytes = bytes ≡ text
IsTextOf file_text.TooLong bytes = IsTooLong bytes

abbrev pub LoadedOne : (name : List ℕ) → (files files' : ShelfState) → Result FileText Fault → Type 0
LoadedOne name files files' (Ok text) = Loaded name files files' (IsTextOf text)
LoadedOne name files files' (Err fault) = NotLoaded name files files' fault

-- ---- requests

-- the rows of the tables say of a request that this comes of the text that is made of this file's bytes, which is no shorter
pub record TextOf (request : Option Request) (name : List ℕ) (text_of : List ℕ → List ℕ) (Made : List ℕ → Program → Outcome → Type 0) : Type 0 where
  pub reads : Reads (footprint request) name
  pub only : (other : List ℕ) → Reads (footprint request) other → name ≡ other
  pub no_shorter : (bytes : List ℕ) → length bytes ≤ length (text_of bytes)
  pub may_refuse : (refusal : Refusal) → MayAnswer request (Refused refusal)
  pub is_outcome : (files : Names) (input : List ℕ) (outcome : Outcome) → OfTextFile name text_of Made files input outcome → IsOutcome request files input outcome
  pub outcome_is : (files : Names) (input : List ℕ) (outcome : Outcome) → IsOutcome request files input outcome → OfTextFile name text_of Made files input outcome
