-- Loading the image of a file.
use Rattle.std.specs.Prelude.{◌≡◌, ℕ, true, false, List, length, IfSome, Result, Ok, Err}
use Rattle.rc_base.specs.declared.outside.Piece.{Piece}
use Rattle.rc_outcomes.specs.Loading.{Loaded, NotLoaded}
use Rattle.rc_base.specs.Shelves.{ShelfState}
use Rattle.rc_claims.specs.Claims.{ProofsFit}
use Rattle.rc_answers.specs.Answers.{IsOfBytes}
use Rattle.rc_answers.specs.declared.answer.Fault.TheVariants.{Memory}
use Rattle.rc_answers.specs.declared.image_refusal.ImageRefusal.{ImageRefusal}
use Rattle.rc_answers.specs.declared.image_refusal.ImageRefusal.TheVariants.{Extra}
use Rattle.rc_outcomes.specs.Images.{Carried, carried_by, carrying, read_as}
use Rattle.rc_sealed_images.specs.Reading.{carried_of}
use Rattle.rc_files.specs.declared.image_file.Carried as code
use Rattle.rc_files.specs.declared.image_file.NoImage.{NoImage}
use Rattle.rc_files.specs.declared.image_file.NoImage.TheVariants.{Refused, Failed}

-- what was read, as outcomes have it
abbrev pub as_read : code.Carried → Carried
as_read c = carrying c.image c.proofs

-- its proofs, where it has some, fit its image
abbrev pub Fit : code.Carried → Type 0
Fit c = IfSome c.proofs (ProofsFit c.image)

-- an image or a refusal, as the bytes say; or there is no memory to tell
abbrev pub MaySay : Result code.Carried NoImage → Result Carried ImageRefusal → Type 0
MaySay (Ok c) said = said ≡ Ok (as_read c)
MaySay (Err (Refused refusal)) said = (said ≡ Err refusal) × IsOfBytes refusal
MaySay (Err (Failed fault)) said = fault ≡ Memory

-- what was loaded, if that is all of the file
pub data ReadPiece (piece : Piece) : Result code.Carried NoImage → Type 0 where
  beyond : piece.whole ≡ false → ReadPiece piece (Err (Refused Extra))
  whole : (result : Result code.Carried NoImage) → piece.whole ≡ true → MaySay result (read_as (length piece.bytes) (carried_of piece.bytes)) → ReadPiece piece result

abbrev pub LoadedImage : (name : List ℕ) → (files files' : ShelfState) → Result code.Carried NoImage → Type 0
LoadedImage name files files' (Ok c) = Loaded name files files' (λ bytes. carried_by bytes ≡ Ok (as_read c))
LoadedImage name files files' (Err (Refused refusal)) = Loaded name files files' (λ bytes. carried_by bytes ≡ Err refusal) × IsOfBytes refusal
LoadedImage name files files' (Err (Failed fault)) = NotLoaded name files files' fault
