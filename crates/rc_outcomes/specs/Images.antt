-- What the bytes of a file carry: an image, by itself or with proofs; or why they carry none.
use Rattle.std.specs.Prelude.{◌-◌, ℕ, nat_le, List, length, Option, None, Result, Ok, Err, if◌then◌else◌}
use Rattle.rc_base.specs.Limits.{most_image_bytes}
use Rattle.rc_claims.specs.declared.proofs.Proofs.{Proofs}
use Rattle.rc_code.specs.declared.image.Parts.{Parts}
use Rattle.rc_answers.specs.declared.image_refusal.ImageRefusal.{ImageRefusal}
use Rattle.rc_answers.specs.declared.image_refusal.ImageRefusal.TheVariants.{Magic, Version, Short, Extra, Field}
use Rattle.rc_fields.specs.Reading.{wrong_magic, wrong_version, short, extra, field}
use Rattle.rc_fields.specs.Reading as reading
use Rattle.rc_sealed_images.specs.Reading.{carried_of}

-- a field's offset is counted from the first of so many bytes
abbrev pub refusal_of : (total : ℕ) → reading.Fault → ImageRefusal
refusal_of total wrong_magic = Magic
refusal_of total wrong_version = Version
refusal_of total short = Short
refusal_of total extra = Extra
refusal_of total (field left) = Field (total - left)

-- what is read of bytes: an image, and its proofs where it carries some
pub record Carried : Type 0 where
  pub image : Parts
  pub proofs : Option Proofs

abbrev pub carrying : Parts → Option Proofs → Carried
carrying image proofs = record { image = image; proofs = proofs }

-- an image, and nothing beside it
abbrev pub alone : Parts → Carried
alone image = carrying image None

abbrev pub read_as : (total : ℕ) → Result (Parts × Option Proofs) reading.Fault → Result Carried ImageRefusal
read_as total (Ok read) = Ok (carrying read.0 read.1)
read_as total (Err fault) = Err (refusal_of total fault)

-- bytes of which there are more than an image may have go on behind it
abbrev pub carried_by : List ℕ → Result Carried ImageRefusal
carried_by bytes = if nat_le (length bytes) most_image_bytes then read_as (length bytes) (carried_of bytes) else Err Extra
