-- What refusals say of the bytes, by spellings and by what comes behind.
use Rattle.std.specs.Prelude.{◌≡◌, ◌≢◌, ℕ, List, [], ◌++◌, length, Option, Err}
use Rattle.rc_code.specs.declared.image.Parts.{Parts}
use Rattle.rc_code.specs.Image.{FieldsFit}
use Rattle.rc_fields.specs.Reading.{extra, short, wrong_magic, wrong_version}
use Rattle.rc_image.specs.declared.fault.ImageFault.TheVariants as image
use Rattle.rc_image.specs.declared.version.Version.{Version}
use Rattle.rc_image.specs.Reading.{Refuses, parts_of}
use Rattle.rc_image.specs.Spelling.{spelling}
use Rattle.rc_claims.specs.declared.proofs.Proofs.{Proofs}
use Rattle.rc_sealed_images.specs.Carrying.{Carries}
use Rattle.rc_sealed_images.specs.Reading.{carried_of}

pub record RefusalsSpeak : Type 0 where
  -- the front of an image's bytes, however long, is too short
  pub short : (v : Version) (p : Parts) (front more : List ℕ) → FieldsFit p → more ≢ [] → front ++ more ≡ spelling v p → parts_of front ≡ Err short
  -- with bytes behind it is too long
  pub extra : (v : Version) (p : Parts) (more : List ℕ) → FieldsFit p → more ≢ [] → parts_of (spelling v p ++ more) ≡ Err extra
  -- every other fault is decided by the bytes up to it
  pub magic : (bytes more : List ℕ) → parts_of bytes ≡ Err wrong_magic → parts_of (bytes ++ more) ≡ Err wrong_magic
  pub version : (bytes more : List ℕ) → parts_of bytes ≡ Err wrong_version → parts_of (bytes ++ more) ≡ Err wrong_version
  pub field : (bytes more : List ℕ) (offset : ℕ) → Refuses (length bytes) (image.Field offset) (parts_of bytes) → Refuses (length (bytes ++ more)) (image.Field offset) (parts_of (bytes ++ more))

-- the same where an image may carry proofs
pub record CarriedRefusalsSpeak : Type 0 where
  pub short : (p : Parts) (proofs : Option Proofs) (front more : List ℕ) → more ≢ [] → Carries (front ++ more) p proofs → carried_of front ≡ Err short
  pub extra : (p : Parts) (proofs : Option Proofs) (bytes more : List ℕ) → more ≢ [] → Carries bytes p proofs → carried_of (bytes ++ more) ≡ Err extra
  pub magic : (bytes more : List ℕ) → carried_of bytes ≡ Err wrong_magic → carried_of (bytes ++ more) ≡ Err wrong_magic
  pub version : (bytes more : List ℕ) → carried_of bytes ≡ Err wrong_version → carried_of (bytes ++ more) ≡ Err wrong_version
  pub field : (bytes more : List ℕ) (offset : ℕ) → Refuses (length bytes) (image.Field offset) (carried_of bytes) → Refuses (length (bytes ++ more)) (image.Field offset) (carried_of (bytes ++ more))
