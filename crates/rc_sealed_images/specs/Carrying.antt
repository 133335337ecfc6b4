-- Which bytes carry an image, and with which proofs.
use Rattle.std.specs.Prelude.{◌≡◌, ℕ, List, Option, Some, None}
use Rattle.rc_code.specs.declared.image.Parts.{Parts}
use Rattle.rc_code.specs.Image.{FieldsFit}
use Rattle.rc_image.specs.declared.version.Version.{Version}
use Rattle.rc_image.specs.Spelling.{spelling}
use Rattle.rc_claims.specs.declared.proofs.Proofs.{Proofs}
use Rattle.rc_claims.specs.Claims.{ProofsFit}
use Rattle.rc_sealed_images.specs.Spelling.{sealing}

-- without proofs they are its spelling in one of the versions
pub record Spells (bytes : List ℕ) (parts : Parts) : Type 0 where
  pub fields : FieldsFit parts
  pub version : Version
  pub spelled : bytes ≡ spelling version parts

-- with proofs, which fit the image, they are its sealed spelling
pub record Seals (bytes : List ℕ) (parts : Parts) (proofs : Proofs) : Type 0 where
  pub fields : FieldsFit parts
  pub fits : ProofsFit parts proofs
  pub sealed : bytes ≡ sealing parts proofs

abbrev pub Carries : List ℕ → Parts → Option Proofs → Type 0
Carries bytes parts None = Spells bytes parts
Carries bytes parts (Some proofs) = Seals bytes parts proofs
