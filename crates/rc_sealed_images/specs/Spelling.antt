-- The bytes of an image that carries its proofs. For each function they have the bits of its entry and of its exit, how many frames
-- there are, and for each its instruction and its bits.
use Rattle.std.specs.Prelude.{ℕ, List, ◌++◌}
use Rattle.std.specs.List.{flat_map}
use Rattle.rc_code.specs.declared.image.Parts.{Parts}
use Rattle.rc_fields.specs.Spelling.{number, counted}
use Rattle.rc_image.specs.declared.version.Version.TheVariants.{Two}
use Rattle.rc_image.specs.Spelling.{start_bytes, fields_bytes}
use Rattle.rc_claims.specs.declared.proofs.Frame.{Frame}
use Rattle.rc_claims.specs.declared.proofs.Known.{Known}
use Rattle.rc_claims.specs.declared.proofs.Proofs.{Proofs}

abbrev pub frame_bytes : Frame → List ℕ
frame_bytes frame = number frame.at ++ frame.facts

abbrev pub known_bytes : Known → List ℕ
known_bytes known = known.entry ++ known.exit ++ counted frame_bytes known.frames

abbrev pub claims_bytes : Proofs → List ℕ
claims_bytes proofs = flat_map known_bytes proofs.functions

-- version 2, with 1 as the number of proofs, and behind it what they claim
abbrev pub sealing : Parts → Proofs → List ℕ
sealing parts proofs = start_bytes Two ++ fields_bytes Two parts ++ number 1 ++ claims_bytes proofs
