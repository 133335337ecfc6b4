-- Reading an image, with its proofs where it carries some, from left to right, with the first fault that is met.
use Rattle.std.specs.Prelude.{ℕ, zero, suc, ◌-◌, ◌/◌, ◌==◌, Bool, false, ◌||◌, nat_lt, List, [], ◌∷◌, length, take, drop, Option, Some, None, Result, Ok, Err, if◌then◌else◌}
use Rattle.rc_code.specs.declared.image.Function.{Function}
use Rattle.rc_code.specs.declared.image.Parts.{Parts}
use Rattle.rc_fields.specs.Reading.{Fault, short, extra, field, ◌>>=◌, Read, number_at, number_within}
use Rattle.rc_image.specs.declared.version.Version.{Version}
use Rattle.rc_image.specs.declared.version.Version.TheVariants.{One, Two}
use Rattle.rc_image.specs.Reading.{start_at, fields_at}
use Rattle.rc_claims.specs.declared.proofs.Frame.{Frame}
use Rattle.rc_claims.specs.declared.proofs.Known.{Known}
use Rattle.rc_claims.specs.declared.proofs.Proofs.{Proofs}
use Rattle.rc_claims.specs.Counts.{copies, exit_count, frame_count}
use Rattle.rc_claims.specs.Bits.{bit_in, bit_count, byte_count}

-- ---- bits

-- whether one of so many bits is 1, from that one on
unfoldable pub has_one : List ℕ → (from count : ℕ) → Bool
has_one bits from zero = false
has_one bits from (suc count) = bit_in bits from || has_one bits (suc from) count

-- whether a bit that isn't used is 1; fewer than eight stand behind those that are
abbrev pub has_unused : (n : ℕ) → List ℕ → Bool
has_unused n bits = has_one bits (bit_count n) 8

-- the bits of facts over n variables; an unused one that is 1 is a fault of its byte, which is the last
unfoldable pub bits_at : (n : ℕ) → List ℕ → Read (List ℕ)
bits_at n bytes =
    if nat_lt (length bytes) (byte_count n) then Err short
    else if has_unused n (take (byte_count n) bytes) then Err (field (length bytes - bit_count n / 8)) else Ok (take (byte_count n) bytes, drop (byte_count n) bytes)

-- ---- what is claimed of functions

-- at that instruction of the function or one behind it
unfoldable pub frame_at : Function → (least : ℕ) → List ℕ → Read Frame
frame_at f least bytes = do
  at ← number_within least (length f.code) bytes
  facts ← bits_at (frame_count f) at.1
  Ok (record { at = at.0; facts = facts.0 }, facts.1)

-- so many frames, each at an instruction behind that of the one before
unfoldable pub frames_at : Function → (count least : ℕ) → List ℕ → Read (List Frame)
frames_at f zero least bytes = Ok ([], bytes)
frames_at f (suc count) least bytes = do
  frame ← frame_at f least bytes
  others ← frames_at f count (suc frame.0.at) frame.1
  Ok (frame.0 ∷ others.0, others.1)

unfoldable pub known_at : Function → List ℕ → Read Known
known_at f bytes = do
  entry ← bits_at (copies f) bytes
  exit ← bits_at (exit_count f) entry.1
  count ← number_at exit.1
  frames ← frames_at f count.0 0 count.1
  Ok (record { entry = entry.0; exit = exit.0; frames = frames.0 }, frames.1)

-- of functions one after the other
unfoldable pub knowns_at : List Function → List ℕ → Read (List Known)
knowns_at [] bytes = Ok ([], bytes)
knowns_at (f ∷ fs) bytes = do
  known ← known_at f bytes
  others ← knowns_at fs known.1
  Ok (known.0 ∷ others.0, others.1)

unfoldable pub claims_at : List Function → List ℕ → Read Proofs
claims_at fs bytes = knowns_at fs bytes >>= λ knowns. Ok (record { functions = knowns.0 }, knowns.1)

-- ---- the whole

abbrev pub proofs_numbered : List Function → ℕ → List ℕ → Read (Option Proofs)
proofs_numbered fs zero rest = Ok (None, rest)
proofs_numbered fs (suc n) rest = claims_at fs rest >>= λ proofs. Ok (Some proofs.0, proofs.1)

-- how many proofs there are, none or one, and what it claims
unfoldable pub carried_at : Version → List Function → List ℕ → Read (Option Proofs)
carried_at One fs bytes = Ok (None, bytes)
carried_at Two fs bytes = number_within 0 2 bytes >>= λ n. proofs_numbered fs n.0 n.1

-- the image and its proofs, and what stands behind them
unfoldable pub image_at : List ℕ → Read (Parts × Option Proofs)
image_at bytes = do
  start ← start_at bytes
  parts ← fields_at start.0 start.1
  proofs ← carried_at start.0 parts.0.functions parts.1
  Ok ((parts.0, proofs.0), proofs.1)

-- all of the bytes
unfoldable pub carried_of : List ℕ → Result (Parts × Option Proofs) Fault
carried_of bytes = image_at bytes >>= λ image. if length image.1 == 0 then Ok image.0 else Err extra
