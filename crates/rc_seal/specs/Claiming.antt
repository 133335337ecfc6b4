-- The proofs that the sets of facts of a search are.
use Rattle.std.specs.Prelude.{◌≡◌, ◌<◌, ℕ, nat_eq, List, [], length, get_or, slice_get, Some}
use Rattle.std.specs.List.{All, AllByRecursion as Every, list_any}
use Rattle.rc_facts.specs.declared.fact.Fact.{Fact}
use Rattle.rc_facts.specs.Flow.{set_at}
use Rattle.rc_code.specs.declared.image.Parts.{Parts}
use Rattle.rc_code.specs.Image.{FieldsFit}
use Rattle.rc_code.specs.Running.{reading_of, function_at}
use Rattle.rc_code.specs.Soundness.{Sound}
use Rattle.rc_claims.specs.declared.proofs.Frame.{Frame}
use Rattle.rc_claims.specs.declared.proofs.Known.{Known}
use Rattle.rc_claims.specs.Counts.{copies, exit_count, frame_count}
use Rattle.rc_claims.specs.Bits.{claims, BitsFit}
use Rattle.rc_claims.specs.Claims.{no_known, frame_facts, AreInOrder, FrameFits}
use Rattle.rc_sealed.specs.Carrying.{is_target}
use Rattle.rc_sealed.specs.Faults.{NoneIsWide}
use Rattle.rc_prove.specs.declared.start.Counts.{Counts}
use Rattle.rc_prove.specs.Sets.{framed}
use Rattle.rc_prove.specs.Family.{family_of, Family}
use Rattle.rc_prove.specs.Starting.{AreShaped, CountsFit}
use Rattle.rc_prove.specs.TheGreatest.{AreCounts}
use Rattle.rc_seal.specs.declared.claims.Sets.{Sets}

-- each function has its counts
pub record AreCountsOf (parts : Parts) (counts : List Counts) : Type 0 where
  pub counted : length counts ≡ length parts.functions
  pub count : (g : ℕ) → g < length parts.functions → (c : Counts) × (slice_get counts g ≡ Some c) × AreCounts parts g c

abbrev pub family : Sets → Family
family sets = family_of sets.claims.now.entries.items sets.claims.now.exits.items sets.claims.now.frames.items

-- they are those of the functions of an image that may carry proofs
pub record IsReady (sets : Sets) : Type 0 where
  pub fields : FieldsFit sets.parts.now
  pub sound : Sound sets.parts.now
  pub narrow : NoneIsWide sets.parts.now
  pub fit : All (λ (c : Counts). CountsFit c) sets.counts.now
  pub counts : AreCountsOf sets.parts.now sets.counts.now
  pub shaped : AreShaped sets.counts.now (family sets)

-- a frame before each target of a function and none elsewhere, with the facts of the target's set
pub record AreFramesAt (parts : Parts) (m : Family) (g : ℕ) (frames : List Frame) : Type 0 where
  pub fit : Every (FrameFits (function_at (reading_of parts) g)) frames
  pub order : AreInOrder 0 frames
  pub there : (at : ℕ) → list_any (λ (frame : Frame). nat_eq frame.at at) frames ≡ is_target (function_at (reading_of parts) g) at
  pub facts : (at : ℕ) (fact : Fact) → frame_facts (frame_count (function_at (reading_of parts) g)) frames at fact ≡ framed (function_at (reading_of parts) g) (get_or m.frames g []) at fact

-- what is claimed of a function are the facts of its sets
pub record IsKnownOf (parts : Parts) (m : Family) (g : ℕ) (known : Known) : Type 0 where
  pub entry_fits : BitsFit (copies (function_at (reading_of parts) g)) known.entry
  pub entry : (fact : Fact) → claims (copies (function_at (reading_of parts) g)) known.entry fact ≡ set_at m.entries g fact
  pub exit_fits : BitsFit (exit_count (function_at (reading_of parts) g)) known.exit
  pub exit : (fact : Fact) → claims (exit_count (function_at (reading_of parts) g)) known.exit fact ≡ set_at m.exits g fact
  pub frames : AreFramesAt parts m g known.frames

-- that of the first functions
pub record AreFirstKnown (parts : Parts) (m : Family) (number : ℕ) (all : List Known) : Type 0 where
  pub long : length all ≡ number
  pub each : (g : ℕ) → g < number → IsKnownOf parts m g (get_or all g no_known)
