-- When proofs fit an image, and which facts they claim.
use Rattle.std.specs.Prelude.{◌≡◌, ℕ, suc, ◌<◌, ◌≤◌, Bool, false, nat_eq, List, [], ◌∷◌, length, get_or, if◌then◌else◌}
use Rattle.std.specs.List.{AllByRecursion as Every}
use Rattle.rc_facts.specs.declared.fact.Fact.{Fact}
use Rattle.rc_code.specs.declared.image.Function.{Function}
use Rattle.rc_code.specs.declared.image.Parts.{Parts}
use Rattle.rc_code.specs.Running.{reading_of, function_at}
use Rattle.rc_claims.specs.declared.proofs.Frame.{Frame}
use Rattle.rc_claims.specs.declared.proofs.Known.{Known}
use Rattle.rc_claims.specs.declared.proofs.Proofs.{Proofs}
use Rattle.rc_claims.specs.Counts.{copies, exit_count, frame_count}
use Rattle.rc_claims.specs.Bits.{claims, BitsFit}

abbrev pub no_known : Known
no_known = record { entry = []; exit = []; frames = [] }

abbrev pub known_at : Proofs → ℕ → Known
known_at proofs g = get_or proofs.functions g no_known

-- ---- when proofs fit

-- their instructions strictly increase, from that one on
abbrev pub AreInOrder : (least : ℕ) → List Frame → Type 0
AreInOrder least [] = Unit {0}
AreInOrder least (frame ∷ frames) = (least ≤ frame.at) × AreInOrder (suc frame.at) frames

pub record FrameFits (f : Function) (frame : Frame) : Type 0 where
  pub at : frame.at < length f.code
  pub facts : BitsFit (frame_count f) frame.facts

pub record KnownFits (f : Function) (known : Known) : Type 0 where
  pub entry : BitsFit (copies f) known.entry
  pub exit : BitsFit (exit_count f) known.exit
  pub frames : Every (FrameFits f) known.frames
  pub order : AreInOrder 0 known.frames

pub record ProofsFit (parts : Parts) (proofs : Proofs) : Type 0 where
  pub long : length proofs.functions ≡ length parts.functions
  pub each : (g : ℕ) → g < length parts.functions → KnownFits (function_at (reading_of parts) g) (known_at proofs g)

-- ---- the facts that they claim

abbrev pub frame_facts : (n : ℕ) → List Frame → (at : ℕ) → Fact → Bool
frame_facts n [] at fact = false
frame_facts n (frame ∷ frames) at fact = if nat_eq frame.at at then claims n frame.facts fact else frame_facts n frames at fact
