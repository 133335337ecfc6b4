-- Frames before targets, from sets of facts.
use Rattle.std.specs.Prelude.{◌≡◌, ℕ, ◌<◌, Bool, false, ◌&&◌, nat_eq, List, length, get_or}
use Rattle.std.specs.List.{list_any, AllByRecursion as Every}
use Rattle.rc_facts.specs.declared.fact.Fact.{Fact}
use Rattle.rc_facts.specs.Facts.{Known, is_over}
use Rattle.rc_facts.specs.Flow.{set_at}
use Rattle.rc_claims.specs.declared.proofs.Frame.{Frame}
use Rattle.rc_claims.specs.Counts.{trues}
use Rattle.rc_claims.specs.Bits.{claims, BitsFit}
use Rattle.rc_claims.specs.Claims.{frame_facts, AreInOrder}

-- it is a frame of that instruction, with these facts on the first n variables
pub record IsFrameOf (n at : ℕ) (wanted : Fact → Bool) (frame : Frame) : Type 0 where
  pub before : frame.at ≡ at
  pub fit : BitsFit n frame.facts
  pub facts : (fact : Fact) → claims n frame.facts fact ≡ (is_over n fact && wanted fact)

-- a frame before each target and none elsewhere, and the one before the k-th target has the facts of the k-th set
pub record AreFramesOf (n : ℕ) (sets : List Known) (targets : List Bool) (frames : List Frame) : Type 0 where
  pub order : AreInOrder 0 frames
  pub fit : Every (λ (frame : Frame). (frame.at < length targets) × BitsFit n frame.facts) frames
  pub there : (at : ℕ) → list_any (λ (frame : Frame). nat_eq frame.at at) frames ≡ get_or targets at false
  pub facts : (at : ℕ) (fact : Fact) → frame_facts n frames at fact ≡ (get_or targets at false && (is_over n fact && set_at sets (trues targets at) fact))
