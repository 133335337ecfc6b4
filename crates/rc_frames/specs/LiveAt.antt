-- Liveness of one local: what is known of the ways out of a statement at that local alone.
use Rattle.std.specs.Prelude.{◌≡◌, ℕ}
use Rattle.rc_core.specs.Live.{Ways}
use Rattle.rc_frames.specs.declared.live.Ways.{Ways as WaysAt}

-- at the local x, these ways out say what those say
pub record Agrees (at : WaysAt) (x : ℕ) (k : Ways) : Type 0 where
  pub next : at.next ≡ k.next x
  pub broken : at.broken ≡ k.broken x
  pub continued : at.continued ≡ k.continued x
