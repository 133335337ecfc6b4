-- Bytes that are put one by one, up to one whose put fails.
use Rattle.std.specs.Prelude.{◌≡◌, ◌<◌, ℕ, List, length, take, Result, OnOk, OnErr, IsTrue}
use Rattle.rc_base.specs.Causes.{HasCause}
use Rattle.rc_base.specs.Sinks.{SinkState, Took}
use Rattle.rc_base.specs.declared.outside.Failed.{Failed}

-- it took a front of these bytes, and not the next
abbrev pub StoppedIn : List ℕ → SinkState → SinkState → Type 0
StoppedIn bytes before after = (n : ℕ) × (n < length bytes) × Took (take n bytes) before after

pub record WritesUntil {T : Type 0} (bytes : List ℕ) (before after : SinkState) (result : Result T Failed) : Type 0 where
  pub tells : after.tells ≡ before.tells
  pub ok : OnOk result (Took bytes before after)
  pub failed : OnErr result (StoppedIn bytes before after)
  pub flushed : IsTrue before.tells → after.flushed ≡ before.flushed
  pub cause : HasCause before.faults after.faults result
