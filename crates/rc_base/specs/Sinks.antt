-- What a sink of bytes shows, and what putting a byte and flushing do to it.
use Rattle.std.specs.Prelude.{◌≡◌, ℕ, Bool, List, [], ◌∷◌, ◌++◌, length, take, Result, OnOk, OnErr, IsTrue}
use Rattle.rc_base.specs.Causes.{HasCause}
use Rattle.rc_base.specs.declared.outside.Failed.{Failed}

-- whether it tells its bytes; where it does, those that it took and how many of them are flushed; its faults
pub record SinkState : Type 0 where
  pub tells : Bool
  pub taken : List ℕ
  pub flushed : ℕ
  pub faults : ℕ

-- it took these bytes, where it tells that
abbrev pub Took : List ℕ → SinkState → SinkState → Type 0
Took bytes before after = IsTrue before.tells → after.taken ≡ before.taken ++ bytes

-- all that it took is flushed, where it tells that
abbrev pub IsFlushed : SinkState → Type 0
IsFlushed sink = IsTrue sink.tells → sink.flushed ≡ length sink.taken

pub record Puts {T : Type 0} (byte : ℕ) (before after : SinkState) (result : Result T Failed) : Type 0 where
  pub tells : after.tells ≡ before.tells
  pub ok : OnOk result (Took (byte ∷ []) before after)
  pub failed : OnErr result (Took [] before after)
  pub flushed : IsTrue before.tells → after.flushed ≡ before.flushed
  pub cause : HasCause before.faults after.faults result

pub record Flushes {T : Type 0} (before after : SinkState) (result : Result T Failed) : Type 0 where
  pub tells : after.tells ≡ before.tells
  pub same : Took [] before after
  pub ok : OnOk result (IsFlushed after)
  pub cause : HasCause before.faults after.faults result

-- it took a front of these bytes
abbrev pub TookFront : List ℕ → SinkState → SinkState → Type 0
TookFront bytes before after = (n : ℕ) × Took (take n bytes) before after

pub record Writes {T : Type 0} (bytes : List ℕ) (before after : SinkState) (result : Result T Failed) : Type 0 where
  pub tells : after.tells ≡ before.tells
  pub ok : OnOk result (Took bytes before after)
  pub failed : OnErr result (TookFront bytes before after)
  pub flushed : IsTrue before.tells → after.flushed ≡ before.flushed
  pub cause : HasCause before.faults after.faults result
