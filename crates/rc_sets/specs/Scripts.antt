-- A script that was run: what it wrote of its text, and the heap behind it.
use Rattle.std.specs.Prelude.{◌≡◌, ◌≤◌, ℕ, List, take, Result, OnOk, IsOk, IsErrOf, IsTrue}
use Rattle.rc_base.specs.Causes.{Rose}
use Rattle.rc_base.specs.Sinks.{SinkState, Took, TookFront}
use Rattle.rc_base.specs.declared.ends.Limits.{Limits}
use Rattle.rc_store.specs.Kept.{KeptStore}
use Rattle.rc_replies.specs.Replies.{store_behind}
use Rattle.rc_replies.specs.Stores.{IsSame}
use Rattle.rc_replies.specs.Writing.{StoppedIn}
use Rattle.rc_sets.specs.declared.run.ScriptFault.{ScriptFault}
use Rattle.rc_sets.specs.declared.run.ScriptFault.TheVariants.{WriteFault, Memory}

-- the limits that a heap was given
abbrev pub limits_of : KeptStore → Limits
limits_of s = record { turns = 0; regions = s.region_limit; blocks = s.block_limit }

-- all bytes were put, or a front of them where there was no memory, or a front behind which the next byte failed; none was flushed
pub record PutText {T : Type 0} (bytes : List ℕ) (before after : SinkState) (result : Result T ScriptFault) : Type 0 where
  pub tells : after.tells ≡ before.tells
  pub whole : OnOk result (Took bytes before after)
  pub stopped : IsErrOf result WriteFault → StoppedIn bytes before after
  pub cut : IsErrOf result Memory → TookFront bytes before after
  pub flushed : IsTrue before.tells → after.flushed ≡ before.flushed
  pub never_falls : before.faults ≤ after.faults
  pub rose : IsErrOf result WriteFault → Rose before.faults after.faults
  pub kept : IsOk result → after.faults ≡ before.faults
  pub kept_without_memory : IsErrOf result Memory → after.faults ≡ before.faults

-- the store behind some of these lines, from the first on
abbrev pub IsBehindSome : List (List ℕ) → (s s' : KeptStore) → Type 0
IsBehindSome lines s s' = (n : ℕ) × IsSame (store_behind (take n lines) s) s'
