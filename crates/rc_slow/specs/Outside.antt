-- What is done outside while a run goes on.
use Rattle.std.specs.Prelude.{◌≡◌, ◌≤◌, ℕ, List, ◌++◌, drop, Result, IsOk, IsErr}
use Rattle.rc_base.specs.Acts.{Act, getchars}
use Rattle.rc_base.specs.Causes.{Rose}
use Rattle.rc_values.specs.declared.stop.Stop.{Stop as CodeStop}
use Rattle.rc_memory.specs.KeptWorld.{KeptWorld}

-- the world after these acts
abbrev pub later : List Act → KeptWorld → KeptWorld
later acts w = record w { acts = w.acts ++ acts; input = drop (getchars acts) w.input }

-- a call stops the run only where the count of the object rose in it, and else leaves the count
pub record HasStopCause {T : Type 0} (before after : ℕ) (result : Result T CodeStop) : Type 0 where
  pub never_falls : before ≤ after
  pub failed : IsErr result → Rose before after
  pub kept : IsOk result → after ≡ before
