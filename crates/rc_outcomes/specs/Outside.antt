-- The outside, as a request finds it and as it leaves it.
use Rattle.std.specs.Prelude.{◌≡◌, ◌≤◌}
use Rattle.rc_base.specs.Causes.{Rose}
use Rattle.rc_base.specs.Shelves.{ShelfState}
use Rattle.rc_base.specs.Sinks.{SinkState}
use Rattle.rc_base.specs.Sources.{SourceState}
use Rattle.rc_store.specs.Kept.{KeptStore}

-- the files, the input, the output, the error stream and the heap of the run
pub record Outside : Type 0 where
  pub files : ShelfState
  pub input : SourceState
  pub out : SinkState
  pub err : SinkState
  pub heap : KeptStore

abbrev pub outside : ShelfState → SourceState → SinkState → SinkState → KeptStore → Outside
outside files input out err heap = record { files = files; input = input; out = out; err = err; heap = heap }

-- each object tells what it told before
pub record TellsAsBefore (before after : Outside) : Type 0 where
  pub files : after.files.tells ≡ before.files.tells
  pub input : after.input.tells ≡ before.input.tells
  pub out : after.out.tells ≡ before.out.tells
  pub err : after.err.tells ≡ before.err.tells

-- each count of faults is as before
pub record NoFault (before after : Outside) : Type 0 where
  pub files : after.files.faults ≡ before.files.faults
  pub input : after.input.faults ≡ before.input.faults
  pub out : after.out.faults ≡ before.out.faults
  pub err : after.err.faults ≡ before.err.faults

pub record NoCountFalls (before after : Outside) : Type 0 where
  pub files : before.files.faults ≤ after.files.faults
  pub input : before.input.faults ≤ after.input.faults
  pub out : before.out.faults ≤ after.out.faults
  pub err : before.err.faults ≤ after.err.faults

-- none of the counts rose
pub record NoneRose (before after : Outside) : Type 0 where
  pub files : ¬ Rose before.files.faults after.files.faults
  pub input : ¬ Rose before.input.faults after.input.faults
  pub out : ¬ Rose before.out.faults after.out.faults
  pub err : ¬ Rose before.err.faults after.err.faults
