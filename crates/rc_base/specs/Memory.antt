-- The outside in memory: what its objects are, and which of their calls fail.
use Rattle.std.specs.Prelude.{◌≡◌, ◌≤◌, ◌+◌, ℕ, Bool, true, List, [], ◌∷◌, length, min, Some, None, Contains, if◌then◌else◌}
use Rattle.std.specs.Str.{bytes_eq}
use Rattle.rc_base.specs.Causes.{Rose}
use Rattle.rc_base.specs.Sources.{SourceState}
use Rattle.rc_base.specs.Sinks.{SinkState}
use Rattle.rc_base.specs.Shelves.{ShelfState, Names}

-- an object's calls: the numbers of those that are to fail, how many were made, and how many failed
pub record Calls : Type 0 where
  pub fails : List ℕ
  pub made : ℕ
  pub faults : ℕ

-- no call was made yet
abbrev pub no_calls : List ℕ → Calls
no_calls fails = record { fails = fails; made = 0; faults = 0 }

-- the next call is to fail
abbrev pub IsListed : Calls → Type 0
IsListed calls = Contains calls.fails calls.made

-- one more, up to the last value of a count
abbrev pub counted : ℕ → ℕ
counted n = min (n + 1) 18446744073709551615

-- one more call was made
pub record OneCall (before after : Calls) : Type 0 where
  pub fails : after.fails ≡ before.fails
  pub made : after.made ≡ counted before.made

-- one more call failed
pub record OneFault (before after : Calls) : Type 0 where
  pub never_falls : before.faults ≤ after.faults
  pub rose : Rose before.faults after.faults

pub record BytesState : Type 0 where
  pub rest : List ℕ
  pub ended : Bool
  pub calls : Calls

abbrev pub source_of : BytesState → SourceState
source_of b = record { tells = true; rest = b.rest; ended = b.ended; faults = b.calls.faults }

pub record BufferState : Type 0 where
  pub taken : List ℕ
  pub flushed : ℕ
  pub room : ℕ
  pub calls : Calls

abbrev pub sink_of : BufferState → SinkState
sink_of b = record { tells = true; taken = b.taken; flushed = b.flushed; faults = b.calls.faults }

abbrev pub IsFull : BufferState → Type 0
IsFull b = b.room ≤ length b.taken

-- a name with the bytes that stand under it
pub record Entry : Type 0 where
  pub name : List ℕ
  pub bytes : List ℕ

pub record DrawerState : Type 0 where
  pub files : List Entry
  pub calls : Calls

-- what stands under a name
abbrev pub held : List Entry → Names
held [] name = None
held (e ∷ es) name = if bytes_eq name e.name then Some e.bytes else held es name

abbrev pub shelf_of : DrawerState → ShelfState
shelf_of d = record { tells = true; names = held d.files; faults = d.calls.faults }
