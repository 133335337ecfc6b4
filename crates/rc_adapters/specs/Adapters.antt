-- The objects over the real outside: they tell nothing but their counts of faults, and what was loaded is a front of what was read.
use Rattle.std.specs.Prelude.{ℕ, Bool, false, List, [], Option, Some, None}
use Rattle.rc_base.specs.Shelves.{IsFront, ShelfState}
use Rattle.rc_base.specs.Sinks.{SinkState}
use Rattle.rc_base.specs.Sources.{SourceState}
use Rattle.rc_base.specs.declared.outside.Piece.{Piece}

abbrev pub untold_source : Bool → ℕ → SourceState
untold_source ended faults = record { tells = false; rest = []; ended = ended; faults = faults }

abbrev pub untold_sink : ℕ → SinkState
untold_sink faults = record { tells = false; taken = []; flushed = 0; faults = faults }

abbrev pub untold_shelf : ℕ → ShelfState
untold_shelf faults = record { tells = false; names = λ name. None; faults = faults }

-- the piece is the front of what a reader gives, where it tells that
abbrev pub IsFrontOf : Option (List ℕ) → (most : ℕ) → Piece → Type 0
IsFrontOf None most piece = Unit {0}
IsFrontOf (Some file) most piece = IsFront file most piece
