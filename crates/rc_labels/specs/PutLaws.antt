-- What is asked of what is done at a store with a mark or without it, as it is asked of a world's store: it makes no turns, and the same values
-- wait afterwards.
use Rattle.std.specs.Prelude.{◌≤◌, ℕ, Bool}
use Rattle.rc_core.specs.Heap.{Value}
use Rattle.rc_core.specs.Runs.{Target, Ops}
use Rattle.rc_emission.specs.Turns.{Within}
use Rattle.rc_numbering.specs.Waits.{Keeps}
use Rattle.rc_along.specs.MarkedRuns.{Put}

abbrev pub MakesNoTurns : {W : Type 0} → Ops W → Put W → Type 0
MakesNoTurns {W} ops put = (marked : Bool) (line : ℕ) (target : Target) (v : Value) (w : W) (b : ℕ) → ops.turns_left w ≤ b → Within ops b (put marked line target v w)

abbrev pub KeepsWaiting : {W V : Type 0} → Put W → (waiting : W → V) → Type 0
KeepsWaiting {W} put waiting = (marked : Bool) (line : ℕ) (target : Target) (v : Value) (w : W) → Keeps waiting w (put marked line target v w)
