-- What a run never does, and what it leaves.
use Rattle.std.specs.Prelude.{◌≢◌, ℕ, List}
use Rattle.rc_base.specs.declared.ends.Limits.{Limits}
use Rattle.rc_core.specs.Programs.{Program}
use Rattle.rc_core.specs.Heap.{Value}
use Rattle.rc_core.specs.Runs.{Run, Go, Stopped, Stale}
use Rattle.rc_core.specs.Source.{World}
use Rattle.rc_core.specs.Meaning.{run_of, meaning}
use Rattle.rc_safety.specs.Soundness.{HeapIsSound}

-- with this input and these limits the run doesn't end with a read, a write or a pointer step in a deleted region, an
-- allocation or a subregion in one, a second deletion, or a store of a value that names one
abbrev pub NeverTouchesDeleted : Program → (input : List ℕ) → Limits → Type 0
NeverTouchesDeleted program input limits = (line : ℕ) → (meaning program input limits).end ≢ Stale line

abbrev pub IsLeftSound : Run World Value → Type 0
IsLeftSound (Go v w) = HeapIsSound w.heap
IsLeftSound (Stopped stop w) = Unit {0}

-- where the run exits, the heap that it leaves is sound
abbrev pub LeavesSoundHeap : Program → (input : List ℕ) → Limits → Type 0
LeavesSoundHeap program input limits = IsLeftSound (run_of program input limits)
