-- What the code's answer to a step says of the step: where it goes on, or that it stops. A fault says nothing.
use Rattle.std.specs.Prelude.{◌≡◌, ℕ, Bool, true, false, List, Result, Ok, Err}
use Rattle.rc_core.specs.Programs.{Expr, new_subregion, allocate, putchar}
use Rattle.rc_core.specs.Heap.{Value}
use Rattle.rc_core.specs.Runs.{Run, Go}
use Rattle.rc_values.specs.declared.stop.Stop.{Stop as CodeStop}
use Rattle.rc_nodes.specs.declared.control.Control.{Control as CodeControl}
use Rattle.rc_memory.specs.Kept.{KeptHeap}
use Rattle.rc_memory.specs.KeptWorld.{KeptWorld, with_heap}
use Rattle.rc_memory.specs.Leaving.{StopsRun}
use Rattle.rc_frames.specs.Frames.{Frame}
use Rattle.rc_nodes.specs.Stepping.{Doing, doing}
use Rattle.rc_nodes.specs.Controls.{control_of}

-- with these frames, locals and this heap
abbrev pub Comes : Result CodeControl CodeStop → List Frame → List Value → KeptHeap → KeptWorld → Run KeptWorld Doing → Type 0
Comes (Ok c) fs env heap w run = run ≡ Go (doing (control_of c) fs env) (with_heap w heap)
Comes (Err stop) fs env heap w run = StopsRun stop w run

-- its first part's value doesn't lead to the heap or outside
abbrev pub stays_inside : Expr → Bool
stays_inside (new_subregion line r) = false
stays_inside (allocate line r ty) = false
stays_inside (putchar line e) = false
stays_inside _ = true

abbrev pub with_turns : ℕ → KeptWorld → KeptWorld
with_turns n w = record w { turns = n }

-- this many rounds may still begin, and the next one does
abbrev pub Turned : Result ℕ CodeStop → (ℕ → Doing) → KeptWorld → Run KeptWorld Doing → Type 0
Turned (Ok rounds) next w run = run ≡ Go (next rounds) w
Turned (Err stop) next w run = StopsRun stop w run
