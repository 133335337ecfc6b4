-- What the code's answer says of what is done to the heap: it gives this and leaves that heap, or stops. A fault says nothing.
use Rattle.std.specs.Prelude.{◌≡◌, Result, Ok, Err}
use Rattle.rc_base.specs.declared.ends.RunFault.TheVariants.{Memory}
use Rattle.rc_core.specs.Runs.{Run, Go, Stopped, Ends, Stale}
use Rattle.rc_values.specs.declared.stop.Stop.{Stop as CodeStop}
use Rattle.rc_values.specs.declared.stop.Stop.TheVariants.{Ends as CodeEnds, Stale as CodeStale, Cut}
use Rattle.rc_memory.specs.Kept.{KeptHeap}
use Rattle.rc_memory.specs.KeptWorld.{KeptWorld, with_heap}

abbrev pub StopsRun : {A : Type 0} → CodeStop → KeptWorld → Run KeptWorld A → Type 0
StopsRun (CodeEnds end) w run = run ≡ Stopped (Ends end) w
StopsRun (CodeStale line) w run = run ≡ Stopped (Stale line) w
StopsRun (Cut fault) w run = fault ≡ Memory

abbrev pub Leaves : {T A : Type 0} → (T → A) → Result T CodeStop → KeptHeap → KeptWorld → Run KeptWorld A → Type 0
Leaves shape (Ok x) heap w run = run ≡ Go (shape x) (with_heap w heap)
Leaves shape (Err stop) heap w run = StopsRun stop w run
