-- Facts hold whenever the run is there: each fact that a consistent annotation has before a point holds of the values of the function's region
-- variables and the heap, each time that the run of `main` comes to the point, in each call of the function.
use Rattle.std.specs.Prelude.{◌≡◌, ℕ, [], Some, slice_get}
use Rattle.rc_core.specs.Heap.{Value, Heap}
use Rattle.rc_core.specs.Source.{World}
use Rattle.rc_rlang.specs.RegionCode.{Routine, Rlang}
use Rattle.rc_annotations.specs.Annotations.{Annotation}
use Rattle.rc_annotations.specs.Holding.{AllHold}
use Rattle.rc_annotations.specs.Worlds.{Sane}
use Rattle.rc_along.specs.Along.{CallsMeet}
use Rattle.rc_along.specs.RunLaws.{AllRight}
use Rattle.rc_along.specs.Comes.{At, Comes}

-- in region code whose types agree, and whose run meets them, from a world whose heap is in order
abbrev pub FactsHoldWhenever : Rlang → (temporaries : ℕ → ℕ) → Annotation → Type 0
FactsHoldWhenever r temporaries a = AllRight r temporaries → (first : World) → Sane first → ((f : Routine) → slice_get r.functions r.main ≡ Some f → f.parameters ≡ 0) → ((m : ℕ) → CallsMeet r m r.main [] first) →
    (g p : ℕ) (values : ℕ → Value) (heap : Heap) → Comes r first (At g p values heap) → AllHold (a.before g p) values heap
