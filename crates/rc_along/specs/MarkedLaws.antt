-- A check that facts prove needless never fails. Said of runs: where stores are marked whose checks a consistent annotation proves needless,
-- a marked store may do what it likes with a value that doesn't fit, since it is never given one: the run is the same.
use Rattle.std.specs.Prelude.{◌≡◌, ℕ, Bool, true, false, List, length, Some, slice_get}
use Rattle.rc_core.specs.Heap.{Value, Null, parent, fits}
use Rattle.rc_core.specs.Laws.{IfGoes}
use Rattle.rc_core.specs.Runs.{Go, Target}
use Rattle.rc_core.specs.Source.{World, at_spot, source}
use Rattle.rc_rlang.specs.RegionCode.{Routine, Rlang}
use Rattle.rc_rlang.specs.RegionRuns.{calls_within}
use Rattle.rc_annotations.specs.Annotations.{Annotation, AllProven}
use Rattle.rc_annotations.specs.Holding.{region_in, AllHold}
use Rattle.rc_annotations.specs.Variables.{past}
use Rattle.rc_annotations.specs.Worlds.{Made, Sane, note_at}
use Rattle.rc_along.specs.Along.{given_to, CallsMeet}
use Rattle.rc_along.specs.MarkedRuns.{Put, calls_marked}

-- the value fits the cell, once the null and bounds tests have passed
abbrev pub Fits : (line : ℕ) → Target → Value → World → Type 0
Fits line tg v w = IfGoes (λ spot w1. fits (parent w.heap) (note_at w.heap tg) (region_in tg.pointer) v ≡ true) (at_spot line tg w (λ spot. Go spot w))

-- stores without a mark are those of the source's world, and those with a mark are where the value fits
pub record Trusting (put : Put World) : Type 0 where
  pub unmarked : (line : ℕ) (tg : Target) (v : Value) (w : World) → put false line tg v w ≡ source.store line tg v w
  pub marked : (line : ℕ) (tg : Target) (v : Value) (w : World) → Fits line tg v w → put true line tg v w ≡ source.store line tg v w

-- of calls that are given the facts of their function's entry
abbrev pub MarkedCallsAreTheSame : Rlang → Annotation → Type 0
MarkedCallsAreTheSame r a = (marks : (function point : ℕ) → Bool) → AllProven r a marks → (put : Put World) → Trusting put →
    (m k : ℕ) (fk : Routine) (arguments : List Value) (w : World) → slice_get r.functions k ≡ Some fk → length arguments ≡ fk.parameters → CallsMeet r m k arguments w → Sane w → ((i : ℕ) → Made w.heap (past (given_to fk arguments) (λ _. Null) i)) →
    AllHold (a.entry k) (past (given_to fk arguments) (λ _. Null)) w.heap → calls_marked source put marks r m k arguments w ≡ calls_within source r m k arguments w
