-- What the proofs of facts along runs are about.
use Rattle.std.proofs.Common.{◌≡◌, ℕ, Bool, true, List, length, Some}
use Rattle.std.specs.Prelude.{slice_get}
use Rattle.rc_core.specs.Heap.{Value, Null, Heap}
use Rattle.rc_core.specs.Runs.{Calls}
use Rattle.rc_core.specs.Source.{World}
use Rattle.rc_rlang.specs.RegionCode.{Routine, Rlang}
use Rattle.rc_rlang.specs.RegionFlow.{copies}
use Rattle.rc_annotations.specs.Annotations.{Annotation, Consistent}
use Rattle.rc_annotations.specs.Holding.{AllHold}
use Rattle.rc_annotations.specs.Variables.{past}
use Rattle.rc_annotations.specs.Worlds.{Made, Sane}
use Rattle.rc_along.specs.Along.{given_to, Keeps, CallDemand}
use Rattle.rc_annotations.specs.Annotations.{Proven}
use Rattle.rc_along.specs.MarkedRuns.{Put}
use Rattle.rc_along.specs.MarkedLaws.{Trusting}

-- a function in a call of it: the region code and its annotation, which is consistent, the function, its hidden copies, and the heap when
-- it was called
pub record Setting : Type 0 where
  pub r : Rlang
  pub temporaries : ℕ → ℕ
  pub a : Annotation
  pub c : Consistent r temporaries a
  pub g : ℕ
  pub f : Routine
  pub there : slice_get r.functions g ≡ Some f
  pub copied : List Value
  pub whole : length copied ≡ copies f
  pub heap0 : Heap

-- calls that keep the facts of entries and exits
pub record Calling (frame : Setting) : Type 1 where
  pub deleting : ℕ → Bool
  pub calls : Calls World
  pub inside : CallDemand
  pub keeps_calls : Keeps frame.r frame.a calls inside

-- stores that are left to `put`, by marks that the facts prove, and calls that are the same
pub record Marking (frame : Setting) (around : Calling frame) : Type 0 where
  pub calls' : Calls World
  pub put : Put World
  pub trusting : Trusting put
  pub marked : ℕ → Bool
  pub proven : (p : ℕ) → marked p ≡ true → Proven frame.r frame.a frame.g p
  pub calls_same : (k : ℕ) (fk : Routine) (xs : List Value) (w : World) → slice_get frame.r.functions k ≡ Some fk → length xs ≡ fk.parameters → around.inside k xs w → Sane w → ((i : ℕ) → Made w.heap (past (given_to fk xs) (λ _. Null) i)) → AllHold (frame.a.entry k) (past (given_to fk xs) (λ _. Null)) w.heap → calls' k xs w ≡ around.calls k xs w
