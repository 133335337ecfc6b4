-- What every run keeps, from the world before it to the world where it ends.
use Rattle.std.specs.Prelude.{ℕ, ◌<◌, Bool, List, Option, Some, None}
use Rattle.rc_core.specs.Programs.{Expr, Stmt, Function, Program}
use Rattle.rc_core.specs.Heap.{Value}
use Rattle.rc_core.specs.Live.{Ways}
use Rattle.rc_core.specs.Runs.{Stop, Run, Go, Stopped}
use Rattle.rc_core.specs.Execution.{value_of, exec, calls_within}
use Rattle.rc_core.specs.Source.{World, source}

-- the world where a run ends
abbrev pub world_after : {W A : Type 0} → Run W A → W
world_after (Go x w) = w
world_after (Stopped stop w) = w

-- what stops it, if it doesn't go on
abbrev pub stop_of : {W A : Type 0} → Run W A → Option Stop
stop_of (Go x w) = None
stop_of (Stopped stop w) = Some stop

-- where the run goes on, of what it gives and of the world then
abbrev pub IfGoes : {W A : Type 0} → (A → W → Type 0) → Run W A → Type 0
IfGoes Holds (Go x w) = Holds x w
IfGoes Holds (Stopped stop w) = Unit {0}

-- it holds of the world before, of what stops the run, and of the world after, for every expression, statement and call; more
-- calls may stand inside one another than turns are left
pub record Always (Holds : (before : World) → Option Stop → (after : World) → Type 0) : Type 0 where
  pub expression : (program : Program) (n : ℕ) (live : ℕ → Bool) (e : Expr) (locals : List Value) (w : World) → w.turns < n →
      Holds w (stop_of (value_of source program (calls_within source program n) live e locals w)) (world_after (value_of source program (calls_within source program n) live e locals w))
  pub statement : (program : Program) (n : ℕ) (s : Stmt) (f : Function) (k : Ways) (locals : List Value) (w : World) → w.turns < n →
      Holds w (stop_of (exec source program s f (calls_within source program n) k locals w)) (world_after (exec source program s f (calls_within source program n) k locals w))
  pub call : (program : Program) (n f : ℕ) (arguments : List Value) (w : World) → w.turns < n →
      Holds w (stop_of (calls_within source program n f arguments w)) (world_after (calls_within source program n f arguments w))
