-- A function under way, and what its expressions, places and statements come to there.
use Rattle.std.specs.Prelude.{◌≡◌, ℕ, Bool, List, slice_get, Option, Some}
use Rattle.rc_core.specs.Programs.{Expr, Arguments, Place, Stmt, Function, Program}
use Rattle.rc_core.specs.Heap.{Value}
use Rattle.rc_core.specs.Live.{Ways}
use Rattle.rc_core.specs.Runs.{Run, Target, Calls}
use Rattle.rc_core.specs.Source.{World, source}
use Rattle.rc_core.specs.Evaluation.{eval_all, target}
use Rattle.rc_core.specs.Execution.{Flow, calling, value_of, test_of, exec, calls_within}
use Rattle.rc_kinds.specs.Suits.{Known}

-- how many more calls may stand inside the function's own, the function, its locals, and the world
pub record Frame : Type 0 where
  pub depth : ℕ
  pub function : Function
  pub locals : List Value
  pub world : World

abbrev pub in_world : Frame → World → Frame
in_world at w = record at { world = w }

abbrev pub with_locals : Frame → List Value → World → Frame
with_locals at locals w = record at { locals = locals; world = w }

module _ (program : Program) where
  abbrev pub calls_in : Frame → Calls World
  calls_in at = calls_within source program at.depth

  abbrev pub value_in : (live : ℕ → Bool) → Expr → Frame → Run World Value
  value_in live e at = value_of source program (calls_in at) live e at.locals at.world

  abbrev pub values_in : (live : ℕ → Bool) → Arguments → Frame → Run World (List Value)
  values_in live es at = eval_all source program es (calling source program (calls_in at) live at.locals) at.locals at.world

  abbrev pub target_in : (live : ℕ → Bool) → Place → Frame → Run World Target
  target_in live place at = target source program place (calling source program (calls_in at) live at.locals) at.locals at.world

  abbrev pub flow_in : Stmt → Ways → Frame → Run World Flow
  flow_in s k at = exec source program s at.function (calls_in at) k at.locals at.world

  -- of a loop without a condition it is 1
  abbrev pub test_in : (live : ℕ → Bool) → Option Expr → Frame → Run World Value
  test_in live test at = test_of source program (calls_in at) live test at.locals at.world

  -- the function is one of the program's, and each local and the world suit
  pub record IsSuited (at : Frame) : Type 0 where
    pub number : ℕ
    pub there : slice_get program.functions number ≡ Some at.function
    pub known : Known program at.function.locals at.locals at.world
