-- What the code of a function is made over, as definitions name it: which functions delete, the types of the function's locals, and the
-- locals that keep operands. What a deletion holds is read from a map of lists, which has to have those of the code (`Listed`).
use Rattle.std.specs.Prelude.{◌≡◌, ℕ, ◌+◌, Bool, List, map, Some}
use Rattle.std.specs.List.{AllByRecursion as Every}
use Rattle.rc_core.specs.Types.{Ty}
use Rattle.rc_core.specs.Programs.{Struct}
use Rattle.rc_core.specs.Shapes.{ty_of, struct_of}
use Rattle.rc_scope.specs.Names.{number_of}
use Rattle.rc_rlang.specs.declared.steps.Step.{Step as CodeStep}
use Rattle.rc_rlang.specs.declared.code.Act.{Act as CodeAct}
use Rattle.rc_rlang.specs.declared.steps.Operation.{Operation as CodeOperation}
use Rattle.rc_rlang.specs.RegionCode.{Operation, Step, Steps, Act}
use Rattle.rc_rlang.specs.RegionRuns.{deletes}
use Rattle.rc_rlang.specs.LiveLists.{Held, operation_lists, step_lists, steps_lists, act_lists}
use Rattle.rc_rlang.specs.LiveMaps.{list_at}
use Rattle.rc_rlang.specs.Shapes.{rlang_of, operation_of, step_of, steps_of, act_of}
use Rattle.rc_lines.specs.declared.body.Body.{Body}
use Rattle.rc_lines.specs.Keys.{kept_key}

-- a map has these lists
abbrev pub Listed : (map : List Held) → List Held → Type 0
Listed map lists = Every (λ (h : Held). list_at map h.point ≡ Some h.locals) lists

module _ (b : Body) where
  abbrev pub deleting_in : ℕ → Bool
  deleting_in f = deletes (rlang_of b.parts.now) f

  abbrev pub types_in : List Ty
  types_in = map ty_of b.routine.now.locals.items

  abbrev pub slot_in : (height : ℕ) → Ty → ℕ
  slot_in height ty = b.first + number_of b.kept.now (kept_key height ty)

  abbrev pub structs_in : List Struct
  structs_in = map struct_of b.parts.now.structs.items

  abbrev pub operation_in : CodeOperation → Operation
  operation_in operation = operation_of structs_in operation

  abbrev pub steps_in : List CodeStep → Steps
  steps_in steps = steps_of structs_in steps

  abbrev pub step_in : CodeStep → Step
  step_in step = step_of structs_in step

  abbrev pub act_in : CodeAct → Act
  act_in act = act_of structs_in act

  -- the map has the lists of an operation, or of steps, that begin at a point, whatever is live behind them
  pub record OperationListed (operation : CodeOperation) (here : ℕ) : Type 0 where
    pub live : ℕ → Bool
    pub listed : Listed b.live.now (operation_lists deleting_in types_in (operation_in operation) here live)

  pub record StepsListed (steps : List CodeStep) (here : ℕ) : Type 0 where
    pub live : ℕ → Bool
    pub listed : Listed b.live.now (steps_lists deleting_in types_in (steps_in steps) here live)

  pub record StepListed (step : CodeStep) (here : ℕ) : Type 0 where
    pub live : ℕ → Bool
    pub listed : Listed b.live.now (step_lists deleting_in types_in (step_in step) here live)

  pub record ActListed (act : CodeAct) (here : ℕ) : Type 0 where
    pub live : ℕ → Bool
    pub listed : Listed b.live.now (act_lists deleting_in types_in (act_in act) here live)
