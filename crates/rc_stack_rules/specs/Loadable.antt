-- The stack code that emission makes is such as a loader asks for: of region code whose temporaries stand in order, whose locals are
-- there, and whose types agree; and so of every typed program. It ends in a return.
use Rattle.std.specs.Prelude.{◌≡◌, ℕ, Bool, List, [], ◌∷◌, ◌++◌, map, get_or, Some, slice_get}
use Rattle.rc_core.specs.Types.{Ty, int, char}
use Rattle.rc_core.specs.Programs.{Function, Global, Program}
use Rattle.rc_rlang.specs.RegionCode.{Routine}
use Rattle.rc_rlang.specs.RegionFits.{CodeFits}
use Rattle.rc_translation.specs.Translation.{call_type, routine_of}
use Rattle.rc_emission.specs.StackCode.{Line, leave}
use Rattle.rc_emission.specs.OperationCode.{line_of}
use Rattle.rc_emission.specs.StatementCode.{body_lines}
use Rattle.rc_emission.specs.KeptOperands.{slots_of}
use Rattle.rc_emission.specs.Served.{CodeNames}
use Rattle.rc_stack_rules.specs.LoaderRules.{IsLoadable}
use Rattle.rc_rlang.specs.RegionKinds.{CodeKinded}

-- the types of the locals in a function's stack code
abbrev pub all_locals : Routine → List Ty
all_locals f = f.locals ++ (slots_of f).types

-- whichever functions delete
abbrev pub EndsInReturn : Routine → Type 0
EndsInReturn f = (deleting : ℕ → Bool) → (before : List Line) × (values : List Ty) × (body_lines (slots_of f).slot deleting f ≡ before ++ line_of f.line (leave values) ∷ [])

module _ (global_ty result_ty : ℕ → Ty) (f : Routine) where
  -- whichever functions delete
  abbrev pub KeepsRules : Type 0
  KeepsRules = (deleting : ℕ → Bool) → IsLoadable (all_locals f) global_ty result_ty (body_lines (slots_of f).slot deleting f)

  abbrev pub IsInOrder : Type 0
  IsInOrder = CodeFits f.body × CodeNames f.locals f.body × CodeKinded (all_locals f) global_ty result_ty f.body

-- the type of an object of region 0: a global, or behind the globals a string
abbrev pub object_type : Program → ℕ → Ty
object_type program g = get_or (map (λ (d : Global). d.ty) program.globals ++ map (λ (bytes : List ℕ). char) program.strings) g int

abbrev pub AllKeepRules : Program → Type 0
AllKeepRules program = (k : ℕ) (f : Function) → slice_get program.functions k ≡ Some f → KeepsRules (object_type program) (call_type program) (routine_of program f)
