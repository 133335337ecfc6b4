-- Stack code that an image can say, and region code that becomes such code. Numbers are of their types, and operators are such as there are
-- instructions for. What goes into a local is cut to a byte just where the local's type says so. The structs that a type names are there. A
-- path stays inside its type and leads to cells of one kind, that of its access. Layouts are those of the types. Calls have the function's
-- parameters, and a value just where it has a result; so have returns.
use Rattle.std.specs.Prelude.{not, ◌≡◌, ◌<◌, ◌≤◌, ℕ, ◌+◌, Bool, true, false, IsTrue, IsSome, List, [], ◌∷◌, length, map, take, get_or, slice_get, Option, Some, None}
use Rattle.std.specs.List.{AllByRecursion as Every}
use Rattle.rc_core.specs.declared.operators.UnaryOperator.{UnaryOperator}
use Rattle.rc_core.specs.declared.operators.UnaryOperator.TheVariants as unary
use Rattle.rc_core.specs.declared.operators.Operator.{Operator}
use Rattle.rc_core.specs.declared.operators.Operator.TheVariants as operator
use Rattle.rc_core.specs.declared.stmt.Change.{Change}
use Rattle.rc_core.specs.declared.stmt.Change.TheVariants.{Compute, Step as Stepping}
use Rattle.rc_core.specs.Types.{Ty, int, unsigned, char, region, struct, pointer, CellKind, int_cell, unsigned_cell, char_cell, region_cell, pointer_cell}
use Rattle.rc_core.specs.Layout.{Layout, cells, size}
use Rattle.rc_core.specs.Arithmetic.{type_of}
use Rattle.rc_core.specs.Typing.{fits, is_pointer, is_struct, IsDefined}
use Rattle.rc_core.specs.Programs.{Struct}
use Rattle.rc_rlang.specs.RegionCode.{Access, Operation, Act, Routine, Rlang}
use Rattle.rc_rlang.specs.RegionCode as From
use Rattle.rc_emission.specs.StackCode.{Instruction, Line}
use Rattle.rc_emission.specs.StackCode as To
use Rattle.rc_emission.specs.StatementCode.{cell_type, further}
use Rattle.rc_stack_rules.specs.LoaderRules.{kinds}
use Rattle.rc_stack_rules.specs.Loadable.{all_locals}
use Rattle.rc_code.specs.Image.{IndexFits, is_nested}
use Rattle.rc_code.specs.Reached.{span, is_reached}
use Rattle.rc_numbering.specs.Names.{index_of}

abbrev pub is_char : Ty → Bool
is_char int = false
is_char unsigned = false
is_char char = true
is_char region = false
is_char (struct k) = false
is_char (pointer note target) = false

-- null is written, and values are tested for null and compared, by instructions for all types but numbers
abbrev pub has_null : Ty → Bool
has_null int = false
has_null unsigned = false
has_null char = false
has_null region = true
has_null (struct k) = true
has_null (pointer note target) = true

abbrev pub has_row : Operator → Bool
has_row operator.Multiply = true
has_row operator.Divide = true
has_row operator.Remainder = true
has_row operator.Add = true
has_row operator.Subtract = true
has_row operator.ShiftLeft = true
has_row operator.ShiftRight = true
has_row operator.Less = true
has_row operator.Greater = false
has_row operator.LessEqual = true
has_row operator.GreaterEqual = false
has_row operator.Equal = true
has_row operator.NotEqual = false
has_row operator.And = true
has_row operator.Xor = true
has_row operator.Or = true

abbrev pub has_unary_row : UnaryOperator → Bool
has_unary_row unary.Negate = true
has_unary_row unary.Plus = false
has_unary_row unary.Complement = true

-- the cell of a type that is no struct
abbrev pub cell_for : Ty → CellKind
cell_for int = int_cell
cell_for unsigned = unsigned_cell
cell_for char = char_cell
cell_for region = region_cell
cell_for (struct k) = int_cell
cell_for (pointer note target) = pointer_cell note target

abbrev pub cell_in : List Struct → Ty → ℕ → CellKind
cell_in structs ty n = get_or (cells structs ty) n int_cell

-- an access stays inside what the pointer points to, and all cells that it may lead to are of its kind
pub record AccessFits (structs : List Struct) (a : Access) : Type 0 where
  pub defined : IsDefined structs a.element
  pub cell_defined : IsDefined structs a.cell
  pub one_cell : IsTrue (not (is_struct a.cell))
  pub cell : cell_in structs a.element a.offset ≡ cell_for a.cell
  pub inside : a.offset + span (map index_of a.indices) < size structs a.element
  pub indices : Every IndexFits (map index_of a.indices)
  pub nested : is_nested (map index_of a.indices) ≡ true
  pub alike : (distance : ℕ) → is_reached distance (map index_of a.indices) ≡ true → cell_in structs a.element (a.offset + distance) ≡ cell_in structs a.element a.offset

abbrev pub result_types : Option Ty → List Ty
result_types None = []
result_types (Some ty) = ty ∷ []

-- a function is there, with these parameters
pub record IsCalled (r : Rlang) (function : ℕ) (parameters : List Ty) : Type 0 where
  pub routine : Routine
  pub there : slice_get r.functions function ≡ Some routine
  pub parameters_are : parameters ≡ take routine.parameters routine.locals
  pub few : routine.parameters ≤ length routine.locals

abbrev pub result_in : Rlang → ℕ → Option Ty
result_in r function = result (slice_get r.functions function)
  where
    result : Option Routine → Option Ty
    result None = None
    result (Some f) = f.result

-- ---- of stack code

module _ (r : Rlang) (f : Routine) (deleting : ℕ → Bool) where
  -- one that doesn't delete holds nothing
  abbrev pub HoldsRight : ℕ → List ℕ → Type 0
  HoldsRight g pins = deleting g ≡ false → pins ≡ []

  abbrev pub Sayable : Instruction → Type 0
  Sayable (To.number s n) = IsTrue (fits (type_of s) n)
  Sayable (To.null ty) = IsDefined r.structs ty × IsTrue (has_null ty)
  Sayable (To.global g) = g < length r.globals + length r.strings
  Sayable (To.set x ty) = is_char (get_or (all_locals f) x int) ≡ is_char ty
  Sayable (To.arithmetic operator s) = IsTrue (has_row operator)
  Sayable (To.unary operator s) = IsTrue (has_unary_row operator)
  Sayable (To.null_test ty) = IsDefined r.structs ty × IsTrue (has_null ty)
  Sayable (To.same ty) = IsDefined r.structs ty × IsTrue (has_null ty)
  Sayable (To.move ty s direction) = IsDefined r.structs ty × IsTrue (is_pointer ty)
  Sayable (To.load a) = AccessFits r.structs a
  Sayable (To.store a) = AccessFits r.structs a
  Sayable (To.region_of ty) = IsDefined r.structs ty × IsTrue (is_pointer ty)
  Sayable (To.allocate ty layout) = IsDefined r.structs ty × (layout ≡ cells r.structs ty)
  Sayable (To.allocate_array ty layout) = IsDefined r.structs ty × (layout ≡ cells r.structs ty)
  Sayable (To.call g tys pins) = IsCalled r g tys × HoldsRight g pins × IsSome (result_in r g)
  Sayable (To.perform g tys pins) = IsCalled r g tys × HoldsRight g pins × (result_in r g ≡ None)
  Sayable (To.leave tys) = kinds tys ≡ kinds (result_types f.result)
  Sayable i = Unit {0}

  abbrev pub EachSayable : List Instruction → Type 0
  EachSayable [] = Unit {0}
  EachSayable (i ∷ is) = Sayable i × EachSayable is

  abbrev pub AllSayable : List Line → Type 0
  AllSayable [] = Unit {0}
  AllSayable (l ∷ code) = Sayable l.instruction × AllSayable code

-- ---- of region code

module _ (r : Rlang) (f : Routine) where
  abbrev pub OperationSayable : (result : Ty) → Operation → Type 0
  OperationSayable ty (From.constant s n) = IsTrue (fits (type_of s) n)
  OperationSayable ty From.null = Unit {0}
  OperationSayable ty (From.static g) = g < length r.globals + length r.strings
  OperationSayable ty (From.copy x) = Unit {0}
  OperationSayable ty (From.load a) = AccessFits r.structs a
  OperationSayable ty (From.step direction pointed n) = IsDefined r.structs pointed × IsTrue (is_pointer pointed)
  OperationSayable ty (From.step_from n pointed) = IsDefined r.structs n × IsDefined r.structs pointed × IsTrue (is_pointer pointed)
  OperationSayable ty (From.unary operator s) = IsTrue (has_unary_row operator)
  OperationSayable ty (From.binary operator s right) = Unit {0}
  OperationSayable ty (From.convert from to) = Unit {0}
  OperationSayable ty (From.not_zero of) = IsDefined r.structs of
  OperationSayable ty (From.truth of) = IsDefined r.structs of
  OperationSayable ty (From.is_null wanted of) = IsDefined r.structs of × IsTrue (has_null of)
  OperationSayable ty (From.same wanted of) = IsDefined r.structs of × IsTrue (has_null of)
  OperationSayable ty (From.call g tys) = IsCalled r g tys × IsSome (result_in r g)
  OperationSayable ty From.new_region = Unit {0}
  OperationSayable ty From.new_subregion = Unit {0}
  OperationSayable ty (From.region_of of) = IsDefined r.structs of × IsTrue (is_pointer of)
  OperationSayable ty (From.allocate made layout) = IsDefined r.structs made × (layout ≡ cells r.structs made)
  OperationSayable ty (From.allocate_array made layout) = IsDefined r.structs made × (layout ≡ cells r.structs made)
  OperationSayable ty From.putchar = Unit {0}
  OperationSayable ty From.getchar = Unit {0}

  abbrev mutual
    pub StepSayable : From.Step → Type 0
    StepSayable (From.set line h ty op) = IsDefined r.structs ty × OperationSayable ty op
    StepSayable (From.fork line h test result a b) = IsDefined r.structs test × IsDefined r.structs result × StepsSayable a × StepsSayable b

    pub StepsSayable : From.Steps → Type 0
    StepsSayable From.none = Unit {0}
    StepsSayable (From.more s rest) = StepSayable s × StepsSayable rest

  abbrev pub LocalKept : ℕ → Ty → Type 0
  LocalKept x ty = is_char (get_or f.locals x int) ≡ is_char ty

  -- the cells of both places one after another
  abbrev pub CellsFit : Layout → (left right : Access) → Type 0
  CellsFit [] left right = Unit {0}
  CellsFit (kind ∷ kinds) left right = AccessFits r.structs (record left { cell = cell_type kind }) × AccessFits r.structs (record right { cell = cell_type kind }) × CellsFit kinds (further left) (further right)

  abbrev pub ChangeSayable : Change → Ty → Type 0
  ChangeSayable (Compute from operator s) cell = Unit {0}
  ChangeSayable (Stepping direction) cell = IsTrue (is_pointer cell)

  abbrev pub ActSayable : Act → Type 0
  ActSayable From.drop = Unit {0}
  ActSayable (From.perform line g tys) = IsCalled r g tys × (result_in r g ≡ None)
  ActSayable (From.assign line x ty) = LocalKept x ty
  ActSayable (From.store line a) = AccessFits r.structs a
  ActSayable (From.update line a change ty) = AccessFits r.structs a × IsDefined r.structs ty × ChangeSayable change a.cell
  ActSayable (From.move line kinds left right) = CellsFit kinds left right
  ActSayable (From.delete line) = Unit {0}
  ActSayable (From.leave line result) = kinds (result_types result) ≡ kinds (result_types f.result)

  abbrev pub TestSayable : Option From.Test → Type 0
  TestSayable None = Unit {0}
  TestSayable (Some test) = IsDefined r.structs test.ty

  abbrev mutual
    pub CodeSayable : From.Code → Type 0
    CodeSayable (From.simple steps act) = StepsSayable steps × ActSayable act
    CodeSayable (From.clear line x ty) = LocalKept x ty × IsDefined r.structs ty
    CodeSayable (From.block codes) = CodesSayable codes
    CodeSayable (From.branch steps test a b) = StepsSayable steps × TestSayable (Some test) × CodeSayable a × CodeSayable b
    CodeSayable (From.loop line steps test third a) = StepsSayable steps × TestSayable test × CodeSayable third × CodeSayable a
    CodeSayable (From.repeat line a steps test) = CodeSayable a × StepsSayable steps × TestSayable (Some test)
    CodeSayable (From.break line) = Unit {0}
    CodeSayable (From.continue line) = Unit {0}

    pub CodesSayable : From.Codes → Type 0
    CodesSayable From.done = Unit {0}
    CodesSayable (From.then c rest) = CodeSayable c × CodesSayable rest
