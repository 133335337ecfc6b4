-- What region code names is there. A local, a function, an object of region 0 and a struct have the numbers of such as there are, also
-- where only the type of a NULL names them; a constant is of its type; a call names the types of its function's parameters, and a call for
-- a value is of a function that gives one. What is loaded or stored is one cell of the element that the pointer points to: its array
-- fields have elements and cells, and lie in the element, each in one element of that before it; and whichever elements are chosen, the
-- cells there are those of the type that is named, annotations included. What is compared with null or looked up is a pointer or a region,
-- what is negated a number, and a unary `+` is no operation. A break and a continue stand in a loop, and none stands in what runs behind a
-- loop's body.
use Rattle.std.specs.Prelude.{◌≡◌, ◌<◌, ◌≤◌, ℕ, ◌+◌, ◌*◌, Bool, true, false, not, IsTrue, List, [], ◌∷◌, ◌++◌, length, map, take, drop as behind, get_or, slice_get, Option, Some, None, is_some, option_map}
use Rattle.rc_base.specs.Limits.{most_copied_cells}
use Rattle.rc_core.specs.declared.ty.NumberType.{NumberType}
use Rattle.rc_core.specs.declared.operators.UnaryOperator.TheVariants.{Plus}
use Rattle.rc_core.specs.declared.stmt.Change.{Change}
use Rattle.rc_core.specs.declared.stmt.Change.TheVariants.{Compute, Step as Stepping}
use Rattle.rc_core.specs.Arithmetic.{type_of}
use Rattle.rc_core.specs.Types.{Ty, int, char, struct}
use Rattle.rc_core.specs.Layout.{Layout, cells, size}
use Rattle.rc_core.specs.Typing.{fits, number, value_type, is_pointer, is_reference, is_struct, IsDefined}
use Rattle.rc_core.specs.Programs.{Struct, Global}
use Rattle.rc_rlang.specs.RegionCode.{Index, Access, Operation, constant, null, static, copy, load, step, step_from, unary, convert, not_zero, is_null, same, call, region_of, allocate, allocate_array, Step, set, fork, Steps, none, more, Act, drop, perform, assign, store, update, move, delete, leave, Code, simple, clear, block, branch, loop, repeat, break, continue, Codes, done, then, Routine, Rlang}

-- array fields one within another, the outermost first: each has elements, these have cells, and all of them lie in so many
abbrev pub AreNested : (room : ℕ) → List Index → Type 0
AreNested room [] = Unit {0}
AreNested room (i ∷ is) = (1 ≤ i.count) × (1 ≤ i.stride) × (i.count * i.stride ≤ room) × AreNested i.stride is

-- an element of each array field
abbrev pub AreElements : List Index → List ℕ → Type 0
AreElements [] [] = Unit {0}
AreElements [] (n ∷ ns) = ⊥
AreElements (i ∷ is) [] = ⊥
AreElements (i ∷ is) (n ∷ ns) = (n < i.count) × AreElements is ns

abbrev pub cells_before : List Index → List ℕ → ℕ
cells_before [] ns = 0
cells_before (i ∷ is) [] = 0
cells_before (i ∷ is) (n ∷ ns) = n * i.stride + cells_before is ns

-- the cells of a layout from a place on are those of a type
abbrev pub HasThere : List Struct → (whole : Layout) → (at : ℕ) → Ty → Type 0
HasThere structs whole at ty = take (size structs ty) (behind at whole) ≡ cells structs ty

-- the type of an object of region 0: a global, or behind the globals a string
abbrev pub object_type : Rlang → ℕ → Ty
object_type r g = get_or (map (λ (d : Global). d.ty) r.globals ++ map (λ (bytes : List ℕ). char) r.strings) g int

abbrev pub given_type : Option Ty → Ty
given_type None = int
given_type (Some ty) = value_type ty

abbrev pub routine_type : Option Routine → Ty
routine_type None = int
routine_type (Some f) = given_type f.result

-- the type of the value that a function gives
abbrev pub result_type : Rlang → ℕ → Ty
result_type r f = routine_type (slice_get r.functions f)

module _ (r : Rlang) where
  pub record AccessStands (a : Access) : Type 0 where
    pub nested : AreNested (size r.structs a.element) a.indices
    pub there : (chosen : List ℕ) → AreElements a.indices chosen → HasThere r.structs (cells r.structs a.element) (a.offset + cells_before a.indices chosen) a.cell

  -- of one cell
  abbrev pub CellStands : Access → Type 0
  CellStands a = AccessStands a × IsTrue (not (is_struct a.cell))

  -- a function with these parameters, which gives a value or doesn't
  abbrev pub IsCalled : (function : ℕ) → List Ty → (gives : Bool) → Type 0
  IsCalled f tys gives = (g : Routine) × ((slice_get r.functions f ≡ Some g) × (tys ≡ take g.parameters g.locals) × (is_some g.result ≡ gives))

  -- of a function with these locals and this result
  module _ (locals : List Ty) (result : Option Ty) where
    abbrev pub OperationStands : (value : Ty) → Operation → Type 0
    OperationStands ty (constant s n) = IsTrue (fits (type_of s) n)
    OperationStands ty null = IsDefined r.structs ty
    OperationStands ty (static g) = g < length r.globals + length r.strings
    OperationStands ty (copy x) = x < length locals
    OperationStands ty (load a) = CellStands a
    OperationStands ty (step direction pointed n) = IsTrue (is_pointer pointed)
    OperationStands ty (step_from n pointed) = IsTrue (is_pointer pointed)
    OperationStands ty (unary operator s) = ¬ (operator ≡ Plus)
    OperationStands ty (convert from to) = ¬ (from ≡ to)
    OperationStands ty (not_zero of) = (k : NumberType) × (of ≡ number k)
    OperationStands ty (is_null wanted of) = IsTrue (is_reference of)
    OperationStands ty (same wanted of) = IsTrue (is_reference of)
    OperationStands ty (call f tys) = IsCalled f tys true
    OperationStands ty (region_of of) = IsTrue (is_pointer of)
    OperationStands ty (allocate made layout) = IsDefined r.structs made × (layout ≡ cells r.structs made)
    OperationStands ty (allocate_array made layout) = IsDefined r.structs made × (layout ≡ cells r.structs made)
    OperationStands ty op = Unit {0}

    abbrev mutual
      pub StepStands : Step → Type 0
      StepStands (set line h ty op) = OperationStands ty op
      StepStands (fork line h test result a b) = StepsStand a × StepsStand b

      pub StepsStand : Steps → Type 0
      StepsStand none = Unit {0}
      StepsStand (more s rest) = StepStands s × StepsStand rest

    -- a number is computed with, and a pointer stepped
    abbrev pub ChangeStands : Change → (cell : Ty) → Type 0
    ChangeStands (Compute from operator s) cell = cell ≡ number from
    ChangeStands (Stepping direction) cell = IsTrue (is_pointer cell)

    abbrev pub ActStands : Act → Type 0
    ActStands drop = Unit {0}
    ActStands (perform line f tys) = IsCalled f tys false
    ActStands (assign line x ty) = slice_get locals x ≡ Some ty
    ActStands (store line a) = CellStands a
    ActStands (update line a change ty) = AccessStands a × ChangeStands change a.cell
    ActStands (move line layout left right) =
        (s : ℕ) × ((s < length r.structs) × (size r.structs (struct s) ≤ most_copied_cells) × (layout ≡ cells r.structs (struct s)) × (left.cell ≡ struct s) × (right.cell ≡ struct s) × AccessStands left × AccessStands right)
    ActStands (delete line) = Unit {0}
    ActStands (leave line ty) = ty ≡ option_map value_type result

    abbrev mutual
      pub CodeStands : (looping : Bool) → Code → Type 0
      CodeStands looping (simple steps act) = StepsStand steps × ActStands act
      CodeStands looping (clear line x ty) = slice_get locals x ≡ Some ty
      CodeStands looping (block codes) = CodesStand looping codes
      CodeStands looping (branch steps test a b) = StepsStand steps × CodeStands looping a × CodeStands looping b
      CodeStands looping (loop line steps test third a) = StepsStand steps × CodeStands false third × CodeStands true a
      CodeStands looping (repeat line a steps test) = CodeStands true a × StepsStand steps
      CodeStands looping (break line) = IsTrue looping
      CodeStands looping (continue line) = IsTrue looping

      pub CodesStand : (looping : Bool) → Codes → Type 0
      CodesStand looping done = Unit {0}
      CodesStand looping (then c rest) = CodeStands looping c × CodesStand looping rest
