-- Region code: what a program's translation is. An expression is steps one after another. A step does an operation on the values in
-- temporary h and in those behind it, and leaves what it gives in h; h is as many as there are operands below. A fork goes one of
-- two ways. A statement is steps and what is then done with the values in the temporaries from 0 on. Between statements no value
-- waits in a temporary, so loops, jumps and returns are in statements alone. An operation names the types that its operands are
-- read by. Nothing here has a number of its own: a function's points are its entry and then the steps, acts, branches and jumps in
-- the order of this text, so each stands where it is counted; a site is a place among the stores.
use Rattle.std.specs.Prelude.{ℕ, suc, ◌+◌, ℤ, Bool, true, false, List, length, Option, Some, None}
use Rattle.rc_core.specs.declared.ty.NumberType.{NumberType}
use Rattle.rc_core.specs.declared.ty.Signedness.{Signedness}
use Rattle.rc_core.specs.declared.operators.UnaryOperator.{UnaryOperator}
use Rattle.rc_core.specs.declared.operators.Operator.{Operator}
use Rattle.rc_core.specs.declared.operators.Direction.{Direction}
use Rattle.rc_core.specs.declared.stmt.Change.{Change}
use Rattle.rc_core.specs.Types.{Ty}
use Rattle.rc_core.specs.Typing.{is_reference}
use Rattle.rc_core.specs.Layout.{Layout}
use Rattle.rc_core.specs.Programs.{Struct, Global}

-- a temporary of each number and kind: numbers apart from regions and pointers
pub data Kind : Type 0 where
  numeric : Kind
  regional : Kind

abbrev pub kind_if : Bool → Kind
kind_if true = regional
kind_if false = numeric

-- of a type: regional just where its values have region variables
abbrev pub kind_of : Ty → Kind
kind_of ty = kind_if (is_reference ty)

-- the length of an array field, the cells of one of its elements, and the type of the index
pub record Index : Type 0 where
  pub count : ℕ
  pub stride : ℕ
  pub kind : Signedness

-- a cell, from a pointer on: the pointer stands in a temporary, and behind it the shift, if any, and the indices
pub record Access : Type 0 where
  -- what the pointer points to, and what the cell holds
  pub element : Ty
  pub cell : Ty
  pub shift : Option Signedness
  pub offset : ℕ
  pub indices : List Index

abbrev pub shift_width : Option Signedness → ℕ
shift_width None = 0
shift_width (Some s) = 1

-- how many temporaries it reads
abbrev pub width : Access → ℕ
width a = suc (shift_width a.shift + length a.indices)

pub data Operation : Type 0 where
  constant : Signedness → ℤ → Operation
  null : Operation
  -- the pointer to the first element of an object of region 0: a global, or behind the globals a string
  static : (object : ℕ) → Operation
  copy : (local : ℕ) → Operation
  load : Access → Operation
  -- each names its operands' types
  step : Direction → (pointer number : Ty) → Operation
  step_from : (number pointer : Ty) → Operation
  unary : UnaryOperator → Signedness → Operation
  -- with the type of the right operand: a shift's count has its own
  binary : Operator → Signedness → (right : Ty) → Operation
  convert : (from to : NumberType) → Operation
  not_zero : (operand : Ty) → Operation
  -- 0 or 1, by whether an operand of this type is neither zero nor null
  truth : (operand : Ty) → Operation
  is_null : (wanted : Bool) → (operand : Ty) → Operation
  same : (wanted : Bool) → (operand : Ty) → Operation
  call : (function : ℕ) → (parameters : List Ty) → Operation
  new_region : Operation
  new_subregion : Operation
  region_of : (operand : Ty) → Operation
  allocate : Ty → Layout → Operation
  allocate_array : Ty → Layout → Operation
  putchar : Operation
  getchar : Operation

mutual
  pub data Step : Type 0 where
    -- into the temporary, of the kind of the type
    set : (line temporary : ℕ) → Ty → Operation → Step
    -- by the temporary, of the first type, the operations of one way, which leave a value of the second in its place
    fork : (line temporary : ℕ) → (test result : Ty) → (yes no : Steps) → Step

  pub data Steps : Type 0 where
    none : Steps
    more : Step → Steps → Steps

abbrev pub both : Steps → Steps → Steps
both none b = b
both (more s a) b = more s (both a b)

abbrev pub one : Step → Steps
one s = more s none

-- what is done with values in the temporaries from 0 on
pub data Act : Type 0 where
  -- no operation
  drop : Act
  -- a call of a function without a result
  perform : (line function : ℕ) → (parameters : List Ty) → Act
  assign : (line local : ℕ) → Ty → Act
  store : (line : ℕ) → Access → Act
  -- the new operand stands behind the place's temporaries, the old value comes behind it; with the operand's type
  update : (line : ℕ) → Access → Change → Ty → Act
  -- cells of these kinds; the right place's temporaries stand behind the left one's
  move : (line : ℕ) → (cells : Layout) → (left right : Access) → Act
  delete : (line : ℕ) → Act
  leave : (line : ℕ) → Option Ty → Act

-- a branch on temporary 0, of this type, that is taken where the value is true, or where it isn't
pub record Test : Type 0 where
  pub line : ℕ
  pub ty : Ty
  pub wanted : Bool

mutual
  pub data Code : Type 0 where
    simple : Steps → Act → Code
    clear : (line local : ℕ) → Ty → Code
    block : Codes → Code
    branch : Steps → Test → (yes no : Code) → Code
    -- a condition or none before the body, and what runs behind it
    loop : (line : ℕ) → Steps → Option Test → (third body : Code) → Code
    -- a condition behind the body
    repeat : (line : ℕ) → (body : Code) → Steps → Test → Code
    break : (line : ℕ) → Code
    continue : (line : ℕ) → Code

  pub data Codes : Type 0 where
    done : Codes
    then : Code → Codes → Codes

pub record Routine : Type 0 where
  pub parameters : ℕ
  pub locals : List Ty
  pub result : Option Ty
  pub deletes : Bool
  pub line : ℕ
  pub body : Code

pub record Rlang : Type 0 where
  pub structs : List Struct
  pub globals : List Global
  pub strings : List (List ℕ)
  pub functions : List Routine
  pub main : ℕ
