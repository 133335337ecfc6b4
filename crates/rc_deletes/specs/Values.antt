-- Values with their types, what an expression may be besides, and the conversions of numbers. A conversion is a node only
-- where the type changes, and stands at the line of the value that it converts.
use Rattle.std.specs.Prelude.{ℕ, Option, Some, None, Bool, true, false, if◌then◌else◌}
use Rattle.rc_syntax.specs.declared.tree.Spot.{Spot}
use Rattle.rc_syntax.specs.Tree as t
use Rattle.rc_core.specs.declared.ty.NumberType.{NumberType}
use Rattle.rc_core.specs.declared.ty.NumberType.TheVariants.{Int, Unsigned, Char}
use Rattle.rc_core.specs.declared.ty.Signedness.{Signedness}
use Rattle.rc_core.specs.declared.ty.Signedness.TheVariants.{Signed, Unsigned as Wrapping}
use Rattle.rc_core.specs.Arithmetic.{type_of}
use Rattle.rc_core.specs.Types.{Ty}
use Rattle.rc_core.specs.Programs as p
use Rattle.rc_core.specs.Typing.{value_type, promoted}
use Rattle.rc_deletes.specs.declared.fault.Refusal.TheVariants.{Mistyped}
use Rattle.rc_deletes.specs.declared.sort.Sort.{Sort}
use Rattle.rc_deletes.specs.declared.sort.Sort.TheVariants.{Number, Region, Pointer, Null, Struct}
use Rattle.rc_deletes.specs.Judged.{Judged, Holds, with_part, fails}
use Rattle.rc_deletes.specs.Kinds.{sort_of, sort_of_type, same_types}

-- what computes a value, its type (none for the word `NULL`), and the line where it begins
pub record Typed : Type 0 where
  pub line : ℕ
  pub ty : Option Ty
  pub code : p.Expr

-- a value of a type has no annotation on the last star
abbrev pub typed : ℕ → Ty → p.Expr → Typed
typed line t e = record { line = line; ty = Some (value_type t); code = e }

-- an expression is a value, or stands for a local, for a place in memory, or for an array field of the struct at a place
pub data Meant : Type 0 where
  a_value : Typed → Meant
  a_variable : (number : ℕ) → Ty → Meant
  a_place : p.Place → Ty → Meant
  an_array : p.Place → (structure field : ℕ) → Ty → Meant

abbrev pub spot_of : t.Expr → Spot
spot_of (t.number at n u) = at
spot_of (t.character at c) = at
spot_of (t.string at s) = at
spot_of (t.null at) = at
spot_of (t.eof at) = at
spot_of (t.variable name) = name.spot
spot_of (t.call name args) = name.spot
spot_of (t.ralloc at r n) = at
spot_of (t.rarrayalloc at r k n) = at
spot_of (t.index at a k) = at
spot_of (t.member at a n) = at
spot_of (t.arrow at a n) = at
spot_of (t.unary at op a) = at
spot_of (t.cast at to a) = at
spot_of (t.binary at op a b) = at
spot_of (t.conditional at c a b) = at

abbrev pub read_place : Spot → Sort → p.Place → Ty → Judged Typed
read_place at Struct place t = fails at Mistyped
read_place at s place t = Holds (typed at.line t (p.read at.line place))

-- where a value is wanted: a struct and an array field are none
abbrev pub as_value : Spot → Meant → Judged Typed
as_value at (a_value v) = Holds v
as_value at (a_variable x t) = Holds (typed at.line t (p.local at.line x))
as_value at (a_place place t) = read_place at (sort_of_type t) place t
as_value at (an_array place s f t) = fails at Mistyped

-- an expression that is judged, as a value
abbrev pub valued : t.Expr → Judged Meant → Judged Typed
valued e judged = with_part judged (as_value (spot_of e))

abbrev pub converted : (from to : NumberType) → Typed → p.Expr
converted Int Int v = v.code
converted Unsigned Unsigned v = v.code
converted Char Char v = v.code
converted from to v = p.convert v.line from to v.code

-- a number in `int` or `unsigned`
abbrev pub in_arithmetic : NumberType → Signedness → Typed → p.Expr
in_arithmetic from s v = converted from (type_of s) v

abbrev pub promoted_value : NumberType → Typed → p.Expr
promoted_value from v = in_arithmetic from (promoted from) v

abbrev pub joined : Signedness → Signedness → Signedness
joined Signed s = s
joined Wrapping s = Wrapping

-- what two numbers are computed in
abbrev pub met : NumberType → NumberType → Signedness
met a b = joined (promoted a) (promoted b)

-- a value where one of a sort is wanted: none where it doesn't fit
abbrev pub fitted_by : Sort → Sort → Bool → Typed → Option p.Expr
fitted_by (Number to) (Number from) same v = Some (converted from to v)
fitted_by Region Region same v = Some v.code
fitted_by Region Null same v = Some v.code
fitted_by Pointer Null same v = Some v.code
fitted_by Pointer Pointer true v = Some v.code
fitted_by wanted sort same v = None

-- an assigned value, initialiser, argument or returned value
abbrev pub fitted : Ty → Typed → Option p.Expr
fitted t v = fitted_by (sort_of_type t) (sort_of v.ty) (same_types (Some t) v.ty) v

-- what a condition looks at
abbrev pub is_truthy : Sort → Bool
is_truthy (Number k) = true
is_truthy Region = true
is_truthy Pointer = true
is_truthy Null = false
is_truthy Struct = false

abbrev pub condition_rule : Spot → Typed → Judged p.Expr
condition_rule at v = if is_truthy (sort_of v.ty) then Holds v.code else fails at Mistyped
