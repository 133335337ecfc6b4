-- The rules of operators: which sorts they take, and what they give. Each table ends with the sorts that it refuses.
use Rattle.std.specs.Prelude.{ℕ, Option, Some, None, Bool, true, false, ◌&&◌, if◌then◌else◌}
use Rattle.rc_syntax.specs.declared.tree.Spot.{Spot}
use Rattle.rc_syntax.specs.declared.tree.BinaryOp.{BinaryOp}
use Rattle.rc_syntax.specs.declared.tree.BinaryOp.TheVariants as written
use Rattle.rc_syntax.specs.declared.tree.UnaryOp.{UnaryOp}
use Rattle.rc_syntax.specs.declared.tree.UnaryOp.TheVariants as before
use Rattle.rc_syntax.specs.declared.tree.CastType.{CastType}
use Rattle.rc_syntax.specs.declared.tree.CastType.TheVariants as cast
use Rattle.rc_core.specs.declared.ty.Note.TheVariants.{Plain}
use Rattle.rc_core.specs.declared.ty.NumberType.{NumberType}
use Rattle.rc_core.specs.declared.ty.NumberType.TheVariants.{Int, Unsigned, Char}
use Rattle.rc_core.specs.declared.ty.Signedness.{Signedness}
use Rattle.rc_core.specs.declared.operators.Operator.{Operator}
use Rattle.rc_core.specs.declared.operators.Operator.TheVariants.{Multiply, Divide, Remainder, Add, Subtract, ShiftLeft, ShiftRight, Less, Greater, LessEqual, GreaterEqual, Equal, NotEqual, And, Xor, Or}
use Rattle.rc_core.specs.declared.operators.UnaryOperator.{UnaryOperator}
use Rattle.rc_core.specs.declared.operators.UnaryOperator.TheVariants.{Negate, Plus, Complement}
use Rattle.rc_core.specs.declared.operators.Direction.TheVariants.{Forward, Backward}
use Rattle.rc_core.specs.declared.stmt.Change.{Change}
use Rattle.rc_core.specs.declared.stmt.Change.TheVariants.{Compute, Step}
use Rattle.rc_core.specs.Types.{Ty, int, pointer}
use Rattle.rc_core.specs.Programs as p
use Rattle.rc_core.specs.Arithmetic.{type_of}
use Rattle.rc_core.specs.Typing.{number, arithmetic, promoted, is_shift, result_type}
use Rattle.rc_deletes.specs.declared.fault.Refusal.TheVariants.{Mistyped}
use Rattle.rc_deletes.specs.declared.sort.Sort.{Sort}
use Rattle.rc_deletes.specs.declared.sort.Sort.TheVariants.{Number, Region, Pointer, Null}
use Rattle.rc_deletes.specs.Judged.{Judged, Holds, with_part, fails}
use Rattle.rc_deletes.specs.Kinds.{sort_of, sort_of_type, same_types}
use Rattle.rc_deletes.specs.Values.{Typed, Meant, a_value, a_place, in_arithmetic, promoted_value, converted, met, is_truthy}

-- a value of a type without an annotation on its last star
abbrev pub result : ℕ → Ty → p.Expr → Typed
result line t e = record { line = line; ty = Some t; code = e }

-- what an operator computes in, and what its right side is converted to: a shift looks at its left side alone, and its
-- right side keeps its own promoted type
abbrev pub computed_in : (shift : Bool) → (left right : NumberType) → Signedness
computed_in true a b = promoted a
computed_in false a b = met a b

abbrev pub right_in : (shift : Bool) → (left right : NumberType) → Signedness
right_in true a b = promoted b
right_in false a b = met a b

abbrev pub computation : ℕ → Operator → NumberType → Typed → NumberType → Typed → Typed
computation line op a v b w = result line (result_type op (computed_in (is_shift op) a b))
    (p.binary line op (computed_in (is_shift op) a b) (in_arithmetic a (computed_in (is_shift op) a b) v) (in_arithmetic b (right_in (is_shift op) a b) w))

-- operators on numbers alone
abbrev pub numbers : Spot → Operator → Sort → Typed → Sort → Typed → Judged Typed
numbers at op (Number a) v (Number b) w = Holds (computation at.line op a v b w)
numbers at op s v t w = fails at Mistyped

-- a pointer's own type stays through a step
abbrev pub sum : Spot → Sort → Typed → Sort → Typed → Judged Typed
sum at (Number a) v (Number b) w = Holds (computation at.line Add a v b w)
sum at Pointer v (Number b) w = Holds (record { line = at.line; ty = v.ty; code = p.step at.line Forward v.code (promoted_value b w) })
sum at (Number a) v Pointer w = Holds (record { line = at.line; ty = w.ty; code = p.step_from at.line (promoted_value a v) w.code })
sum at s v t w = fails at Mistyped

abbrev pub difference : Spot → Sort → Typed → Sort → Typed → Judged Typed
difference at (Number a) v (Number b) w = Holds (computation at.line Subtract a v b w)
difference at Pointer v (Number b) w = Holds (record { line = at.line; ty = v.ty; code = p.step at.line Backward v.code (promoted_value b w) })
difference at s v t w = fails at Mistyped

abbrev pub equality_operator : (wanted : Bool) → Operator
equality_operator true = Equal
equality_operator false = NotEqual

-- two numbers, two pointers of one type, two regions, or one of these beside the word `NULL`
abbrev pub equality : Spot → (wanted same : Bool) → Sort → Typed → Sort → Typed → Judged Typed
equality at wanted same (Number a) v (Number b) w = Holds (computation at.line (equality_operator wanted) a v b w)
equality at wanted true Pointer v Pointer w = Holds (result at.line int (p.same at.line wanted v.code w.code))
equality at wanted same Region v Region w = Holds (result at.line int (p.same at.line wanted v.code w.code))
equality at wanted same Pointer v Null w = Holds (result at.line int (p.is_null at.line wanted v.code))
equality at wanted same Region v Null w = Holds (result at.line int (p.is_null at.line wanted v.code))
equality at wanted same Null v Pointer w = Holds (result at.line int (p.is_null at.line wanted w.code))
equality at wanted same Null v Region w = Holds (result at.line int (p.is_null at.line wanted w.code))
equality at wanted same s v t w = fails at Mistyped

abbrev pub equality_of : Spot → (wanted : Bool) → Typed → Typed → Judged Typed
equality_of at wanted v w = equality at wanted (same_types v.ty w.ty) (sort_of v.ty) v (sort_of w.ty) w

abbrev pub conjunction : Spot → Typed → Typed → Judged Typed
conjunction at v w = if is_truthy (sort_of v.ty) && is_truthy (sort_of w.ty) then Holds (result at.line int (p.and at.line v.code w.code)) else fails at Mistyped

abbrev pub disjunction : Spot → Typed → Typed → Judged Typed
disjunction at v w = if is_truthy (sort_of v.ty) && is_truthy (sort_of w.ty) then Holds (result at.line int (p.or at.line v.code w.code)) else fails at Mistyped

abbrev pub numbers_of : Spot → Operator → Typed → Typed → Judged Typed
numbers_of at op v w = numbers at op (sort_of v.ty) v (sort_of w.ty) w

abbrev pub binary_rule : Spot → BinaryOp → Typed → Typed → Judged Typed
binary_rule at written.LogicalOr v w = disjunction at v w
binary_rule at written.LogicalAnd v w = conjunction at v w
binary_rule at written.BitOr v w = numbers_of at Or v w
binary_rule at written.BitXor v w = numbers_of at Xor v w
binary_rule at written.BitAnd v w = numbers_of at And v w
binary_rule at written.Equal v w = equality_of at true v w
binary_rule at written.NotEqual v w = equality_of at false v w
binary_rule at written.Less v w = numbers_of at Less v w
binary_rule at written.Greater v w = numbers_of at Greater v w
binary_rule at written.LessEqual v w = numbers_of at LessEqual v w
binary_rule at written.GreaterEqual v w = numbers_of at GreaterEqual v w
binary_rule at written.ShiftLeft v w = numbers_of at ShiftLeft v w
binary_rule at written.ShiftRight v w = numbers_of at ShiftRight v w
binary_rule at written.Add v w = sum at (sort_of v.ty) v (sort_of w.ty) w
binary_rule at written.Subtract v w = difference at (sort_of v.ty) v (sort_of w.ty) w
binary_rule at written.Multiply v w = numbers_of at Multiply v w
binary_rule at written.Divide v w = numbers_of at Divide v w
binary_rule at written.Remainder v w = numbers_of at Remainder v w

-- the arms of `?:` are numbers, and meet as operands do
abbrev pub choice : Spot → Bool → p.Expr → Sort → Typed → Sort → Typed → Judged Typed
choice at true test (Number a) v (Number b) w = Holds (result at.line (arithmetic (met a b)) (p.choose at.line test (in_arithmetic a (met a b) v) (in_arithmetic b (met a b) w)))
choice at truthy test s v t w = fails at Mistyped

abbrev pub conditional_rule : Spot → Typed → Typed → Typed → Judged Typed
conditional_rule at c v w = choice at (is_truthy (sort_of c.ty)) c.code (sort_of v.ty) v (sort_of w.ty) w

abbrev pub sign_rule : Spot → UnaryOperator → Sort → Typed → Judged Typed
sign_rule at op (Number a) v = Holds (result at.line (arithmetic (promoted a)) (p.unary at.line op (promoted a) (promoted_value a v)))
sign_rule at op s v = fails at Mistyped

abbrev pub not_rule : Spot → Sort → Typed → Judged Typed
not_rule at (Number a) v = Holds (result at.line int (p.not_zero at.line v.code))
not_rule at Region v = Holds (result at.line int (p.is_null at.line true v.code))
not_rule at Pointer v = Holds (result at.line int (p.is_null at.line true v.code))
not_rule at s v = fails at Mistyped

-- what a pointer leads to
abbrev pub dereference_rule : Spot → Option Ty → p.Expr → Judged Meant
dereference_rule at (Some (pointer note t)) e = Holds (a_place (p.pointed e p.here) t)
dereference_rule at t e = fails at Mistyped

-- the address of a global that is no array, or of an element that a pointer leads to
abbrev pub address_rule : Spot → Meant → Judged Typed
address_rule at (a_place (p.global g p.here) t) = Holds (result at.line (pointer Plain t) (p.address at.line g))
address_rule at (a_place (p.indexed e i p.here) t) = Holds (result at.line (pointer Plain t) (p.step at.line Forward e i))
address_rule at m = fails at Mistyped

abbrev pub meaning_of_value : Judged Typed → Judged Meant
meaning_of_value judged = with_part judged (λ v. Holds (a_value v))

-- an operator before a value
abbrev pub unary_rule : Spot → UnaryOp → Typed → Judged Meant
unary_rule at before.Minus v = meaning_of_value (sign_rule at Negate (sort_of v.ty) v)
unary_rule at before.Plus v = meaning_of_value (sign_rule at Plus (sort_of v.ty) v)
unary_rule at before.Not v = meaning_of_value (not_rule at (sort_of v.ty) v)
unary_rule at before.Complement v = meaning_of_value (sign_rule at Complement (sort_of v.ty) v)
unary_rule at before.Dereference v = dereference_rule at v.ty v.code
unary_rule at before.Address v = fails at Mistyped

abbrev pub cast_type : CastType → NumberType
cast_type cast.Int = Int
cast_type cast.Unsigned = Unsigned
cast_type cast.Char = Char

abbrev pub cast_rule : Spot → NumberType → Sort → Typed → Judged Typed
cast_rule at to (Number from) v = Holds (result at.line (number to) (converted from to v))
cast_rule at to s v = fails at Mistyped

-- operators that may stand before `=`; the others never do
abbrev pub changing : BinaryOp → Option Operator
changing written.BitOr = Some Or
changing written.BitXor = Some Xor
changing written.BitAnd = Some And
changing written.ShiftLeft = Some ShiftLeft
changing written.ShiftRight = Some ShiftRight
changing written.Add = Some Add
changing written.Subtract = Some Subtract
changing written.Multiply = Some Multiply
changing written.Divide = Some Divide
changing written.Remainder = Some Remainder
changing op = None

-- what is done to the value of a place of a sort, and the value that it is done with
abbrev pub change_by : Option Operator → Sort → Sort → Typed → Option (Change × p.Expr)
change_by (Some op) (Number a) (Number b) w = Some (Compute a op (computed_in (is_shift op) a b), in_arithmetic b (right_in (is_shift op) a b) w)
change_by (Some Add) Pointer (Number b) w = Some (Step Forward, promoted_value b w)
change_by (Some Subtract) Pointer (Number b) w = Some (Step Backward, promoted_value b w)
change_by op s t w = None

abbrev pub change_of : BinaryOp → Ty → Typed → Option (Change × p.Expr)
change_of op t w = change_by (changing op) (sort_of_type t) (sort_of w.ty) w

-- the value of a local after such a change: the operation and the conversion back stand at the line of the statement
abbrev pub changed : (line : ℕ) → Typed → Change → p.Expr → p.Expr
changed line v (Compute from op s) e = converted (type_of s) from (record { line = line; ty = None; code = p.binary line op s (in_arithmetic from s v) e })
changed line v (Step direction) e = p.step line direction v.code e
