-- The rules of expressions: where their violations stand.
use Rattle.std.specs.Prelude.{ℕ, ◌+◌, ◌<◌, ◌≤◌, List, [], ◌∷◌, ◌++◌, Option, Some, None, Bool, true, false, not, nat_eq, is_some, is_none, length, ◌&&◌, ◌||◌, slice_get, unwrap_or, if◌then◌else◌}
use Rattle.std.proofs.Common.{arith}
use Rattle.rc_syntax.specs.declared.tree.Spot.{Spot}
use Rattle.rc_syntax.specs.declared.tree.Name.{Name}
use Rattle.rc_syntax.specs.declared.tree.Base.{Base}
use Rattle.rc_syntax.specs.declared.tree.Base.TheVariants as base
use Rattle.rc_syntax.specs.declared.tree.BinaryOp.{BinaryOp}
use Rattle.rc_syntax.specs.declared.tree.BinaryOp.TheVariants as written
use Rattle.rc_syntax.specs.declared.tree.UnaryOp.{UnaryOp}
use Rattle.rc_syntax.specs.declared.tree.UnaryOp.TheVariants as before
use Rattle.rc_syntax.specs.Tree as t
use Rattle.rc_core.specs.declared.ty.NumberType.{NumberType}
use Rattle.rc_core.specs.declared.operators.Operator.{Operator}
use Rattle.rc_core.specs.declared.operators.Operator.TheVariants.{Multiply, Divide, Remainder, Less, Greater, LessEqual, GreaterEqual, And, Xor, Or, ShiftLeft, ShiftRight}
use Rattle.rc_core.specs.declared.operators.UnaryOperator.{UnaryOperator}
use Rattle.rc_core.specs.declared.operators.UnaryOperator.TheVariants.{Negate, Complement, Plus}
use Rattle.rc_core.specs.Types.{Ty, int, region, struct, pointer}
use Rattle.rc_core.specs.Programs as p
use Rattle.rc_deletes.specs.declared.fault.Refusal.TheVariants.{Unknown, Mistyped, Arity}
use Rattle.rc_deletes.specs.declared.sort.Sort.{Sort}
use Rattle.rc_deletes.specs.declared.sort.Sort.TheVariants.{Number, Region, Pointer, Null, Struct}
use Rattle.rc_deletes.specs.Judged.{Judged, Holds, with_part, both, fails}
use Rattle.rc_deletes.specs.Kinds.{place_of, written_type, sort_of, sort_of_type, same_types}
use Rattle.rc_deletes.specs.Scopes.{Context, struct_names, Scope, Meaning, a_local, a_global, a_function, a_builtin, meaning_in}
use Rattle.rc_deletes.specs.Values.{Typed, Meant, a_value, a_variable, a_place, an_array, valued, as_value, read_place, spot_of, fitted, is_truthy}
use Rattle.rc_deletes.specs.Operators.{numbers, sum, difference, equality, binary_rule, choice, conditional_rule, sign_rule, not_rule, dereference_rule, address_rule, meaning_of_value, unary_rule, cast_type, cast_rule}
use Rattle.rc_deletes.specs.Calls.{Callee, callee_rule, is_defined, is_function, parameters, gives, fitted_arguments, call_rule, call_value, call_statement, called_alone, allocation, array_allocation}
use Rattle.rc_deletes.specs.Expressions.{strings_in, name_rule, found, base_rule, type_rule, field_named, fields_at, field_rule, member_rule, arrow_rule, indexed_part, element_behind, element, index_by, index_rule, unary_meant, meant, values, value}
use Rattle.rc_judgements.proofs.Ordered.{Inside, Sound, part_sound, parts_sound, both_sound, ruled_three}

-- the nodes of an expression stand between two places, and those of each part before those of the next
abbrev pub SpansBase : ℕ → ℕ → Base → Type 0
SpansBase a b (base.Struct at name) = Inside a b name.spot
SpansBase a b n = Unit {0}

abbrev mutual
  pub Spans : ℕ → ℕ → t.Expr → Type 0
  Spans a b (t.number at n u) = Inside a b at
  Spans a b (t.character at c) = Inside a b at
  Spans a b (t.string at bytes) = Inside a b at
  Spans a b (t.null at) = Inside a b at
  Spans a b (t.eof at) = Inside a b at
  Spans a b (t.variable name) = Inside a b name.spot
  Spans a b (t.call name args) = (a ≤ name.spot.place) × (name.spot.place < b) × SpansAll (name.spot.place + 1) b args
  Spans a b (t.ralloc at r n) = (a ≤ at.place) × (at.place < b) × (m : ℕ) × (a ≤ m) × (m ≤ b) × Spans a m r × SpansBase m b n.base
  Spans a b (t.rarrayalloc at r k n) = (a ≤ at.place) × (at.place < b) × (m : ℕ) × (a ≤ m) × (o : ℕ) × (m ≤ o) × (o ≤ b) × Spans a m r × Spans m o k × SpansBase o b n.base
  Spans a b (t.index at x k) = (a ≤ at.place) × (at.place < b) × (m : ℕ) × (a ≤ m) × (m ≤ b) × Spans a m x × Spans m b k
  Spans a b (t.member at x name) = (a ≤ at.place) × (at.place < b) × Inside a b name.spot × Spans a b x
  Spans a b (t.arrow at x name) = (a ≤ at.place) × (at.place < b) × Inside a b name.spot × Spans a b x
  Spans a b (t.unary at op x) = (a ≤ at.place) × (at.place < b) × Spans a b x
  Spans a b (t.cast at to x) = (a ≤ at.place) × (at.place < b) × Spans a b x
  Spans a b (t.binary at op x y) = (a ≤ at.place) × (at.place < b) × (m : ℕ) × (a ≤ m) × (m ≤ b) × Spans a m x × Spans m b y
  Spans a b (t.conditional at c x y) = (a ≤ at.place) × (at.place < b) × (m : ℕ) × (a ≤ m) × (o : ℕ) × (m ≤ o) × (o ≤ b) × Spans a m c × Spans m o x × Spans o b y

  pub SpansAll : ℕ → ℕ → t.Exprs → Type 0
  SpansAll a b t.none = Unit {0}
  SpansAll a b (t.more e rest) = (m : ℕ) × (a ≤ m) × (m ≤ b) × Spans a m e × SpansAll m b rest

pub spot_inside : (a b : ℕ) (e : t.Expr) → Spans a b e → Inside a b (spot_of e)
spot_inside a b (t.number at n u) h = h
spot_inside a b (t.character at c) h = h
spot_inside a b (t.string at bytes) h = h
spot_inside a b (t.null at) h = h
spot_inside a b (t.eof at) h = h
spot_inside a b (t.variable name) h = h
spot_inside a b e h = (h.0, h.1)

-- values
read_sound : (a b : ℕ) (at : Spot) (s : Sort) (place : p.Place) (u : Ty) → Inside a b at → Sound a b (read_place at s place u)
read_sound a b at Struct place u h = (h, tt, tt)
read_sound a b at s place u h = tt

pub value_sound : (a b : ℕ) (at : Spot) (m : Meant) → Inside a b at → Sound a b (as_value at m)
value_sound a b at (a_value v) h = tt
value_sound a b at (a_variable x u) h = tt
value_sound a b at (a_place place u) h = read_sound a b at (sort_of_type u) place u h
value_sound a b at (an_array place s f u) h = (h, tt, tt)

pub valued_sound : (a b : ℕ) (e : t.Expr) (x : Judged Meant) → Inside a b (spot_of e) → Sound a b x → Sound a b (valued e x)
valued_sound a b e x h k = part_sound a b x (as_value (spot_of e)) k (λ m. value_sound a b (spot_of e) m h)

pub if_sound : {A : Type 0} (a b : ℕ) (at : Spot) (c : Bool) (v : A) → Inside a b at → Sound a b (if c then Holds v else fails at Mistyped)
if_sound a b at true v h = tt
if_sound a b at false v h = (h, tt, tt)

-- operators
numbers_sound : (a b : ℕ) (at : Spot) (op : Operator) (s : Sort) (v : Typed) (z : Sort) (w : Typed) → Inside a b at → Sound a b (numbers at op s v z w)
numbers_sound a b at op (Number k) v (Number l) w h = tt
numbers_sound a b at op s v z w h = (h, tt, tt)

sum_sound : (a b : ℕ) (at : Spot) (s : Sort) (v : Typed) (z : Sort) (w : Typed) → Inside a b at → Sound a b (sum at s v z w)
sum_sound a b at (Number k) v (Number l) w h = tt
sum_sound a b at Pointer v (Number l) w h = tt
sum_sound a b at (Number k) v Pointer w h = tt
sum_sound a b at s v z w h = (h, tt, tt)

difference_sound : (a b : ℕ) (at : Spot) (s : Sort) (v : Typed) (z : Sort) (w : Typed) → Inside a b at → Sound a b (difference at s v z w)
difference_sound a b at (Number k) v (Number l) w h = tt
difference_sound a b at Pointer v (Number l) w h = tt
difference_sound a b at s v z w h = (h, tt, tt)

equality_sound : (a b : ℕ) (at : Spot) (wanted same : Bool) (s : Sort) (v : Typed) (z : Sort) (w : Typed) → Inside a b at → Sound a b (equality at wanted same s v z w)
equality_sound a b at wanted same (Number k) v (Number l) w h = tt
equality_sound a b at wanted true Pointer v Pointer w h = tt
equality_sound a b at wanted same Region v Region w h = tt
equality_sound a b at wanted same Pointer v Null w h = tt
equality_sound a b at wanted same Region v Null w h = tt
equality_sound a b at wanted same Null v Pointer w h = tt
equality_sound a b at wanted same Null v Region w h = tt
equality_sound a b at wanted same s v z w h = (h, tt, tt)

binary_sound : (a b : ℕ) (at : Spot) (op : BinaryOp) (v w : Typed) → Inside a b at → Sound a b (binary_rule at op v w)
binary_sound a b at written.LogicalOr v w h = if_sound a b at (is_truthy (sort_of v.ty) && is_truthy (sort_of w.ty)) _ h
binary_sound a b at written.LogicalAnd v w h = if_sound a b at (is_truthy (sort_of v.ty) && is_truthy (sort_of w.ty)) _ h
binary_sound a b at written.BitOr v w h = numbers_sound a b at Or (sort_of v.ty) v (sort_of w.ty) w h
binary_sound a b at written.BitXor v w h = numbers_sound a b at Xor (sort_of v.ty) v (sort_of w.ty) w h
binary_sound a b at written.BitAnd v w h = numbers_sound a b at And (sort_of v.ty) v (sort_of w.ty) w h
binary_sound a b at written.Equal v w h = equality_sound a b at true (same_types v.ty w.ty) (sort_of v.ty) v (sort_of w.ty) w h
binary_sound a b at written.NotEqual v w h = equality_sound a b at false (same_types v.ty w.ty) (sort_of v.ty) v (sort_of w.ty) w h
binary_sound a b at written.Less v w h = numbers_sound a b at Less (sort_of v.ty) v (sort_of w.ty) w h
binary_sound a b at written.Greater v w h = numbers_sound a b at Greater (sort_of v.ty) v (sort_of w.ty) w h
binary_sound a b at written.LessEqual v w h = numbers_sound a b at LessEqual (sort_of v.ty) v (sort_of w.ty) w h
binary_sound a b at written.GreaterEqual v w h = numbers_sound a b at GreaterEqual (sort_of v.ty) v (sort_of w.ty) w h
binary_sound a b at written.ShiftLeft v w h = numbers_sound a b at ShiftLeft (sort_of v.ty) v (sort_of w.ty) w h
binary_sound a b at written.ShiftRight v w h = numbers_sound a b at ShiftRight (sort_of v.ty) v (sort_of w.ty) w h
binary_sound a b at written.Add v w h = sum_sound a b at (sort_of v.ty) v (sort_of w.ty) w h
binary_sound a b at written.Subtract v w h = difference_sound a b at (sort_of v.ty) v (sort_of w.ty) w h
binary_sound a b at written.Multiply v w h = numbers_sound a b at Multiply (sort_of v.ty) v (sort_of w.ty) w h
binary_sound a b at written.Divide v w h = numbers_sound a b at Divide (sort_of v.ty) v (sort_of w.ty) w h
binary_sound a b at written.Remainder v w h = numbers_sound a b at Remainder (sort_of v.ty) v (sort_of w.ty) w h

choice_sound : (a b : ℕ) (at : Spot) (c : Bool) (test : p.Expr) (s : Sort) (v : Typed) (z : Sort) (w : Typed) → Inside a b at → Sound a b (choice at c test s v z w)
choice_sound a b at true test (Number k) v (Number l) w h = tt
choice_sound a b at c test s v z w h = (h, tt, tt)

pub meaning_sound : (a b : ℕ) (x : Judged Typed) → Sound a b x → Sound a b (meaning_of_value x)
meaning_sound a b x h = part_sound a b x (λ v. Holds (a_value v)) h (λ v. tt)

sign_sound : (a b : ℕ) (at : Spot) (op : UnaryOperator) (s : Sort) (v : Typed) → Inside a b at → Sound a b (sign_rule at op s v)
sign_sound a b at op (Number k) v h = tt
sign_sound a b at op s v h = (h, tt, tt)

not_sound : (a b : ℕ) (at : Spot) (s : Sort) (v : Typed) → Inside a b at → Sound a b (not_rule at s v)
not_sound a b at (Number k) v h = tt
not_sound a b at Region v h = tt
not_sound a b at Pointer v h = tt
not_sound a b at s v h = (h, tt, tt)

dereference_sound : (a b : ℕ) (at : Spot) (u : Option Ty) (e : p.Expr) → Inside a b at → Sound a b (dereference_rule at u e)
dereference_sound a b at (Some (pointer note u)) e h = tt
dereference_sound a b at u e h = (h, tt, tt)

address_sound : (a b : ℕ) (at : Spot) (m : Meant) → Inside a b at → Sound a b (address_rule at m)
address_sound a b at (a_place (p.global g p.here) u) h = tt
address_sound a b at (a_place (p.indexed e i p.here) u) h = tt
address_sound a b at m h = (h, tt, tt)

unary_sound : (a b : ℕ) (at : Spot) (op : UnaryOp) (v : Typed) → Inside a b at → Sound a b (unary_rule at op v)
unary_sound a b at before.Minus v h = meaning_sound a b (sign_rule at Negate (sort_of v.ty) v) (sign_sound a b at Negate (sort_of v.ty) v h)
unary_sound a b at before.Plus v h = meaning_sound a b (sign_rule at Plus (sort_of v.ty) v) (sign_sound a b at Plus (sort_of v.ty) v h)
unary_sound a b at before.Not v h = meaning_sound a b (not_rule at (sort_of v.ty) v) (not_sound a b at (sort_of v.ty) v h)
unary_sound a b at before.Complement v h = meaning_sound a b (sign_rule at Complement (sort_of v.ty) v) (sign_sound a b at Complement (sort_of v.ty) v h)
unary_sound a b at before.Dereference v h = dereference_sound a b at v.ty v.code h
unary_sound a b at before.Address v h = (h, tt, tt)

unary_meant_sound : (a b : ℕ) (at : Spot) (op : UnaryOp) (inner : Spot) (m : Meant) → Inside a b at → Inside a b inner → Sound a b (unary_meant at op inner m)
unary_meant_sound a b at before.Address inner m h k = meaning_sound a b (address_rule at m) (address_sound a b at m h)
unary_meant_sound a b at op inner m h k = part_sound a b (as_value inner m) (unary_rule at op) (value_sound a b inner m k) (λ v. unary_sound a b at op v h)

cast_sound : (a b : ℕ) (at : Spot) (to : NumberType) (s : Sort) (v : Typed) → Inside a b at → Sound a b (cast_rule at to s v)
cast_sound a b at to (Number k) v h = tt
cast_sound a b at to s v h = (h, tt, tt)

-- calls
pub callee_sound : (a b : ℕ) (at : Spot) (m : Option Meaning) → Inside a b at → Sound a b (callee_rule at m)
callee_sound a b at None h = (h, tt, tt)
callee_sound a b at (Some (a_local x u)) h = tt
callee_sound a b at (Some (a_global g u count)) h = tt
callee_sound a b at (Some (a_function k s)) h = tt
callee_sound a b at (Some (a_builtin f)) h = tt

call_sound : (a b : ℕ) (wanted : Bool) (at : Spot) (f : Callee) (vs : List Typed) → Inside a b at → Sound a b (call_rule wanted at f vs)
call_sound a b wanted at f vs h =
    ruled_three a b at (not (is_defined f)) (not (is_function f) || (not (is_some (fitted_arguments (parameters f) vs)) || (wanted && is_none (gives f)))) (not (nat_eq (length (parameters f)) (length vs))) Unknown Mistyped Arity
    (unwrap_or (fitted_arguments (parameters f) vs) []) (omega arith) (omega arith) h

call_value_sound : (a b : ℕ) (at : Spot) (f : Callee) (vs : List Typed) → Inside a b at → Sound a b (call_value at f vs)
call_value_sound a b at f vs h = part_sound a b (call_rule true at f vs) _ (call_sound a b true at f vs h) (λ es. tt)

pub call_statement_sound : (a b : ℕ) (at : Spot) (f : Callee) (vs : List Typed) → Inside a b at → Sound a b (call_statement at f vs)
call_statement_sound a b at f vs h = part_sound a b (call_rule false at f vs) (λ es. Holds (called_alone at.line f es)) (call_sound a b false at f vs h) (λ es. tt)

allocation_sound : (a b : ℕ) (at : Spot) (u : Ty) (r : Option p.Expr) → Inside a b at → Sound a b (allocation at u r)
allocation_sound a b at u None h = (h, tt, tt)
allocation_sound a b at u (Some r) h = tt

array_allocation_sound : (a b : ℕ) (at : Spot) (u : Ty) (r n : Option p.Expr) → Inside a b at → Sound a b (array_allocation at u r n)
array_allocation_sound a b at u (Some r) (Some n) h = tt
array_allocation_sound a b at u r n h = (h, tt, tt)

-- names, types and fields
name_sound : (a b : ℕ) (at : Spot) (m : Option Meaning) → Inside a b at → Sound a b (name_rule at m)
name_sound a b at None h = (h, tt, tt)
name_sound a b at (Some (a_local x u)) h = tt
name_sound a b at (Some (a_global g u None)) h = tt
name_sound a b at (Some (a_global g u (Some count))) h = tt
name_sound a b at (Some (a_function k s)) h = (h, tt, tt)
name_sound a b at (Some (a_builtin f)) h = (h, tt, tt)

found_sound : {A : Type 0} (a b : ℕ) (at : Spot) (o : Option A) → Inside a b at → Sound a b (found at o)
found_sound a b at None h = (h, tt, tt)
found_sound a b at (Some k) h = tt

pub base_sound : (context : Context) (a b : ℕ) (n : Base) → SpansBase a b n → Sound a b (base_rule context n)
base_sound context a b (base.Struct at name) h = part_sound a b (found name.spot (place_of (struct_names context) name.text)) (λ k. Holds tt) (found_sound a b name.spot (place_of (struct_names context) name.text) h) (λ k. tt)
base_sound context a b n h = tt

type_sound : (context : Context) (a b : ℕ) (n : t.TypeName) → SpansBase a b n.base → Sound a b (type_rule context n)
type_sound context a b n h = part_sound a b (base_rule context n.base) (λ u. Holds (written_type context.types n)) (base_sound context a b n.base h) (λ u. tt)

field_sound : (a b : ℕ) (name : Name) (place : p.Place) (s : ℕ) (f : Option (ℕ × p.Field)) → Inside a b name.spot → Sound a b (field_rule name place s f)
field_sound a b name place s None h = (h, tt, tt)
field_sound a b name place s (Some f) h = tt

member_sound : (context : Context) (a b : ℕ) (at : Spot) (name : Name) (m : Meant) → Inside a b at → Inside a b name.spot → Sound a b (member_rule context at name m)
member_sound context a b at name (a_place place (struct s)) h k = field_sound a b name place s (field_named (fields_at (slice_get context.shapes s)) name.text) k
member_sound context a b at name m h k = (h, tt, tt)

arrow_sound : (context : Context) (a b : ℕ) (at : Spot) (name : Name) (u : Option Ty) (e : p.Expr) → Inside a b at → Inside a b name.spot → Sound a b (arrow_rule context at name u e)
arrow_sound context a b at name (Some (pointer note (struct s))) e h k = field_sound a b name (p.pointed e p.here) s (field_named (fields_at (slice_get context.shapes s)) name.text) k
arrow_sound context a b at name u e h k = (h, tt, tt)

indexed_sound : (a b : ℕ) (at : Spot) (m : Meant) → Inside a b at → Sound a b (indexed_part at m)
indexed_sound a b at (an_array place s f u) h = tt
indexed_sound a b at (a_value v) h = tt
indexed_sound a b at (a_variable x u) h = tt
indexed_sound a b at (a_place place u) h = meaning_sound a b (as_value at (a_place place u)) (value_sound a b at (a_place place u) h)

behind_sound : (a b : ℕ) (at : Spot) (u : Option Ty) (e i : p.Expr) → Inside a b at → Sound a b (element_behind at u e i)
behind_sound a b at (Some (pointer note u)) e i h = tt
behind_sound a b at u e i h = (h, tt, tt)

element_sound : (a b : ℕ) (at : Spot) (m : Meant) (i : p.Expr) → Inside a b at → Sound a b (element at m i)
element_sound a b at (an_array place s f u) i h = tt
element_sound a b at (a_value v) i h = behind_sound a b at v.ty v.code i h
element_sound a b at m i h = (h, tt, tt)

index_by_sound : (a b : ℕ) (at : Spot) (m : Meant) (s : Sort) (v : Typed) → Inside a b at → Sound a b (index_by at m s v)
index_by_sound a b at m (Number from) v h = element_sound a b at m _ h
index_by_sound a b at m s v h = (h, tt, tt)

module _ (context : Context) (names : Scope) where
  mutual
    pub meant_sound : (before : List (List ℕ)) (a b : ℕ) (e : t.Expr) → Spans a b e → Sound a b (meant context names before e)
    meant_sound before a b (t.number at n u) h = tt
    meant_sound before a b (t.character at c) h = tt
    meant_sound before a b (t.string at bytes) h = tt
    meant_sound before a b (t.null at) h = tt
    meant_sound before a b (t.eof at) h = tt
    meant_sound before a b (t.variable name) h = name_sound a b name.spot (meaning_in names name.text) h
    meant_sound before a b (t.call name args) h =
        parts_sound a (name.spot.place + 1) b (callee_rule name.spot (meaning_in names name.text)) (values context names before args) (λ f vs. meaning_of_value (call_value name.spot f vs))
        (omega (arith, h.0)) (omega (arith, h.1)) (callee_sound a (name.spot.place + 1) name.spot (meaning_in names name.text) (h.0, omega arith)) (values_sound before (name.spot.place + 1) b args h.2)
        (λ f vs. meaning_sound a b (call_value name.spot f vs) (call_value_sound a b name.spot f vs (h.0, h.1)))
    meant_sound before a b (t.ralloc at r n) h =
        parts_sound a h.2 b (valued r (meant context names before r)) (type_rule context n) _ h.3 h.4
        (valued_sound a h.2 r (meant context names before r) (spot_inside a h.2 r h.5) (meant_sound before a h.2 r h.5)) (type_sound context h.2 b n h.6) (λ v u. meaning_sound a b (allocation at u (fitted region v)) (allocation_sound a b at u (fitted region v) (h.0, h.1)))
    meant_sound before a b (t.rarrayalloc at r k n) h =
        parts_sound a h.2 b (valued r (meant context names before r)) (both (valued k (meant context names (before ++ strings_in r) k)) (type_rule context n)) _ h.3 (omega (arith, h.5, h.6))
        (valued_sound a h.2 r (meant context names before r) (spot_inside a h.2 r h.7) (meant_sound before a h.2 r h.7))
        (both_sound h.2 h.4 b (valued k (meant context names (before ++ strings_in r) k)) (type_rule context n) h.5 h.6 (valued_sound h.2 h.4 k (meant context names (before ++ strings_in r) k) (spot_inside h.2 h.4 k h.8) (meant_sound (before ++ strings_in r) h.2 h.4 k h.8)) (type_sound context h.4 b n h.9))
        (λ v w. meaning_sound a b (array_allocation at w.1 (fitted region v) (fitted int w.0)) (array_allocation_sound a b at w.1 (fitted region v) (fitted int w.0) (h.0, h.1)))
    meant_sound before a b (t.index at x k) h =
        parts_sound a h.2 b (with_part (meant context names before x) (indexed_part (spot_of x))) (valued k (meant context names (before ++ strings_in x) k)) (index_rule at) h.3 h.4
        (part_sound a h.2 (meant context names before x) (indexed_part (spot_of x)) (meant_sound before a h.2 x h.5) (λ m. indexed_sound a h.2 (spot_of x) m (spot_inside a h.2 x h.5)))
        (valued_sound h.2 b k (meant context names (before ++ strings_in x) k) (spot_inside h.2 b k h.6) (meant_sound (before ++ strings_in x) h.2 b k h.6)) (λ m v. index_by_sound a b at m (sort_of v.ty) v (h.0, h.1))
    meant_sound before a b (t.member at x name) h = part_sound a b (meant context names before x) (member_rule context at name) (meant_sound before a b x h.3) (λ m. member_sound context a b at name m (h.0, h.1) h.2)
    meant_sound before a b (t.arrow at x name) h =
        part_sound a b (valued x (meant context names before x)) (λ v. arrow_rule context at name v.ty v.code) (valued_sound a b x (meant context names before x) (spot_inside a b x h.3) (meant_sound before a b x h.3)) (λ v. arrow_sound context a b at name v.ty v.code (h.0, h.1) h.2)
    meant_sound before a b (t.unary at op x) h =
        part_sound a b (meant context names before x) (unary_meant at op (spot_of x)) (meant_sound before a b x h.2) (λ m. unary_meant_sound a b at op (spot_of x) m (h.0, h.1) (spot_inside a b x h.2))
    meant_sound before a b (t.cast at to x) h =
        part_sound a b (valued x (meant context names before x)) (λ v. meaning_of_value (cast_rule at (cast_type to) (sort_of v.ty) v)) (valued_sound a b x (meant context names before x) (spot_inside a b x h.2) (meant_sound before a b x h.2))
        (λ v. meaning_sound a b (cast_rule at (cast_type to) (sort_of v.ty) v) (cast_sound a b at (cast_type to) (sort_of v.ty) v (h.0, h.1)))
    meant_sound before a b (t.binary at op x y) h =
        parts_sound a h.2 b (valued x (meant context names before x)) (valued y (meant context names (before ++ strings_in x) y)) (λ v w. meaning_of_value (binary_rule at op v w)) h.3 h.4
        (valued_sound a h.2 x (meant context names before x) (spot_inside a h.2 x h.5) (meant_sound before a h.2 x h.5)) (valued_sound h.2 b y (meant context names (before ++ strings_in x) y) (spot_inside h.2 b y h.6) (meant_sound (before ++ strings_in x) h.2 b y h.6)) (λ v w. meaning_sound a b (binary_rule at op v w) (binary_sound a b at op v w (h.0, h.1)))
    meant_sound before a b (t.conditional at c x y) h =
        parts_sound a h.2 b (valued c (meant context names before c)) (both (valued x (meant context names (before ++ strings_in c) x)) (valued y (meant context names (before ++ strings_in c ++ strings_in x) y))) _ h.3 (omega (arith, h.5, h.6))
        (valued_sound a h.2 c (meant context names before c) (spot_inside a h.2 c h.7) (meant_sound before a h.2 c h.7))
        (both_sound h.2 h.4 b (valued x (meant context names (before ++ strings_in c) x)) (valued y (meant context names (before ++ strings_in c ++ strings_in x) y)) h.5 h.6 (valued_sound h.2 h.4 x (meant context names (before ++ strings_in c) x) (spot_inside h.2 h.4 x h.8) (meant_sound (before ++ strings_in c) h.2 h.4 x h.8)) (valued_sound h.4 b y (meant context names (before ++ strings_in c ++ strings_in x) y) (spot_inside h.4 b y h.9) (meant_sound (before ++ strings_in c ++ strings_in x) h.4 b y h.9)))
        (λ u vw. meaning_sound a b (conditional_rule at u vw.0 vw.1) (choice_sound a b at (is_truthy (sort_of u.ty)) u.code (sort_of vw.0.ty) vw.0 (sort_of vw.1.ty) vw.1 (h.0, h.1)))

    pub values_sound : (before : List (List ℕ)) (a b : ℕ) (es : t.Exprs) → SpansAll a b es → Sound a b (values context names before es)
    values_sound before a b t.none h = tt
    values_sound before a b (t.more e rest) h =
        parts_sound a h.0 b (valued e (meant context names before e)) (values context names (before ++ strings_in e) rest) (λ v vs. Holds (v ∷ vs)) h.1 h.2
        (valued_sound a h.0 e (meant context names before e) (spot_inside a h.0 e h.3) (meant_sound before a h.0 e h.3)) (values_sound (before ++ strings_in e) h.0 b rest h.4) (λ v vs. tt)

  -- an expression as a value
  pub part_value : (before : List (List ℕ)) (a b : ℕ) (e : t.Expr) → Spans a b e → Sound a b (value context names before e)
  part_value before a b e h = valued_sound a b e (meant context names before e) (spot_inside a b e h) (meant_sound before a b e h)
