-- The rules of expressions: one equation for each node. The strings of a text are numbered in its order, so each node is
-- judged after the strings that stand before it.
use Rattle.std.specs.Prelude.{ℕ, pos, negsuc, List, [], ◌∷◌, ◌++◌, Option, Some, None, Bool, true, false, length, slice_get, ◌+◌, if◌then◌else◌}
use Rattle.std.specs.Str.{bytes_eq}
use Rattle.rc_syntax.specs.declared.tree.Spot.{Spot}
use Rattle.rc_syntax.specs.declared.tree.Name.{Name}
use Rattle.rc_syntax.specs.declared.tree.Base.{Base}
use Rattle.rc_syntax.specs.declared.tree.Base.TheVariants as base
use Rattle.rc_syntax.specs.declared.tree.UnaryOp.{UnaryOp}
use Rattle.rc_syntax.specs.declared.tree.UnaryOp.TheVariants.{Address}
use Rattle.rc_syntax.specs.Tree as t
use Rattle.rc_core.specs.declared.ty.Note.TheVariants.{Plain}
use Rattle.rc_core.specs.declared.ty.Signedness.{Signedness}
use Rattle.rc_core.specs.declared.ty.Signedness.TheVariants.{Signed, Unsigned}
use Rattle.rc_core.specs.Numbers.{fits_int}
use Rattle.rc_core.specs.Types.{Ty, int, char, region, struct, pointer}
use Rattle.rc_core.specs.Programs as p
use Rattle.rc_core.specs.Typing.{arithmetic}
use Rattle.rc_deletes.specs.declared.fault.Refusal.TheVariants.{Unknown, Mistyped}
use Rattle.rc_deletes.specs.declared.sort.Sort.{Sort}
use Rattle.rc_deletes.specs.declared.sort.Sort.TheVariants.{Number}
use Rattle.rc_deletes.specs.Judged.{Judged, Holds, with_part, with_parts, both, fails}
use Rattle.rc_deletes.specs.Kinds.{place_of, written_type, sort_of}
use Rattle.rc_deletes.specs.Scopes.{Context, Shape, struct_names, Scope, Meaning, a_local, a_global, a_function, a_builtin, meaning_in}
use Rattle.rc_deletes.specs.Values.{Typed, Meant, a_value, a_variable, a_place, an_array, valued, as_value, spot_of, fitted, promoted_value}
use Rattle.rc_deletes.specs.Operators.{result, meaning_of_value, binary_rule, conditional_rule, unary_rule, address_rule, cast_type, cast_rule}
use Rattle.rc_deletes.specs.Calls.{callee_rule, call_value, allocation, array_allocation}

-- the string literals of an expression, in order
abbrev mutual
  pub strings_in : t.Expr → List (List ℕ)
  strings_in (t.number at n u) = []
  strings_in (t.character at c) = []
  strings_in (t.string at bytes) = bytes ∷ []
  strings_in (t.null at) = []
  strings_in (t.eof at) = []
  strings_in (t.variable name) = []
  strings_in (t.call name args) = strings_in_all args
  strings_in (t.ralloc at r n) = strings_in r
  strings_in (t.rarrayalloc at r k n) = strings_in r ++ strings_in k
  strings_in (t.index at a k) = strings_in a ++ strings_in k
  strings_in (t.member at a n) = strings_in a
  strings_in (t.arrow at a n) = strings_in a
  strings_in (t.unary at op a) = strings_in a
  strings_in (t.cast at to a) = strings_in a
  strings_in (t.binary at op a b) = strings_in a ++ strings_in b
  strings_in (t.conditional at c a b) = strings_in c ++ (strings_in a ++ strings_in b)

  pub strings_in_all : t.Exprs → List (List ℕ)
  strings_in_all t.none = []
  strings_in_all (t.more e rest) = strings_in e ++ strings_in_all rest

abbrev pub number_value : Spot → Signedness → ℕ → Typed
number_value at s n = result at.line (arithmetic s) (p.constant at.line s (pos n))

-- a number is `unsigned` where it says so, or is past the greatest `int`
abbrev pub signedness : (is_unsigned : Bool) → ℕ → Signedness
signedness true n = Unsigned
signedness false n = if fits_int (pos n) then Signed else Unsigned

-- a name in an expression: a global array is the pointer to its first element, and a function is no value
abbrev pub name_rule : Spot → Option Meaning → Judged Meant
name_rule at None = fails at Unknown
name_rule at (Some (a_local x t)) = Holds (a_variable x t)
name_rule at (Some (a_global g t None)) = Holds (a_place (p.global g p.here) t)
name_rule at (Some (a_global g t (Some count))) = Holds (a_value (result at.line (pointer Plain t) (p.address at.line g)))
name_rule at (Some (a_function number s)) = fails at Mistyped
name_rule at (Some (a_builtin b)) = fails at Mistyped

-- a struct that a type names is defined somewhere in the text
abbrev pub found : {A : Type 0} → Spot → Option A → Judged A
found at None = fails at Unknown
found at (Some a) = Holds a

abbrev pub base_rule : Context → Base → Judged (Unit {0})
base_rule context (base.Struct at name) = with_part (found name.spot (place_of (struct_names context) name.text)) (λ k. Holds tt)
base_rule context b = Holds tt

abbrev pub type_rule : Context → t.TypeName → Judged Ty
type_rule context n = with_part (base_rule context n.base) (λ u. Holds (written_type context.types n))

-- a field by its name: its number, and what it is
abbrev pub next_field : Option (ℕ × p.Field) → Option (ℕ × p.Field)
next_field None = None
next_field (Some f) = Some (f.0 + 1, f.1)

abbrev pub field_named : List (List ℕ × p.Field) → List ℕ → Option (ℕ × p.Field)
field_named [] name = None
field_named (f ∷ fs) name = if bytes_eq f.0 name then Some (0, f.1) else next_field (field_named fs name)

abbrev pub fields_at : Option Shape → List (List ℕ × p.Field)
fields_at None = []
fields_at (Some s) = s

-- a path that goes on inward
abbrev pub path_then : p.Path → p.Path → p.Path
path_then p.here end = end
path_then (p.field s f rest) end = p.field s f (path_then rest end)
path_then (p.element s f i rest) end = p.element s f i (path_then rest end)

abbrev pub inward : p.Place → p.Path → p.Place
inward (p.global g path) end = p.global g (path_then path end)
inward (p.pointed e path) end = p.pointed e (path_then path end)
inward (p.indexed e i path) end = p.indexed e i (path_then path end)

abbrev pub field_meant : p.Place → (structure field : ℕ) → Ty → (count : Option ℕ) → Meant
field_meant place s f t None = a_place (inward place (p.field s f p.here)) t
field_meant place s f t (Some count) = an_array place s f t

abbrev pub field_rule : Name → p.Place → ℕ → Option (ℕ × p.Field) → Judged Meant
field_rule name place s None = fails name.spot Unknown
field_rule name place s (Some f) = Holds (field_meant place s f.0 f.1.ty f.1.count)

-- a field of a place of struct type, and of a struct that a pointer leads to
abbrev pub member_rule : Context → Spot → Name → Meant → Judged Meant
member_rule context at name (a_place place (struct s)) = field_rule name place s (field_named (fields_at (slice_get context.shapes s)) name.text)
member_rule context at name m = fails at Mistyped

abbrev pub arrow_rule : Context → Spot → Name → Option Ty → p.Expr → Judged Meant
arrow_rule context at name (Some (pointer note (struct s))) e = field_rule name (p.pointed e p.here) s (field_named (fields_at (slice_get context.shapes s)) name.text)
arrow_rule context at name t e = fails at Mistyped

-- what an index is applied to: an array field, or a value
abbrev pub indexed_part : Spot → Meant → Judged Meant
indexed_part at (an_array place s f t) = Holds (an_array place s f t)
indexed_part at m = meaning_of_value (as_value at m)

abbrev pub element_behind : Spot → Option Ty → p.Expr → p.Expr → Judged Meant
element_behind at (Some (pointer note t)) e i = Holds (a_place (p.indexed e i p.here) t)
element_behind at t e i = fails at Mistyped

abbrev pub element : Spot → Meant → p.Expr → Judged Meant
element at (an_array place s f t) i = Holds (a_place (inward place (p.element s f i p.here)) t)
element at (a_value v) i = element_behind at v.ty v.code i
element at m i = fails at Mistyped

abbrev pub index_by : Spot → Meant → Sort → Typed → Judged Meant
index_by at m (Number from) v = element at m (promoted_value from v)
index_by at m s v = fails at Mistyped

abbrev pub index_rule : Spot → Meant → Typed → Judged Meant
index_rule at m v = index_by at m (sort_of v.ty) v

-- `&` looks at what its operand is, every other operator at its value
abbrev pub unary_meant : Spot → UnaryOp → Spot → Meant → Judged Meant
unary_meant at Address inner m = meaning_of_value (address_rule at m)
unary_meant at op inner m = with_part (as_value inner m) (unary_rule at op)

module _ (context : Context) (names : Scope) where
  abbrev mutual
    pub meant : (before : List (List ℕ)) → t.Expr → Judged Meant
    meant before (t.number at n u) = Holds (a_value (number_value at (signedness u n) n))
    meant before (t.character at c) = Holds (a_value (number_value at Signed c))
    meant before (t.string at bytes) = Holds (a_value (result at.line (pointer Plain char) (p.string at.line (length before))))
    meant before (t.null at) = Holds (a_value (record { line = at.line; ty = None; code = p.null at.line }))
    meant before (t.eof at) = Holds (a_value (result at.line int (p.constant at.line Signed (negsuc 0))))
    meant before (t.variable name) = name_rule name.spot (meaning_in names name.text)
    meant before (t.call name args) = with_parts (callee_rule name.spot (meaning_in names name.text)) (values before args) (λ f vs. meaning_of_value (call_value name.spot f vs))
    meant before (t.ralloc at r n) = with_parts (valued r (meant before r)) (type_rule context n) (λ v u. meaning_of_value (allocation at u (fitted region v)))
    meant before (t.rarrayalloc at r k n) =
        with_parts (valued r (meant before r)) (both (valued k (meant (before ++ strings_in r) k)) (type_rule context n)) (λ v w. meaning_of_value (array_allocation at w.1 (fitted region v) (fitted int w.0)))
    meant before (t.index at a k) = with_parts (with_part (meant before a) (indexed_part (spot_of a))) (valued k (meant (before ++ strings_in a) k)) (index_rule at)
    meant before (t.member at a name) = with_part (meant before a) (member_rule context at name)
    meant before (t.arrow at a name) = with_part (valued a (meant before a)) (λ v. arrow_rule context at name v.ty v.code)
    meant before (t.unary at op a) = with_part (meant before a) (unary_meant at op (spot_of a))
    meant before (t.cast at to a) = with_part (valued a (meant before a)) (λ v. meaning_of_value (cast_rule at (cast_type to) (sort_of v.ty) v))
    meant before (t.binary at op a b) = with_parts (valued a (meant before a)) (valued b (meant (before ++ strings_in a) b)) (λ v w. meaning_of_value (binary_rule at op v w))
    meant before (t.conditional at c a b) =
        with_parts (valued c (meant before c)) (both (valued a (meant (before ++ strings_in c) a)) (valued b (meant (before ++ strings_in c ++ strings_in a) b))) (λ u vw. meaning_of_value (conditional_rule at u vw.0 vw.1))

    pub values : (before : List (List ℕ)) → t.Exprs → Judged (List Typed)
    values before t.none = Holds []
    values before (t.more e rest) = with_parts (valued e (meant before e)) (values (before ++ strings_in e) rest) (λ v vs. Holds (v ∷ vs))

  -- an expression as a value
  abbrev pub value : (before : List (List ℕ)) → t.Expr → Judged Typed
  value before e = valued e (meant before e)
