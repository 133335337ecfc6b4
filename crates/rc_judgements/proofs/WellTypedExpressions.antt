-- Expressions fit: each is a value of its type, or a place that is there.
use Rattle.std.specs.Prelude.{◌≡◌, ℕ, pos, ◌+◌, ◌<◌, ◌≤◌, List, [], ◌∷◌, ◌++◌, Option, Some, None, Bool, true, false, IsTrue, IsSome, slice_get, length, map, if◌then◌else◌}
use Rattle.std.proofs.Common.{zero, suc, refl, sym, ap, subst, arith, add-one, length-append}
use Rattle.std.proofs.lemmas.Bool.Decides.{nat_tests}
use Rattle.std.proofs.lemmas.List.{length-map, length-take}
use Rattle.std.proofs.lemmas.List.Quantifiers.{position-Some}
use Rattle.std.specs.Str.{bytes_eq}
use Rattle.rc_syntax.specs.declared.tree.Spot.{Spot}
use Rattle.rc_syntax.specs.declared.tree.Name.{Name}
use Rattle.rc_syntax.specs.declared.tree.Note.{Note as WrittenNote}
use Rattle.rc_syntax.specs.declared.tree.Base.{Base}
use Rattle.rc_syntax.specs.declared.tree.Base.TheVariants as base
use Rattle.rc_syntax.specs.declared.tree.UnaryOp.{UnaryOp}
use Rattle.rc_syntax.specs.declared.tree.UnaryOp.TheVariants.{Address}
use Rattle.rc_syntax.specs.Tree as t
use Rattle.rc_core.specs.declared.ty.Note.TheVariants.{Plain}
use Rattle.rc_core.specs.declared.ty.Signedness.{Signedness}
use Rattle.rc_core.specs.declared.ty.Signedness.TheVariants.{Signed, Unsigned}
use Rattle.rc_core.specs.Numbers.{fits_int}
use Rattle.rc_core.specs.Arithmetic.{type_of}
use Rattle.rc_core.specs.Types.{Ty, int, region, struct, pointer}
use Rattle.rc_core.specs.Programs as p
use Rattle.rc_core.specs.Layout.{field_at, fields_of}
use Rattle.rc_core.specs.Typing.{arithmetic, fits, HasType, IsPlace, LeadsTo, IsDefined}
use Rattle.rc_deletes.specs.declared.sort.Sort.{Sort}
use Rattle.rc_deletes.specs.declared.sort.Sort.TheVariants.{Number}
use Rattle.rc_deletes.specs.Judged.{Judged, Holds, with_part, both}
use Rattle.rc_deletes.specs.Kinds.{sort_of, place_of, number_or, struct_number, spelled, base_type, starred, note_of}
use Rattle.rc_deletes.specs.Scopes.{Context, Shape, fields_in, struct_names, structs_in, Scope, Meaning, a_local, a_global, a_function, a_builtin, meaning_in}
use Rattle.rc_deletes.specs.Values.{Typed, Meant, a_value, a_variable, a_place, an_array, valued, as_value, spot_of, fitted, promoted_value}
use Rattle.rc_deletes.specs.Operators.{binary_rule, conditional_rule, unary_rule, address_rule, cast_type, cast_rule}
use Rattle.rc_deletes.specs.Calls.{callee_rule, call_value, allocation, array_allocation}
use Rattle.rc_deletes.specs.Expressions.{strings_in, strings_in_all, signedness, name_rule, found, base_rule, type_rule, next_field, field_named, fields_at, path_then, inward, field_meant, field_rule, member_rule, arrow_rule, indexed_part, element_behind, element, index_by, index_rule, unary_meant, meant, values}
use Rattle.rc_deletes.specs.Ranges.{IsInRange, AreInRange}
use Rattle.rc_judgements.proofs.Held.{Held, Given, given_if, held_part, held_parts, held_both}
use Rattle.rc_deletes.proofs.Naming.{place_taken}
use Rattle.rc_judgements.proofs.WellTypedValues.{Fits, IsOf, Means, value_fits, fitted_fits, promoted_fits}
use Rattle.rc_judgements.proofs.WellTypedOperators.{Kind, kind, arithmetic_is_value, binary_fits, conditional_fits, unary_fits, address_fits, cast_fits, meaning_fits}
use Rattle.rc_judgements.proofs.WellTypedCalls.{IsThere, IsCallee, AllFit, callee_fits, call_value_fits, allocation_fits, array_allocation_fits}

-- parts of what has so many strings
pub first_part : {A : Type 0} (n : ℕ) (a b c : List A) → length (a ++ (b ++ c)) ≤ n → length (a ++ b) ≤ n
first_part n a b c h = omega (arith, length-append a (b ++ c), length-append b c, length-append a b)

pub second_part : {A : Type 0} (n : ℕ) (a b c : List A) → length (a ++ (b ++ c)) ≤ n → length ((a ++ b) ++ c) ≤ n
second_part n a b c h = omega (arith, length-append a (b ++ c), length-append b c, length-append a b, length-append (a ++ b) c)

third_part : {A : Type 0} (n : ℕ) (a b c d : List A) → length (a ++ (b ++ (c ++ d))) ≤ n → length ((a ++ b ++ c) ++ d) ≤ n
third_part n a b c d h = omega (arith, length-append a (b ++ (c ++ d)), length-append b (c ++ d), length-append c d, length-append (a ++ b ++ c) d, length-append a (b ++ c), length-append b c, length-append (a ++ b) c, length-append a b)

signed_or_not : (fit : Bool) (n : ℕ) → fits_int (pos n) ≡ fit → n < 4294967296 → IsTrue (fits (type_of (if fit then Signed else Unsigned)) (pos n))
signed_or_not true n e h = e
signed_or_not false n e h = grind (arith, nat_tests)

number_fits : (u : Bool) (n : ℕ) → n < 4294967296 → IsTrue (fits (type_of (signedness u n)) (pos n))
number_fits true n h = grind (arith, nat_tests)
number_fits false n h = signed_or_not (fits_int (pos n)) n refl h

character_fits : (c : ℕ) → c < 256 → IsTrue (fits_int (pos c))
character_fits c h = grind (arith, nat_tests)

-- where fields stand
next_given : (x : p.Field) (xs : List p.Field) (f : Option (ℕ × p.Field)) → Given (λ g. slice_get xs g.0 ≡ Some g.1) f → Given (λ g. slice_get (x ∷ xs) g.0 ≡ Some g.1) (next_field f)
next_given x xs None h = tt
next_given x xs (Some f) h = rw add-one h

named_field : (fs : List (List ℕ × p.Field)) (name : List ℕ) → Given (λ g. slice_get (map (λ f. f.1) fs) g.0 ≡ Some g.1) (field_named fs name)
named_field [] name = tt
named_field (f ∷ fs) name = given_if (λ g. slice_get (map (λ f. f.1) (f ∷ fs)) g.0 ≡ Some g.1) (bytes_eq f.0 name) (Some (0, f.1)) (next_field (field_named fs name)) refl (next_given f.1 (map (λ f. f.1) fs) (field_named fs name) (named_field fs name))

fields_of_shapes : (shapes : List Shape) (s : ℕ) → fields_of (map fields_in shapes) s ≡ map (λ f. f.1) (fields_at (slice_get shapes s))
fields_of_shapes [] s = refl
fields_of_shapes (x ∷ xs) zero = refl
fields_of_shapes (x ∷ xs) (suc s) = fields_of_shapes xs s

field_found : (context : Context) (s : ℕ) (name : List ℕ) → Given (λ g. field_at (structs_in context) s g.0 ≡ Some g.1) (field_named (fields_at (slice_get context.shapes s)) name)
field_found context s name = rw (fields_of_shapes context.shapes s) (named_field (fields_at (slice_get context.shapes s)) name)

-- types are defined
pub place_within : (names : List (List ℕ)) (name : List ℕ) (k : ℕ) → place_of names name ≡ Some k → k < length names
place_within names name k h = (position-Some (bytes_eq name) names k [] h).0

-- a struct that is defined has its place there as its number
pub struct_number_is : (context : Context) (name : List ℕ) (k : ℕ) → place_of (struct_names context) name ≡ Some k → struct_number context.types name ≡ k
struct_number_is context name k h = ap (λ o. number_or o (length context.types + spelled name)) (place_taken (length context.shapes) context.types name k h)

found_fits : (at : Spot) (o : Option ℕ) (n m : ℕ) → ((k : ℕ) → o ≡ Some k → n < m) → Held (λ (u : Unit {0}). n < m) (with_part (found at o) (λ k. Holds tt))
found_fits at None n m h = tt
found_fits at (Some k) n m h = h k refl

-- and no number past those of the structs
pub struct_within : (context : Context) (name : List ℕ) (k : ℕ) → place_of (struct_names context) name ≡ Some k → k < length (structs_in context)
struct_within context name k h = omega (arith, place_within (struct_names context) name k h, length-take (length context.shapes) context.types, length-map context.shapes fields_in)

pub base_fits : (context : Context) (b : Base) → Held (λ u. IsDefined (structs_in context) (base_type context.types b)) (base_rule context b)
base_fits context (base.Int at) = tt
base_fits context (base.Unsigned at) = tt
base_fits context (base.Char at) = tt
base_fits context (base.Region at) = tt
base_fits context (base.Struct at name) = found_fits name.spot (place_of (struct_names context) name.text) (struct_number context.types name.text) (length (structs_in context)) (λ k e. subst (λ n. n < length (structs_in context)) (sym (struct_number_is context name.text k e)) (struct_within context name.text k e))

pub starred_defined : (structs : List p.Struct) (u : Ty) (notes : List WrittenNote) → IsDefined structs u → IsDefined structs (starred u notes)
starred_defined structs u [] h = h
starred_defined structs u (n ∷ notes) h = starred_defined structs (pointer (note_of n) u) notes h

pub type_fits : (context : Context) (n : t.TypeName) → Held (IsDefined (structs_in context)) (type_rule context n)
type_fits context n = held_part (λ u. IsDefined (structs_in context) (base_type context.types n.base)) (IsDefined (structs_in context)) (base_rule context n.base) _ (base_fits context n.base) (λ u h. starred_defined (structs_in context) _ n.stars h)

module _ (program : p.Program) (locals : List Ty) where
  name_fits : (at : Spot) (m : Option Meaning) → Given (IsThere program locals) m → Held (Means program locals) (name_rule at m)
  name_fits at (Some (a_local x u)) h = h
  name_fits at (Some (a_global g u None)) h = (h.0, (h.1, h.3, h.2))
  name_fits at (Some (a_global g u (Some count))) h = ((h.0, (h.1, ap (pointer Plain) (sym h.2))), refl)
  name_fits at (Some (a_function k s)) h = tt
  name_fits at (Some (a_builtin b)) h = tt
  name_fits at None h = tt

  leads : (path end : p.Path) (u v w : Ty) → LeadsTo program locals path u v → LeadsTo program locals end v w → LeadsTo program locals (path_then path end) u w
  leads p.here end u v w h k = subst (λ x. LeadsTo program locals end x w) (sym h) k
  leads (p.field s f rest) end u v w h k = (h.0, (h.1.0, (h.1.1.0, h.1.1.1, leads rest end h.1.0.ty v w h.1.1.2 k)))
  leads (p.element s f i rest) end u v w h k = (h.0, (h.1.0, (h.1.1.0, h.1.1.1, h.1.1.2, leads rest end h.1.0.ty v w h.1.1.3 k)))

  leads_inward : (place : p.Place) (end : p.Path) (u v : Ty) → IsPlace program locals place u → LeadsTo program locals end u v → IsPlace program locals (inward place end) v
  leads_inward (p.global g path) end u v h k = (h.0, (h.1.0, h.1.1, leads path end h.0.ty u v h.1.2 k))
  leads_inward (p.pointed e path) end u v h k = (h.0, (h.1.0, (h.1.1.0, leads path end h.1.0 u v h.1.1.1 k)))
  leads_inward (p.indexed e i path) end u v h k = (h.0, (h.1.0, (h.1.1.0, h.1.1.1, leads path end h.1.0 u v h.1.1.2 k)))

  field_is : (place : p.Place) (s f : ℕ) (d : p.Field) (count : Option ℕ) → d.count ≡ count → IsPlace program locals place (struct s) → field_at program.structs s f ≡ Some d → Means program locals (field_meant place s f d.ty count)
  field_is place s f d None e h k = leads_inward place (p.field s f p.here) (struct s) d.ty h (refl, (d, (k, e, refl)))
  field_is place s f d (Some n) e h k = (h, (d, (k, (subst (λ x. IsSome x) (sym e) refl), refl)))

  field_fits : (name : Name) (place : p.Place) (s : ℕ) (f : Option (ℕ × p.Field)) → IsPlace program locals place (struct s) → Given (λ g. field_at program.structs s g.0 ≡ Some g.1) f → Held (Means program locals) (field_rule name place s f)
  field_fits name place s None h k = tt
  field_fits name place s (Some f) h k = field_is place s f.0 f.1 f.1.count refl h k

  indexed_fits : (at : Spot) (m : Meant) → Means program locals m → Held (Means program locals) (indexed_part at m)
  indexed_fits at (an_array place s f u) h = h
  indexed_fits at (a_value v) h = h
  indexed_fits at (a_variable x u) h = meaning_fits program locals (as_value at (a_variable x u)) (value_fits program locals at (a_variable x u) h)
  indexed_fits at (a_place place u) h = meaning_fits program locals (as_value at (a_place place u)) (value_fits program locals at (a_place place u) h)

  behind_fits : (at : Spot) (ty : Option Ty) (e i : p.Expr) → IsOf program locals ty e → ((s : Signedness) × HasType program locals i (arithmetic s)) → Held (Means program locals) (element_behind at ty e i)
  behind_fits at (Some (pointer n u)) e i h k = (h.1, (u, (h.0, k, refl)))
  behind_fits at _ e i h k = tt

  element_fits : (at : Spot) (m : Meant) (i : p.Expr) → Means program locals m → ((s : Signedness) × HasType program locals i (arithmetic s)) → Held (Means program locals) (element at m i)
  element_fits at (an_array place s f u) i h k = leads_inward place (p.element s f i p.here) (struct s) u h.0 (refl, (h.1.0, (h.1.1.0, h.1.1.1, k, h.1.1.2)))
  element_fits at (a_value v) i h k = behind_fits at v.ty v.code i h k
  element_fits at _ i h k = tt

  index_of : (at : Spot) (m : Meant) (s : Sort) (v : Typed) → Means program locals m → Kind program locals v.ty v.code s → Held (Means program locals) (index_by at m s v)
  index_of at m (Number from) v h k = element_fits at m (promoted_value from v) h (promoted_fits program locals from v k.0)
  index_of at m _ v h k = tt

  pub valued_fits : (e : t.Expr) (j : Judged Meant) → Held (Means program locals) j → Held (Fits program locals) (valued e j)
  valued_fits e j h = held_part (Means program locals) (Fits program locals) j (as_value (spot_of e)) h (value_fits program locals (spot_of e))

-- the expressions of a text whose structs the program has, in a scope of what is there
module _ (program : p.Program) (locals : List Ty) (context : Context) (names : Scope) (structs : program.structs ≡ structs_in context) (there : (name : List ℕ) → Given (IsThere program locals) (meaning_in names name)) where
  field_there : (s : ℕ) (name : List ℕ) → Given (λ g. field_at program.structs s g.0 ≡ Some g.1) (field_named (fields_at (slice_get context.shapes s)) name)
  field_there s name = subst (λ x. Given (λ g. field_at x s g.0 ≡ Some g.1) (field_named (fields_at (slice_get context.shapes s)) name)) (sym structs) (field_found context s name)

  type_there : (n : t.TypeName) → Held (IsDefined program.structs) (type_rule context n)
  type_there n = subst (λ x. Held (IsDefined x) (type_rule context n)) (sym structs) (type_fits context n)

  member_fits : (at : Spot) (name : Name) (m : Meant) → Means program locals m → Held (Means program locals) (member_rule context at name m)
  member_fits at name (a_place place (struct s)) h = field_fits program locals name place s _ h (field_there s name.text)
  member_fits at name _ h = tt

  arrow_fits : (at : Spot) (name : Name) (ty : Option Ty) (e : p.Expr) → IsOf program locals ty e → Held (Means program locals) (arrow_rule context at name ty e)
  arrow_fits at name (Some (pointer n (struct s))) e h = field_fits program locals name (p.pointed e p.here) s _ (h.1, (struct s, (h.0, refl))) (field_there s name.text)
  arrow_fits at name _ e h = tt

  operand_fits : (at : Spot) (op : UnaryOp) (inner : Spot) (m : Meant) → Means program locals m → Held (Means program locals) (unary_meant at op inner m)
  operand_fits at Address inner m h = meaning_fits program locals (address_rule at m) (address_fits program locals at m h)
  operand_fits at op inner m h = held_part (Fits program locals) (Means program locals) (as_value inner m) (unary_rule at op) (value_fits program locals inner m h) (unary_fits program locals at op)

  mutual
    pub meant_fits : (before : List (List ℕ)) (e : t.Expr) → IsInRange e → length (before ++ strings_in e) ≤ length program.strings → Held (Means program locals) (meant context names before e)
    meant_fits before (t.number at n u) r b = ((arithmetic_is_value (signedness u n), number_fits u n r), refl)
    meant_fits before (t.character at c) r b = ((refl, character_fits c r), refl)
    meant_fits before (t.string at bytes) r b = ((refl, omega (arith, length-append before (bytes ∷ []))), refl)
    meant_fits before (t.null at) r b = refl
    meant_fits before (t.eof at) r b = ((refl, refl), refl)
    meant_fits before (t.variable name) r b = name_fits program locals name.spot (meaning_in names name.text) (there name.text)
    meant_fits before (t.call name args) r b =
        held_parts (IsCallee program locals) (AllFit program locals) (Means program locals) (callee_rule name.spot (meaning_in names name.text)) (values context names before args) _ (callee_fits program locals name.spot (meaning_in names name.text) (there name.text)) (values_fit before args r b)
        (λ f vs h k. meaning_fits program locals (call_value name.spot f vs) (call_value_fits program locals name.spot f vs h k))
    meant_fits before (t.ralloc at e n) r b =
        held_parts (Fits program locals) (IsDefined program.structs) (Means program locals) (valued e (meant context names before e)) (type_rule context n) _ (valued_fits program locals e _ (meant_fits before e r b)) (type_there n)
        (λ v u h k. meaning_fits program locals (allocation at u (fitted region v)) (allocation_fits program locals at u (fitted region v) k (fitted_fits program locals region v h)))
    meant_fits before (t.rarrayalloc at e k n) r b =
        held_parts (Fits program locals) (λ (w : Typed × Ty). Fits program locals w.0 × IsDefined program.structs w.1) (Means program locals) (valued e (meant context names before e)) (both (valued k (meant context names (before ++ strings_in e) k)) (type_rule context n)) _
        (valued_fits program locals e _ (meant_fits before e r.0 (first_part _ before (strings_in e) (strings_in k) b)))
        (held_both (Fits program locals) (IsDefined program.structs) (valued k (meant context names (before ++ strings_in e) k)) (type_rule context n) (valued_fits program locals k _ (meant_fits (before ++ strings_in e) k r.1 (second_part _ before (strings_in e) (strings_in k) b))) (type_there n))
        (λ v w h q. meaning_fits program locals (array_allocation at w.1 (fitted region v) (fitted int w.0)) (array_allocation_fits program locals at w.1 (fitted region v) (fitted int w.0) q.1 (fitted_fits program locals region v h) (fitted_fits program locals int w.0 q.0)))
    meant_fits before (t.index at a k) r b =
        held_parts (Means program locals) (Fits program locals) (Means program locals) (with_part (meant context names before a) (indexed_part (spot_of a))) (valued k (meant context names (before ++ strings_in a) k)) (index_rule at)
        (held_part (Means program locals) (Means program locals) (meant context names before a) (indexed_part (spot_of a)) (meant_fits before a r.0 (first_part _ before (strings_in a) (strings_in k) b)) (indexed_fits program locals (spot_of a)))
        (valued_fits program locals k _ (meant_fits (before ++ strings_in a) k r.1 (second_part _ before (strings_in a) (strings_in k) b)))
        (λ m v h q. index_of program locals at m (sort_of v.ty) v h (kind program locals v q))
    meant_fits before (t.member at a name) r b = held_part (Means program locals) (Means program locals) (meant context names before a) (member_rule context at name) (meant_fits before a r b) (member_fits at name)
    meant_fits before (t.arrow at a name) r b = held_part (Fits program locals) (Means program locals) (valued a (meant context names before a)) _ (valued_fits program locals a _ (meant_fits before a r b)) (λ v h. arrow_fits at name v.ty v.code h)
    meant_fits before (t.unary at op a) r b = held_part (Means program locals) (Means program locals) (meant context names before a) (unary_meant at op (spot_of a)) (meant_fits before a r b) (operand_fits at op (spot_of a))
    meant_fits before (t.cast at to a) r b = held_part (Fits program locals) (Means program locals) (valued a (meant context names before a)) _ (valued_fits program locals a _ (meant_fits before a r b)) (λ v h. meaning_fits program locals (cast_rule at (cast_type to) (sort_of v.ty) v) (cast_fits program locals at (cast_type to) v h))
    meant_fits before (t.binary at op x y) r b =
        held_parts (Fits program locals) (Fits program locals) (Means program locals) (valued x (meant context names before x)) (valued y (meant context names (before ++ strings_in x) y)) _
        (valued_fits program locals x _ (meant_fits before x r.0 (first_part _ before (strings_in x) (strings_in y) b)))
        (valued_fits program locals y _ (meant_fits (before ++ strings_in x) y r.1 (second_part _ before (strings_in x) (strings_in y) b)))
        (λ v w h k. meaning_fits program locals (binary_rule at op v w) (binary_fits program locals at op v w h k))
    meant_fits before (t.conditional at c x y) r b =
        held_parts (Fits program locals) (λ (w : Typed × Typed). Fits program locals w.0 × Fits program locals w.1) (Means program locals) (valued c (meant context names before c)) (both (valued x (meant context names (before ++ strings_in c) x)) (valued y (meant context names (before ++ strings_in c ++ strings_in x) y))) _
        (valued_fits program locals c _ (meant_fits before c r.0 (first_part _ before (strings_in c) (strings_in x ++ strings_in y) b)))
        (held_both (Fits program locals) (Fits program locals) (valued x (meant context names (before ++ strings_in c) x)) (valued y (meant context names (before ++ strings_in c ++ strings_in x) y))
        (valued_fits program locals x _ (meant_fits (before ++ strings_in c) x r.1 (first_part _ (before ++ strings_in c) (strings_in x) (strings_in y) (second_part _ before (strings_in c) (strings_in x ++ strings_in y) b))))
        (valued_fits program locals y _ (meant_fits (before ++ strings_in c ++ strings_in x) y r.2 (third_part _ before (strings_in c) (strings_in x) (strings_in y) b))))
        (λ u vw h k. meaning_fits program locals (conditional_rule at u vw.0 vw.1) (conditional_fits program locals at u vw.0 vw.1 h k.0 k.1))

    pub values_fit : (before : List (List ℕ)) (args : t.Exprs) → AreInRange args → length (before ++ strings_in_all args) ≤ length program.strings → Held (AllFit program locals) (values context names before args)
    values_fit before t.none r b = tt
    values_fit before (t.more e rest) r b =
        held_parts (Fits program locals) (AllFit program locals) (AllFit program locals) (valued e (meant context names before e)) (values context names (before ++ strings_in e) rest) _
        (valued_fits program locals e _ (meant_fits before e r.0 (first_part _ before (strings_in e) (strings_in_all rest) b)))
        (values_fit (before ++ strings_in e) rest r.1 (second_part _ before (strings_in e) (strings_in_all rest) b))
        (λ v vs h k. (h, k))
