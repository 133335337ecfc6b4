-- What operators make of values has the faults of their operands, in order: nothing is added, and nothing is lost.
use Rattle.std.specs.Prelude.{◌≡◌, ℕ, List, [], ◌++◌, Option, Some, None, Bool, true, false, ◌&&◌, map}
use Rattle.std.proofs.Common.{refl, sym, ap, ◌∙◌, subst, append_assoc}
use Rattle.std.proofs.lemmas.List.{append-nil, map-append}
use Rattle.rc_syntax.specs.declared.tree.Spot.{Spot}
use Rattle.rc_syntax.specs.declared.tree.Name.{Name}
use Rattle.rc_syntax.specs.declared.tree.BinaryOp.{BinaryOp}
use Rattle.rc_syntax.specs.declared.tree.BinaryOp.TheVariants as written
use Rattle.rc_syntax.specs.declared.tree.UnaryOp.{UnaryOp}
use Rattle.rc_syntax.specs.declared.tree.UnaryOp.TheVariants as before
use Rattle.rc_core.specs.declared.ty.NumberType.{NumberType}
use Rattle.rc_core.specs.declared.ty.NumberType.TheVariants.{Int, Unsigned, Char}
use Rattle.rc_core.specs.declared.operators.Operator.{Operator}
use Rattle.rc_core.specs.declared.operators.Operator.TheVariants.{Multiply, Divide, Remainder, Add, Subtract, Less, Greater, LessEqual, GreaterEqual, And, Xor, Or, ShiftLeft, ShiftRight}
use Rattle.rc_core.specs.declared.operators.UnaryOperator.{UnaryOperator}
use Rattle.rc_core.specs.declared.operators.UnaryOperator.TheVariants.{Negate, Complement, Plus}
use Rattle.rc_core.specs.Arithmetic.{type_of}
use Rattle.rc_core.specs.Types.{Ty, int, unsigned, char, region, struct, pointer}
use Rattle.rc_core.specs.Programs as p
use Rattle.rc_core.specs.Typing.{promoted, is_shift}
use Rattle.rc_deletes.specs.declared.deletes.DeletesFault.{DeletesFault}
use Rattle.rc_deletes.specs.declared.fault.Refusal.TheVariants.{Mistyped}
use Rattle.rc_deletes.specs.declared.sort.Sort.{Sort}
use Rattle.rc_deletes.specs.declared.sort.Sort.TheVariants.{Number, Region, Pointer, Null, Struct}
use Rattle.rc_deletes.specs.Judged.{Judged, Holds, fails}
use Rattle.rc_deletes.specs.Kinds.{sort_of, sort_of_type, same_types}
use Rattle.rc_deletes.specs.Scopes.{Context}
use Rattle.rc_deletes.specs.Values.{Typed, Meant, a_value, a_variable, a_place, an_array, as_value, read_place, converted, promoted_value, met, fitted, fitted_by, is_truthy}
use Rattle.rc_deletes.specs.Operators.{result, computed_in, right_in, computation, numbers, sum, difference, equality, conjunction, disjunction, numbers_of, binary_rule, choice, conditional_rule, sign_rule, not_rule, dereference_rule, address_rule, meaning_of_value, unary_rule, cast_rule}
use Rattle.rc_deletes.specs.Expressions.{path_then, inward, field_meant, field_rule, member_rule, arrow_rule, indexed_part, element_behind, element, index_by, index_rule, unary_meant}
use Rattle.rc_deletes.specs.Places as rule
use Rattle.rc_deletes.specs.PlacedFaults.{PlacedFault, without_place}
use Rattle.rc_judgements.proofs.Held.{Held, Given, held_part, held_if}

abbrev pub plain : List PlacedFault → List DeletesFault
plain fs = map without_place fs

pub joined : {A : Type 0} (xs ys us vs : List A) → xs ≡ us → ys ≡ vs → xs ++ ys ≡ us ++ vs
joined xs ys us vs h k = cc

pub plain_both : (xs ys : List DeletesFault) (fs gs : List PlacedFault) → xs ≡ plain fs → ys ≡ plain gs → xs ++ ys ≡ plain (fs ++ gs)
plain_both xs ys fs gs h k = joined xs ys (plain fs) (plain gs) h k ∙ sym (map-append without_place fs gs)

module _ (fs : List p.Function) (d : Bool) where
  abbrev pub in_value : p.Expr → List DeletesFault
  in_value e = rule.within fs d e

  abbrev pub in_place : p.Place → List DeletesFault
  in_place place = rule.within_place fs d place

  -- the word `NULL`, which an operator leaves out, has no faults
  abbrev pub Quiet : Option Ty → List DeletesFault → Type 0
  Quiet None xs = xs ≡ []
  Quiet (Some u) xs = Unit {0}

  abbrev pub IsOf : List DeletesFault → Typed → Type 0
  IsOf xs v = (in_value v.code ≡ xs) × Quiet v.ty xs

  -- what an expression means, with these faults
  abbrev pub MeantOf : List DeletesFault → Meant → Type 0
  MeantOf xs (a_value v) = IsOf xs v
  MeantOf xs (a_variable x u) = xs ≡ []
  MeantOf xs (a_place place u) = in_place place ≡ xs
  MeantOf xs (an_array place s f u) = in_place place ≡ xs

  -- the same of what is no name
  abbrev pub MadeOf : List DeletesFault → Meant → Type 0
  MadeOf xs (a_value v) = IsOf xs v
  MadeOf xs (a_variable x u) = ⊥
  MadeOf xs (a_place place u) = in_place place ≡ xs
  MadeOf xs (an_array place s f u) = in_place place ≡ xs

  pointer_quiet : (u : Option Ty) (xs : List DeletesFault) → sort_of u ≡ Pointer → Quiet u xs
  pointer_quiet None xs e = absurd cc
  pointer_quiet (Some u) xs e = tt

  never_null : (u : Ty) → sort_of_type u ≡ Null → ⊥
  never_null int e = cc
  never_null unsigned e = cc
  never_null char e = cc
  never_null region e = cc
  never_null (struct k) e = cc
  never_null (pointer note u) e = cc

  null_quiet : (u : Option Ty) (xs : List DeletesFault) → sort_of u ≡ Null → Quiet u xs → xs ≡ []
  null_quiet None xs e h = h
  null_quiet (Some u) xs e h = absurd (never_null u e)

  pub converted_same : (from to : NumberType) (v : Typed) → in_value (converted from to v) ≡ in_value v.code
  converted_same Int Int v = refl
  converted_same Unsigned Unsigned v = refl
  converted_same Char Char v = refl
  converted_same from to v = refl

  converted_whole : (call : Bool) (from to : NumberType) (v : Typed) → rule.whole_by fs d call (converted from to v) ≡ rule.whole_by fs d call v.code
  converted_whole false from to v = converted_same from to v
  converted_whole true Int Int v = refl
  converted_whole true Unsigned Unsigned v = refl
  converted_whole true Char Char v = refl
  converted_whole true from to v = refl

  fitted_by_same : (call : Bool) (wanted sort : Sort) (same : Bool) (v : Typed) → Given (λ c. rule.whole_by fs d call c ≡ rule.whole_by fs d call v.code) (fitted_by wanted sort same v)
  fitted_by_same call (Number to) (Number from) same v = converted_whole call from to v
  fitted_by_same call Region Region same v = refl
  fitted_by_same call Region Null same v = refl
  fitted_by_same call Pointer Null same v = refl
  fitted_by_same call Pointer Pointer true v = refl
  fitted_by_same call wanted sort same v = tt

  pub fitted_same : (call : Bool) (u : Ty) (v : Typed) → Given (λ c. rule.whole_by fs d call c ≡ rule.whole_by fs d call v.code) (fitted u v)
  fitted_same call u v = fitted_by_same call (sort_of_type u) (sort_of v.ty) (same_types (Some u) v.ty) v

  -- operators between two values
  computed_same : (line : ℕ) (op : Operator) (a : NumberType) (v : Typed) (b : NumberType) (w : Typed) → IsOf (in_value v.code ++ in_value w.code) (computation line op a v b w)
  computed_same line op a v b w =
      (joined _ _ (in_value v.code) (in_value w.code) (converted_same a (type_of (computed_in (is_shift op) a b)) v) (converted_same b (type_of (right_in (is_shift op) a b)) w), tt)

  numbers_same : (at : Spot) (op : Operator) (s : Sort) (v : Typed) (z : Sort) (w : Typed) → Held (IsOf (in_value v.code ++ in_value w.code)) (numbers at op s v z w)
  numbers_same at op (Number a) v (Number b) w = computed_same at.line op a v b w
  numbers_same at op s v z w = tt

  sum_same : (at : Spot) (s : Sort) (v : Typed) (z : Sort) (w : Typed) → sort_of v.ty ≡ s → sort_of w.ty ≡ z → Held (IsOf (in_value v.code ++ in_value w.code)) (sum at s v z w)
  sum_same at (Number a) v (Number b) w e f = computed_same at.line Add a v b w
  sum_same at Pointer v (Number b) w e f = (joined (in_value v.code) _ (in_value v.code) (in_value w.code) refl (converted_same b (type_of (promoted b)) w), pointer_quiet v.ty _ e)
  sum_same at (Number a) v Pointer w e f = (joined _ (in_value w.code) (in_value v.code) (in_value w.code) (converted_same a (type_of (promoted a)) v) refl, pointer_quiet w.ty _ f)
  sum_same at s v z w e f = tt

  difference_same : (at : Spot) (s : Sort) (v : Typed) (z : Sort) (w : Typed) → sort_of v.ty ≡ s → Held (IsOf (in_value v.code ++ in_value w.code)) (difference at s v z w)
  difference_same at (Number a) v (Number b) w e = computed_same at.line Subtract a v b w
  difference_same at Pointer v (Number b) w e = (joined (in_value v.code) _ (in_value v.code) (in_value w.code) refl (converted_same b (type_of (promoted b)) w), pointer_quiet v.ty _ e)
  difference_same at s v z w e = tt

  left_alone : (xs ys : List DeletesFault) → ys ≡ [] → xs ≡ xs ++ ys
  left_alone xs ys h = sym (append-nil xs) ∙ ap (λ zs. xs ++ zs) (sym h)

  right_alone : (xs ys : List DeletesFault) → xs ≡ [] → ys ≡ xs ++ ys
  right_alone xs ys h = ap (λ zs. zs ++ ys) (sym h)

  equality_same : (at : Spot) (wanted same : Bool) (s : Sort) (v : Typed) (z : Sort) (w : Typed) → sort_of v.ty ≡ s → sort_of w.ty ≡ z → Quiet v.ty (in_value v.code) → Quiet w.ty (in_value w.code) → Held (IsOf (in_value v.code ++ in_value w.code)) (equality at wanted same s v z w)
  equality_same at wanted same (Number a) v (Number b) w e f h k = computed_same at.line _ a v b w
  equality_same at wanted true Pointer v Pointer w e f h k = (refl, tt)
  equality_same at wanted same Region v Region w e f h k = (refl, tt)
  equality_same at wanted same Pointer v Null w e f h k = (left_alone (in_value v.code) (in_value w.code) (null_quiet w.ty _ f k), tt)
  equality_same at wanted same Region v Null w e f h k = (left_alone (in_value v.code) (in_value w.code) (null_quiet w.ty _ f k), tt)
  equality_same at wanted same Null v Pointer w e f h k = (right_alone (in_value v.code) (in_value w.code) (null_quiet v.ty _ e h), tt)
  equality_same at wanted same Null v Region w e f h k = (right_alone (in_value v.code) (in_value w.code) (null_quiet v.ty _ e h), tt)
  equality_same at wanted same s v z w e f h k = tt

  conjunction_same : (at : Spot) (v w : Typed) → Held (IsOf (in_value v.code ++ in_value w.code)) (conjunction at v w)
  conjunction_same at v w = held_if (IsOf (in_value v.code ++ in_value w.code)) (is_truthy (sort_of v.ty) && is_truthy (sort_of w.ty)) (Holds (result at.line int (p.and at.line v.code w.code))) (fails at Mistyped) (λ e. (refl, tt)) (λ e. tt)

  disjunction_same : (at : Spot) (v w : Typed) → Held (IsOf (in_value v.code ++ in_value w.code)) (disjunction at v w)
  disjunction_same at v w = held_if (IsOf (in_value v.code ++ in_value w.code)) (is_truthy (sort_of v.ty) && is_truthy (sort_of w.ty)) (Holds (result at.line int (p.or at.line v.code w.code))) (fails at Mistyped) (λ e. (refl, tt)) (λ e. tt)

  numbers_of_same : (at : Spot) (op : Operator) (v w : Typed) → Held (IsOf (in_value v.code ++ in_value w.code)) (numbers_of at op v w)
  numbers_of_same at op v w = numbers_same at op (sort_of v.ty) v (sort_of w.ty) w

  binary_by : (at : Spot) (op : BinaryOp) (v w : Typed) → Quiet v.ty (in_value v.code) → Quiet w.ty (in_value w.code) → Held (IsOf (in_value v.code ++ in_value w.code)) (binary_rule at op v w)
  binary_by at written.LogicalOr v w h k = disjunction_same at v w
  binary_by at written.LogicalAnd v w h k = conjunction_same at v w
  binary_by at written.BitOr v w h k = numbers_of_same at Or v w
  binary_by at written.BitXor v w h k = numbers_of_same at Xor v w
  binary_by at written.BitAnd v w h k = numbers_of_same at And v w
  binary_by at written.Equal v w h k = equality_same at true (same_types v.ty w.ty) (sort_of v.ty) v (sort_of w.ty) w refl refl h k
  binary_by at written.NotEqual v w h k = equality_same at false (same_types v.ty w.ty) (sort_of v.ty) v (sort_of w.ty) w refl refl h k
  binary_by at written.Less v w h k = numbers_of_same at Less v w
  binary_by at written.Greater v w h k = numbers_of_same at Greater v w
  binary_by at written.LessEqual v w h k = numbers_of_same at LessEqual v w
  binary_by at written.GreaterEqual v w h k = numbers_of_same at GreaterEqual v w
  binary_by at written.ShiftLeft v w h k = numbers_of_same at ShiftLeft v w
  binary_by at written.ShiftRight v w h k = numbers_of_same at ShiftRight v w
  binary_by at written.Add v w h k = sum_same at (sort_of v.ty) v (sort_of w.ty) w refl refl
  binary_by at written.Subtract v w h k = difference_same at (sort_of v.ty) v (sort_of w.ty) w refl
  binary_by at written.Multiply v w h k = numbers_of_same at Multiply v w
  binary_by at written.Divide v w h k = numbers_of_same at Divide v w
  binary_by at written.Remainder v w h k = numbers_of_same at Remainder v w

  abbrev quiet_of : (xs : List DeletesFault) (v : Typed) → IsOf xs v → Quiet v.ty (in_value v.code)
  quiet_of xs v h = subst (Quiet v.ty) (sym h.0) h.1

  pub binary_same : (at : Spot) (op : BinaryOp) (xs ys : List DeletesFault) (v w : Typed) → IsOf xs v → IsOf ys w → Held (IsOf (xs ++ ys)) (binary_rule at op v w)
  binary_same at op xs ys v w h k = subst (λ zs. Held (IsOf zs) (binary_rule at op v w)) (joined (in_value v.code) (in_value w.code) xs ys h.0 k.0) (binary_by at op v w (quiet_of xs v h) (quiet_of ys w k))

  choice_same : (at : Spot) (c : Bool) (test : p.Expr) (s : Sort) (v : Typed) (z : Sort) (w : Typed) → Held (IsOf (in_value test ++ (in_value v.code ++ in_value w.code))) (choice at c test s v z w)
  choice_same at true test (Number a) v (Number b) w =
      (ap (λ zs. in_value test ++ zs) (joined _ _ (in_value v.code) (in_value w.code) (converted_same a (type_of (met a b)) v) (converted_same b (type_of (met a b)) w)), tt)
  choice_same at c test s v z w = tt

  pub conditional_same : (at : Spot) (xs ys zs : List DeletesFault) (u v w : Typed) → IsOf xs u → IsOf ys v → IsOf zs w → Held (IsOf (xs ++ (ys ++ zs))) (conditional_rule at u v w)
  conditional_same at xs ys zs u v w h k l =
      subst (λ all. Held (IsOf all) (conditional_rule at u v w)) (joined (in_value u.code) _ xs (ys ++ zs) h.0 (joined (in_value v.code) (in_value w.code) ys zs k.0 l.0))
      (choice_same at (is_truthy (sort_of u.ty)) u.code (sort_of v.ty) v (sort_of w.ty) w)

  -- operators before a value
  pub value_meaning : (xs : List DeletesFault) (x : Judged Typed) → Held (IsOf xs) x → Held (MadeOf xs) (meaning_of_value x)
  value_meaning xs x h = held_part (IsOf xs) (MadeOf xs) x (λ v. Holds (a_value v)) h (λ v k. k)

  sign_same : (at : Spot) (op : UnaryOperator) (xs : List DeletesFault) (s : Sort) (v : Typed) → IsOf xs v → Held (IsOf xs) (sign_rule at op s v)
  sign_same at op xs (Number a) v h = (converted_same a (type_of (promoted a)) v ∙ h.0, tt)
  sign_same at op xs s v h = tt

  not_same : (at : Spot) (xs : List DeletesFault) (s : Sort) (v : Typed) → IsOf xs v → Held (IsOf xs) (not_rule at s v)
  not_same at xs (Number a) v h = (h.0, tt)
  not_same at xs Region v h = (h.0, tt)
  not_same at xs Pointer v h = (h.0, tt)
  not_same at xs s v h = tt

  dereference_same : (at : Spot) (xs : List DeletesFault) (u : Option Ty) (e : p.Expr) → in_value e ≡ xs → Held (MadeOf xs) (dereference_rule at u e)
  dereference_same at xs (Some (pointer note u)) e h = append-nil (in_value e) ∙ h
  dereference_same at xs u e h = tt

  unary_same : (at : Spot) (op : UnaryOp) (xs : List DeletesFault) (v : Typed) → IsOf xs v → Held (MadeOf xs) (unary_rule at op v)
  unary_same at before.Minus xs v h = value_meaning xs (sign_rule at Negate (sort_of v.ty) v) (sign_same at Negate xs (sort_of v.ty) v h)
  unary_same at before.Plus xs v h = value_meaning xs (sign_rule at Plus (sort_of v.ty) v) (sign_same at Plus xs (sort_of v.ty) v h)
  unary_same at before.Not xs v h = value_meaning xs (not_rule at (sort_of v.ty) v) (not_same at xs (sort_of v.ty) v h)
  unary_same at before.Complement xs v h = value_meaning xs (sign_rule at Complement (sort_of v.ty) v) (sign_same at Complement xs (sort_of v.ty) v h)
  unary_same at before.Dereference xs v h = dereference_same at xs v.ty v.code h.0
  unary_same at before.Address xs v h = tt

  read_same : (at : Spot) (xs : List DeletesFault) (s : Sort) (place : p.Place) (u : Ty) → in_place place ≡ xs → Held (IsOf xs) (read_place at s place u)
  read_same at xs Struct place u h = tt
  read_same at xs s place u h = (h, tt)

  pub as_value_same : (at : Spot) (xs : List DeletesFault) (m : Meant) → MeantOf xs m → Held (IsOf xs) (as_value at m)
  as_value_same at xs (a_value v) h = h
  as_value_same at xs (a_variable x u) h = (sym h, tt)
  as_value_same at xs (a_place place u) h = read_same at xs (sort_of_type u) place u h
  as_value_same at xs (an_array place s f u) h = tt

  address_same : (at : Spot) (xs : List DeletesFault) (m : Meant) → MeantOf xs m → Held (IsOf xs) (address_rule at m)
  address_same at xs (a_place (p.global g p.here) u) h = (h, tt)
  address_same at xs (a_place (p.indexed e i p.here) u) h = (ap (λ zs. in_value e ++ zs) (sym (append-nil (in_value i))) ∙ h, tt)
  address_same at xs m h = tt

  pub unary_meant_same : (at : Spot) (op : UnaryOp) (inner : Spot) (xs : List DeletesFault) (m : Meant) → MeantOf xs m → Held (MadeOf xs) (unary_meant at op inner m)
  unary_meant_same at before.Address inner xs m h = value_meaning xs (address_rule at m) (address_same at xs m h)
  unary_meant_same at op inner xs m h = held_part (IsOf xs) (MadeOf xs) (as_value inner m) (unary_rule at op) (as_value_same inner xs m h) (λ v. unary_same at op xs v)

  pub cast_same : (at : Spot) (to : NumberType) (xs : List DeletesFault) (s : Sort) (v : Typed) → IsOf xs v → Held (IsOf xs) (cast_rule at to s v)
  cast_same at to xs (Number from) v h = (converted_same from to v ∙ h.0, tt)
  cast_same at to xs s v h = tt

  -- places inside of places
  path_same : (path end : p.Path) → rule.within_path fs d (path_then path end) ≡ rule.within_path fs d path ++ rule.within_path fs d end
  path_same p.here end = refl
  path_same (p.field s f rest) end = path_same rest end
  path_same (p.element s f i rest) end = ap (λ zs. in_value i ++ zs) (path_same rest end) ∙ sym (append_assoc (in_value i) (rule.within_path fs d rest) (rule.within_path fs d end))

  inward_same : (place : p.Place) (end : p.Path) → in_place (inward place end) ≡ in_place place ++ rule.within_path fs d end
  inward_same (p.global g path) end = path_same path end
  inward_same (p.pointed e path) end = ap (λ zs. in_value e ++ zs) (path_same path end) ∙ sym (append_assoc (in_value e) (rule.within_path fs d path) (rule.within_path fs d end))
  inward_same (p.indexed e i path) end =
      ap (λ zs. in_value e ++ (in_value i ++ zs)) (path_same path end)
      ∙ ap (λ zs. in_value e ++ zs) (sym (append_assoc (in_value i) (rule.within_path fs d path) (rule.within_path fs d end)))
      ∙ sym (append_assoc (in_value e) (in_value i ++ rule.within_path fs d path) (rule.within_path fs d end))

  field_made : (xs : List DeletesFault) (place : p.Place) (s f : ℕ) (u : Ty) (count : Option ℕ) → in_place place ≡ xs → MadeOf xs (field_meant place s f u count)
  field_made xs place s f u None h = inward_same place (p.field s f p.here) ∙ append-nil (in_place place) ∙ h
  field_made xs place s f u (Some count) h = h

  field_same : (xs : List DeletesFault) (name : Name) (place : p.Place) (s : ℕ) (f : Option (ℕ × p.Field)) → in_place place ≡ xs → Held (MadeOf xs) (field_rule name place s f)
  field_same xs name place s None h = tt
  field_same xs name place s (Some f) h = field_made xs place s f.0 f.1.ty f.1.count h

  pub member_same : (context : Context) (at : Spot) (name : Name) (xs : List DeletesFault) (m : Meant) → MeantOf xs m → Held (MadeOf xs) (member_rule context at name m)
  member_same context at name xs (a_place place (struct s)) h = field_same xs name place s _ h
  member_same context at name xs m h = tt

  pub arrow_same : (context : Context) (at : Spot) (name : Name) (xs : List DeletesFault) (u : Option Ty) (e : p.Expr) → in_value e ≡ xs → Held (MadeOf xs) (arrow_rule context at name u e)
  arrow_same context at name xs (Some (pointer note (struct s))) e h = field_same xs name (p.pointed e p.here) s _ (append-nil (in_value e) ∙ h)
  arrow_same context at name xs u e h = tt

  pub indexed_same : (at : Spot) (xs : List DeletesFault) (m : Meant) → MeantOf xs m → Held (MadeOf xs) (indexed_part at m)
  indexed_same at xs (an_array place s f u) h = h
  indexed_same at xs (a_value v) h = h
  indexed_same at xs (a_variable x u) h = (sym h, tt)
  indexed_same at xs (a_place place u) h = value_meaning xs (as_value at (a_place place u)) (as_value_same at xs (a_place place u) h)

  element_behind_same : (at : Spot) (xs : List DeletesFault) (u : Option Ty) (e i : p.Expr) → in_value e ≡ xs → Held (MadeOf (xs ++ in_value i)) (element_behind at u e i)
  element_behind_same at xs (Some (pointer note u)) e i h = joined (in_value e) _ xs (in_value i) h (append-nil (in_value i))
  element_behind_same at xs u e i h = tt

  element_same : (at : Spot) (xs : List DeletesFault) (m : Meant) (i : p.Expr) → MadeOf xs m → Held (MadeOf (xs ++ in_value i)) (element at m i)
  element_same at xs (an_array place s f u) i h = inward_same place (p.element s f i p.here) ∙ joined (in_place place) _ xs (in_value i) h (append-nil (in_value i))
  element_same at xs (a_value v) i h = element_behind_same at xs v.ty v.code i h.0
  element_same at xs m i h = tt

  index_by_same : (at : Spot) (xs : List DeletesFault) (m : Meant) (s : Sort) (v : Typed) → MadeOf xs m → Held (MadeOf (xs ++ in_value v.code)) (index_by at m s v)
  index_by_same at xs m (Number from) v h = subst (λ zs. Held (MadeOf (xs ++ zs)) (element at m (promoted_value from v))) (converted_same from (type_of (promoted from)) v) (element_same at xs m (promoted_value from v) h)
  index_by_same at xs m s v h = tt

  pub index_same : (at : Spot) (xs ys : List DeletesFault) (m : Meant) (v : Typed) → MadeOf xs m → IsOf ys v → Held (MadeOf (xs ++ ys)) (index_rule at m v)
  index_same at xs ys m v h k = subst (λ zs. Held (MadeOf (xs ++ zs)) (index_rule at m v)) k.0 (index_by_same at xs m (sort_of v.ty) v h)
