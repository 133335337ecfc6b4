-- Operators give values that fit.
use Rattle.std.specs.Prelude.{◌≡◌, ◌⊎◌, ℕ, List, Option, Some, None, Bool, true, false, not, ◌&&◌, IsTrue, slice_get}
use Rattle.std.proofs.Common.{refl, sym, ap, ◌∙◌, subst, inl, inr}
use Rattle.rc_syntax.specs.declared.tree.Spot.{Spot}
use Rattle.rc_syntax.specs.declared.tree.BinaryOp.{BinaryOp}
use Rattle.rc_syntax.specs.declared.tree.BinaryOp.TheVariants as written
use Rattle.rc_syntax.specs.declared.tree.UnaryOp.{UnaryOp}
use Rattle.rc_syntax.specs.declared.tree.UnaryOp.TheVariants as before
use Rattle.rc_core.specs.declared.ty.Note.{Note}
use Rattle.rc_core.specs.declared.ty.Note.TheVariants.{Plain}
use Rattle.rc_core.specs.declared.ty.NumberType.{NumberType}
use Rattle.rc_core.specs.declared.ty.NumberType.TheVariants.{Int, Unsigned, Char}
use Rattle.rc_core.specs.declared.ty.Signedness.{Signedness}
use Rattle.rc_core.specs.declared.ty.Signedness.TheVariants.{Signed, Unsigned as Wrapping}
use Rattle.rc_core.specs.declared.operators.Operator.{Operator}
use Rattle.rc_core.specs.declared.operators.Operator.TheVariants.{Multiply, Divide, Remainder, Add, Subtract, ShiftLeft, ShiftRight, Less, Greater, LessEqual, GreaterEqual, And, Xor, Or}
use Rattle.rc_core.specs.declared.operators.UnaryOperator.{UnaryOperator}
use Rattle.rc_core.specs.declared.operators.UnaryOperator.TheVariants.{Negate, Complement, Plus}
use Rattle.rc_core.specs.declared.operators.Direction.{Direction}
use Rattle.rc_core.specs.declared.operators.Direction.TheVariants.{Forward, Backward}
use Rattle.rc_core.specs.declared.stmt.Change.{Change}
use Rattle.rc_core.specs.declared.stmt.Change.TheVariants.{Compute, Step}
use Rattle.rc_core.specs.Arithmetic.{type_of}
use Rattle.rc_core.specs.Types.{Ty, int, unsigned, char, region, struct, pointer}
use Rattle.rc_core.specs.Programs as p
use Rattle.rc_core.specs.Typing.{number, arithmetic, value_type, promoted, is_shift, is_comparison, is_pointer, result_if, is_null_word, NotNull, HasType, IsValue, Takes}
use Rattle.rc_deletes.specs.declared.fault.Refusal.TheVariants.{Mistyped}
use Rattle.rc_deletes.specs.declared.sort.Sort.{Sort}
use Rattle.rc_deletes.specs.declared.sort.Sort.TheVariants.{Number, Region, Pointer, Null, Struct}
use Rattle.rc_deletes.specs.Judged.{Judged, Holds, Faulty, fails}
use Rattle.rc_deletes.specs.Kinds.{sort_of, sort_of_type, same_types}
use Rattle.rc_deletes.specs.Values.{Typed, typed, Meant, a_place, converted, in_arithmetic, promoted_value, met, is_truthy}
use Rattle.rc_deletes.specs.Operators.{result, computed_in, right_in, computation, numbers, sum, difference, equality_operator, equality, equality_of, conjunction, disjunction, numbers_of, binary_rule, choice, conditional_rule, sign_rule, not_rule, dereference_rule, address_rule, meaning_of_value, unary_rule, cast_rule, changing, change_by, change_of, changed}
use Rattle.rc_judgements.proofs.Held.{Held, Given, held_if}
use Rattle.rc_judgements.proofs.WellTypedValues.{Fits, IsOf, Means, same_type_is, and_left, and_right, converted_fits, converted_word, arithmetic_fits, promoted_fits, truthy}

pub number_is_value : (k : NumberType) → value_type (number k) ≡ number k
number_is_value Int = refl
number_is_value Unsigned = refl
number_is_value Char = refl

pub arithmetic_is_value : (s : Signedness) → value_type (arithmetic s) ≡ arithmetic s
arithmetic_is_value Signed = refl
arithmetic_is_value Wrapping = refl

result_is_value : (comparison : Bool) (s : Signedness) → value_type (result_if comparison s) ≡ result_if comparison s
result_is_value true s = refl
result_is_value false s = arithmetic_is_value s

right_fits : (shift : Bool) (a b : NumberType) → IsTrue shift ⊎ (right_in shift a b ≡ computed_in shift a b)
right_fits true a b = inl refl
right_fits false a b = inr refl

left_fits : (shift : Bool) (a b : NumberType) → (promoted a ≡ computed_in shift a b) ⊎ ((computed_in shift a b ≡ Wrapping) × IsTrue (not shift))
left_fits true a b = inl refl
left_fits false Int Int = inl refl
left_fits false Int Char = inl refl
left_fits false Int Unsigned = inr (refl, refl)
left_fits false Char Int = inl refl
left_fits false Char Char = inl refl
left_fits false Char Unsigned = inr (refl, refl)
left_fits false Unsigned b = inl refl

not_comparison : (comparison : Bool) (s : Signedness) → IsTrue (not comparison) → arithmetic s ≡ result_if comparison s
not_comparison false s h = refl
not_comparison true s h = absurd cc

changing_fits : (op : BinaryOp) → Given (λ o. IsTrue (not (is_comparison o))) (changing op)
changing_fits written.BitOr = refl
changing_fits written.BitXor = refl
changing_fits written.BitAnd = refl
changing_fits written.ShiftLeft = refl
changing_fits written.ShiftRight = refl
changing_fits written.Add = refl
changing_fits written.Subtract = refl
changing_fits written.Multiply = refl
changing_fits written.Divide = refl
changing_fits written.Remainder = refl
changing_fits _ = tt

module _ (program : p.Program) (locals : List Ty) where
  -- what is known of a value by its sort
  abbrev pub Kind : Option Ty → p.Expr → Sort → Type 0
  Kind ty e (Number k) = HasType program locals e (number k) × NotNull e
  Kind ty e Region = HasType program locals e region × NotNull e
  Kind ty e Pointer = (n : Note) × (t : Ty) × (ty ≡ Some (pointer n t)) × HasType program locals e (pointer Plain t) × NotNull e
  Kind ty e Null = IsTrue (is_null_word e)
  Kind ty e Struct = Unit {0}

  pub kind_of : (ty : Option Ty) (e : p.Expr) → IsOf program locals ty e → Kind ty e (sort_of ty)
  kind_of None e h = h
  kind_of (Some int) e h = h
  kind_of (Some unsigned) e h = h
  kind_of (Some char) e h = h
  kind_of (Some region) e h = h
  kind_of (Some (struct k)) e h = tt
  kind_of (Some (pointer n t)) e h = (n, t, refl, h.0, h.1)

  pub kind : (v : Typed) → Fits program locals v → Kind v.ty v.code (sort_of v.ty)
  kind v h = kind_of v.ty v.code h

  computation_fits : (line : ℕ) (op : Operator) (a : NumberType) (v : Typed) (b : NumberType) (w : Typed) → Kind v.ty v.code (Number a) → Kind w.ty w.code (Number b) → Fits program locals (computation line op a v b w)
  computation_fits line op a v b w h k =
      let s = computed_in (is_shift op) a b in
      let r = right_in (is_shift op) a b in
      ((result_is_value (is_comparison op) s, arithmetic_fits program locals a s v h.0, (r, (right_fits (is_shift op) a b, arithmetic_fits program locals b r w k.0))), refl)

  numbers_fit : (at : Spot) (op : Operator) (s : Sort) (v : Typed) (t : Sort) (w : Typed) → Kind v.ty v.code s → Kind w.ty w.code t → Held (Fits program locals) (numbers at op s v t w)
  numbers_fit at op (Number a) v (Number b) w h k = computation_fits at.line op a v b w h k
  numbers_fit at op _ v _ w h k = tt

  step_fits : (line : ℕ) (d : Direction) (ty : Option Ty) (e : p.Expr) (b : NumberType) (w : Typed) → Kind ty e Pointer → Kind w.ty w.code (Number b) → IsOf program locals ty (p.step line d e (promoted_value b w))
  step_fits line d ty e b w h k = subst (λ x. IsOf program locals x (p.step line d e (promoted_value b w))) (sym h.2) ((refl, h.4, h.3, promoted_fits program locals b w k.0), refl)

  step_from_fits : (line : ℕ) (ty : Option Ty) (e : p.Expr) (b : NumberType) (w : Typed) → Kind ty e Pointer → Kind w.ty w.code (Number b) → IsOf program locals ty (p.step_from line (promoted_value b w) e)
  step_from_fits line ty e b w h k = subst (λ x. IsOf program locals x (p.step_from line (promoted_value b w) e)) (sym h.2) ((refl, h.4, h.3, promoted_fits program locals b w k.0), refl)

  sum_fits : (at : Spot) (s : Sort) (v : Typed) (t : Sort) (w : Typed) → Kind v.ty v.code s → Kind w.ty w.code t → Held (Fits program locals) (sum at s v t w)
  sum_fits at (Number a) v (Number b) w h k = computation_fits at.line Add a v b w h k
  sum_fits at Pointer v (Number b) w h k = step_fits at.line Forward v.ty v.code b w h k
  sum_fits at (Number a) v Pointer w h k = step_from_fits at.line w.ty w.code a v k h
  sum_fits at _ v _ w h k = tt

  difference_fits : (at : Spot) (s : Sort) (v : Typed) (t : Sort) (w : Typed) → Kind v.ty v.code s → Kind w.ty w.code t → Held (Fits program locals) (difference at s v t w)
  difference_fits at (Number a) v (Number b) w h k = computation_fits at.line Subtract a v b w h k
  difference_fits at Pointer v (Number b) w h k = step_fits at.line Backward v.ty v.code b w h k
  difference_fits at _ v _ w h k = tt

  same_target : (tv tw : Option Ty) (n m : Note) (t u : Ty) → tv ≡ Some (pointer n t) → tw ≡ Some (pointer m u) → IsTrue (same_types tv tw) → t ≡ u
  same_target tv tw n m t u e f h = same_type_is t u (subst (λ x. IsTrue (same_types (Some (pointer n t)) x)) f (subst (λ x. IsTrue (same_types x tw)) e h))

  equality_fits : (at : Spot) (wanted same : Bool) (s : Sort) (v : Typed) (t : Sort) (w : Typed) → (IsTrue same → IsTrue (same_types v.ty w.ty)) → Kind v.ty v.code s → Kind w.ty w.code t → Held (Fits program locals) (equality at wanted same s v t w)
  equality_fits at wanted same (Number a) v (Number b) w q h k = computation_fits at.line (equality_operator wanted) a v b w h k
  equality_fits at wanted true Pointer v Pointer w q h k =
      let e : h.1 ≡ k.1 = same_target v.ty w.ty h.0 k.0 h.1 k.1 h.2 k.2 (q refl) in
      ((refl, h.4, k.4, (pointer Plain h.1, (refl, h.3, subst (λ x. HasType program locals w.code (pointer Plain x)) (sym e) k.3))), refl)
  equality_fits at wanted same Region v Region w q h k = ((refl, h.1, k.1, (region, (refl, h.0, k.0))), refl)
  equality_fits at wanted same Pointer v Null w q h k = ((refl, h.4, (pointer Plain h.1, (refl, h.3))), refl)
  equality_fits at wanted same Region v Null w q h k = ((refl, h.1, (region, (refl, h.0))), refl)
  equality_fits at wanted same Null v Pointer w q h k = ((refl, k.4, (pointer Plain k.1, (refl, k.3))), refl)
  equality_fits at wanted same Null v Region w q h k = ((refl, k.1, (region, (refl, k.0))), refl)
  equality_fits at wanted _ _ v _ w q h k = tt

  both_truthy : (at : Spot) (v w : Typed) → Fits program locals v → Fits program locals w → IsTrue (is_truthy (sort_of v.ty) && is_truthy (sort_of w.ty)) → IsValue program locals v.code × IsValue program locals w.code
  both_truthy at v w h k q = (truthy program locals at v h (and_left _ _ q), truthy program locals at w k (and_right (is_truthy (sort_of v.ty)) (is_truthy (sort_of w.ty)) q))

  conjunction_fits : (at : Spot) (v w : Typed) → Fits program locals v → Fits program locals w → Held (Fits program locals) (conjunction at v w)
  conjunction_fits at v w h k = held_if (Fits program locals) (is_truthy (sort_of v.ty) && is_truthy (sort_of w.ty)) (Holds (result at.line int (p.and at.line v.code w.code))) (fails at Mistyped)
      (λ q. let b = both_truthy at v w h k q in ((refl, b.0.0, b.1.0, b.0.1, b.1.1), refl)) (λ q. tt)

  disjunction_fits : (at : Spot) (v w : Typed) → Fits program locals v → Fits program locals w → Held (Fits program locals) (disjunction at v w)
  disjunction_fits at v w h k = held_if (Fits program locals) (is_truthy (sort_of v.ty) && is_truthy (sort_of w.ty)) (Holds (result at.line int (p.or at.line v.code w.code))) (fails at Mistyped)
      (λ q. let b = both_truthy at v w h k q in ((refl, b.0.0, b.1.0, b.0.1, b.1.1), refl)) (λ q. tt)

  numbers_of_fit : (at : Spot) (op : Operator) (v w : Typed) → Fits program locals v → Fits program locals w → Held (Fits program locals) (numbers_of at op v w)
  numbers_of_fit at op v w h k = numbers_fit at op (sort_of v.ty) v (sort_of w.ty) w (kind v h) (kind w k)

  equality_of_fits : (at : Spot) (wanted : Bool) (v w : Typed) → Fits program locals v → Fits program locals w → Held (Fits program locals) (equality_of at wanted v w)
  equality_of_fits at wanted v w h k = equality_fits at wanted (same_types v.ty w.ty) (sort_of v.ty) v (sort_of w.ty) w (λ q. q) (kind v h) (kind w k)

  pub binary_fits : (at : Spot) (op : BinaryOp) (v w : Typed) → Fits program locals v → Fits program locals w → Held (Fits program locals) (binary_rule at op v w)
  binary_fits at written.LogicalOr v w h k = disjunction_fits at v w h k
  binary_fits at written.LogicalAnd v w h k = conjunction_fits at v w h k
  binary_fits at written.BitOr v w h k = numbers_of_fit at Or v w h k
  binary_fits at written.BitXor v w h k = numbers_of_fit at Xor v w h k
  binary_fits at written.BitAnd v w h k = numbers_of_fit at And v w h k
  binary_fits at written.Equal v w h k = equality_of_fits at true v w h k
  binary_fits at written.NotEqual v w h k = equality_of_fits at false v w h k
  binary_fits at written.Less v w h k = numbers_of_fit at Less v w h k
  binary_fits at written.Greater v w h k = numbers_of_fit at Greater v w h k
  binary_fits at written.LessEqual v w h k = numbers_of_fit at LessEqual v w h k
  binary_fits at written.GreaterEqual v w h k = numbers_of_fit at GreaterEqual v w h k
  binary_fits at written.ShiftLeft v w h k = numbers_of_fit at ShiftLeft v w h k
  binary_fits at written.ShiftRight v w h k = numbers_of_fit at ShiftRight v w h k
  binary_fits at written.Add v w h k = sum_fits at (sort_of v.ty) v (sort_of w.ty) w (kind v h) (kind w k)
  binary_fits at written.Subtract v w h k = difference_fits at (sort_of v.ty) v (sort_of w.ty) w (kind v h) (kind w k)
  binary_fits at written.Multiply v w h k = numbers_of_fit at Multiply v w h k
  binary_fits at written.Divide v w h k = numbers_of_fit at Divide v w h k
  binary_fits at written.Remainder v w h k = numbers_of_fit at Remainder v w h k

  choice_fits : (at : Spot) (truthy : Bool) (test : p.Expr) (s : Sort) (v : Typed) (t : Sort) (w : Typed) → (IsTrue truthy → IsValue program locals test) → Kind v.ty v.code s → Kind w.ty w.code t → Held (Fits program locals) (choice at truthy test s v t w)
  choice_fits at true test (Number a) v (Number b) w q h k =
      let m = met a b in
      let e = sym (arithmetic_is_value m) in
      ((((q refl).0, (q refl).1, (m, arithmetic_is_value m), subst (HasType program locals (in_arithmetic a m v)) e (arithmetic_fits program locals a m v h.0), subst (HasType program locals (in_arithmetic b m w)) e (arithmetic_fits program locals b m w k.0))), refl)
  choice_fits at _ test _ v _ w q h k = tt

  pub conditional_fits : (at : Spot) (c v w : Typed) → Fits program locals c → Fits program locals v → Fits program locals w → Held (Fits program locals) (conditional_rule at c v w)
  conditional_fits at c v w g h k = choice_fits at (is_truthy (sort_of c.ty)) c.code (sort_of v.ty) v (sort_of w.ty) w (λ q. truthy program locals at c g q) (kind v h) (kind w k)

  sign_fits : (at : Spot) (op : UnaryOperator) (s : Sort) (v : Typed) → Kind v.ty v.code s → Held (Fits program locals) (sign_rule at op s v)
  sign_fits at op (Number a) v h = ((arithmetic_is_value (promoted a), arithmetic_fits program locals a (promoted a) v h.0), refl)
  sign_fits at op _ v h = tt

  not_fits : (at : Spot) (s : Sort) (v : Typed) → Kind v.ty v.code s → Held (Fits program locals) (not_rule at s v)
  not_fits at (Number a) v h = ((refl, (a, h.0)), refl)
  not_fits at Region v h = ((refl, h.1, (region, (refl, h.0))), refl)
  not_fits at Pointer v h = ((refl, h.4, (pointer Plain h.1, (refl, h.3))), refl)
  not_fits at _ v h = tt

  pub meaning_fits : (j : Judged Typed) → Held (Fits program locals) j → Held (Means program locals) (meaning_of_value j)
  meaning_fits (Holds v) h = h
  meaning_fits (Faulty f fs) h = tt

  dereference_fits : (at : Spot) (ty : Option Ty) (e : p.Expr) → IsOf program locals ty e → Held (Means program locals) (dereference_rule at ty e)
  dereference_fits at (Some (pointer n t)) e h = (h.1, (t, (h.0, refl)))
  dereference_fits at _ e h = tt

  pub unary_fits : (at : Spot) (op : UnaryOp) (v : Typed) → Fits program locals v → Held (Means program locals) (unary_rule at op v)
  unary_fits at before.Minus v h = meaning_fits _ (sign_fits at Negate (sort_of v.ty) v (kind v h))
  unary_fits at before.Plus v h = meaning_fits _ (sign_fits at Plus (sort_of v.ty) v (kind v h))
  unary_fits at before.Not v h = meaning_fits _ (not_fits at (sort_of v.ty) v (kind v h))
  unary_fits at before.Complement v h = meaning_fits _ (sign_fits at Complement (sort_of v.ty) v (kind v h))
  unary_fits at before.Dereference v h = dereference_fits at v.ty v.code h
  unary_fits at before.Address v h = tt

  pub address_fits : (at : Spot) (m : Meant) → Means program locals m → Held (Fits program locals) (address_rule at m)
  address_fits at (a_place (p.global g p.here) t) h = ((h.0, (h.1.0, ap (pointer Plain) (sym h.1.2))), refl)
  address_fits at (a_place (p.indexed e i p.here) t) h =
      ((refl, h.0, subst (λ x. HasType program locals e (pointer Plain x)) h.1.1.2 h.1.1.0, h.1.1.1), refl)
  address_fits at _ h = tt

  cast_of : (at : Spot) (to : NumberType) (s : Sort) (v : Typed) → Kind v.ty v.code s → Held (Fits program locals) (cast_rule at to s v)
  cast_of at to (Number from) v h = (subst (HasType program locals (converted from to v)) (sym (number_is_value to)) (converted_fits program locals from to v h.0), converted_word program locals from to v h.1)
  cast_of at to _ v h = tt

  pub cast_fits : (at : Spot) (to : NumberType) (v : Typed) → Fits program locals v → Held (Fits program locals) (cast_rule at to (sort_of v.ty) v)
  cast_fits at to v h = cast_of at to (sort_of v.ty) v (kind v h)

  -- a type of a sort of numbers
  pub number_of_sort : (t : Ty) (k : NumberType) → sort_of_type t ≡ Number k → t ≡ number k
  number_of_sort int Int h = refl
  number_of_sort unsigned Unsigned h = refl
  number_of_sort char Char h = refl
  number_of_sort _ _ h = absurd cc

  pointer_of_sort : (t : Ty) → sort_of_type t ≡ Pointer → IsTrue (is_pointer t)
  pointer_of_sort (pointer n t) h = refl
  pointer_of_sort int h = absurd cc
  pointer_of_sort unsigned h = absurd cc
  pointer_of_sort char h = absurd cc
  pointer_of_sort region h = absurd cc
  pointer_of_sort (struct k) h = absurd cc

  change_by_fits : (op : Option Operator) (t : Ty) (s r : Sort) (w : Typed) → sort_of_type t ≡ s → Given (λ o. IsTrue (not (is_comparison o))) op → Kind w.ty w.code r → Given (λ c. Takes program locals t c.0 c.1) (change_by op s r w)
  change_by_fits (Some op) t (Number a) (Number b) w e c k =
      let s = computed_in (is_shift op) a b in
      let r = right_in (is_shift op) a b in
      (number_of_sort t a e, c, left_fits (is_shift op) a b, (r, (right_fits (is_shift op) a b, arithmetic_fits program locals b r w k.0)))
  change_by_fits (Some Add) t Pointer (Number b) w e c k = (pointer_of_sort t e, promoted_fits program locals b w k.0)
  change_by_fits (Some Subtract) t Pointer (Number b) w e c k = (pointer_of_sort t e, promoted_fits program locals b w k.0)
  change_by_fits _ t _ _ w e c k = tt

  pub change_fits : (op : BinaryOp) (t : Ty) (w : Typed) → Fits program locals w → Given (λ c. Takes program locals t c.0 c.1) (change_of op t w)
  change_fits op t w h = change_by_fits (changing op) t (sort_of_type t) (sort_of w.ty) w refl (changing_fits op) (kind w h)

  local_has : (line x : ℕ) (t : Ty) → slice_get locals x ≡ Some t → HasType program locals (p.local line x) (value_type t)
  local_has line x t h = (t, (h, refl))

  stepped : (line x : ℕ) (d : Direction) (t : Ty) (e : p.Expr) → slice_get locals x ≡ Some t → IsTrue (is_pointer t) → ((s : Signedness) × HasType program locals e (arithmetic s)) → (left : ℕ) → HasType program locals (p.step line d (p.local left x) e) (value_type t)
  stepped line x d (pointer n u) e h q k left = (refl, refl, (pointer n u, (h, refl)), k)
  stepped line x d int e h q k left = absurd cc
  stepped line x d unsigned e h q k left = absurd cc
  stepped line x d char e h q k left = absurd cc
  stepped line x d region e h q k left = absurd cc
  stepped line x d (struct s) e h q k left = absurd cc

  -- the new value of a local that is changed
  pub changed_fits : (line left x : ℕ) (t : Ty) (c : Change) (e : p.Expr) → slice_get locals x ≡ Some t → Takes program locals t c e → HasType program locals (changed line (typed left t (p.local left x)) c e) (value_type t)
  changed_fits line left x t (Compute from op s) e h k =
      let v = typed left t (p.local left x) in
      let q : value_type t ≡ number from = ap value_type k.0 ∙ number_is_value from in
      let n : HasType program locals v.code (number from) = (t, (h, sym q)) in
      subst (HasType program locals (changed line v (Compute from op s) e)) (sym q)
      (converted_fits program locals (type_of s) from (record { line = line; ty = None; code = p.binary line op s (in_arithmetic from s v) e })
      (not_comparison (is_comparison op) s k.1, arithmetic_fits program locals from s v n, k.3))
  changed_fits line left x t (Step d) e h k = stepped line x d t e h k.0 k.1 left
