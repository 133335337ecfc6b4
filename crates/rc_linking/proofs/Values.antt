-- Values whose types are those of others by other numbers of structs.
use Rattle.std.specs.Prelude.{◌≡◌, ℕ, Option, Some, None, Bool, true, false, nat_eq, option_map, ◌&&◌}
use Rattle.std.proofs.Common.{refl, sym, ap, ◌∙◌, subst, arith}
use Rattle.std.proofs.lemmas.Bool.Decides.{nat_tests}
use Rattle.rc_syntax.specs.declared.tree.Spot.{Spot}
use Rattle.rc_syntax.specs.declared.tree.BinaryOp.{BinaryOp}
use Rattle.rc_syntax.specs.declared.tree.BinaryOp.TheVariants as written
use Rattle.rc_syntax.specs.declared.tree.UnaryOp.{UnaryOp}
use Rattle.rc_syntax.specs.declared.tree.UnaryOp.TheVariants as before
use Rattle.rc_core.specs.declared.ty.Note.{Note}
use Rattle.rc_core.specs.declared.ty.Note.TheVariants.{Plain, SameRegion, ParentPtr, Traditional}
use Rattle.rc_core.specs.declared.ty.NumberType.{NumberType}
use Rattle.rc_core.specs.declared.ty.NumberType.TheVariants.{Int, Unsigned, Char}
use Rattle.rc_core.specs.declared.ty.Signedness.{Signedness}
use Rattle.rc_core.specs.declared.ty.Signedness.TheVariants.{Signed, Unsigned as Wrapping}
use Rattle.rc_core.specs.declared.operators.Operator.{Operator}
use Rattle.rc_core.specs.declared.operators.Operator.TheVariants.{Add, Subtract, And, Xor, Or, ShiftLeft, ShiftRight, Less, Greater, LessEqual, GreaterEqual, Multiply, Divide, Remainder}
use Rattle.rc_core.specs.declared.operators.UnaryOperator.{UnaryOperator}
use Rattle.rc_core.specs.declared.operators.UnaryOperator.TheVariants.{Negate, Plus, Complement}
use Rattle.rc_core.specs.Types.{Ty, int, unsigned, char, region, struct, pointer}
use Rattle.rc_core.specs.Programs as p
use Rattle.rc_core.specs.Typing.{number, arithmetic, value_type, promoted, is_shift, is_comparison, result_if, is_struct}
use Rattle.rc_deletes.specs.declared.sort.Sort.{Sort}
use Rattle.rc_deletes.specs.declared.sort.Sort.TheVariants.{Number, Region, Pointer, Null, Struct}
use Rattle.rc_deletes.specs.Judged.{Judged, Holds}
use Rattle.rc_deletes.specs.Kinds.{sort_of, sort_of_type, same_note, same_type, same_value_type, same_types}
use Rattle.rc_deletes.specs.Values.{Typed, typed, Meant, a_value, a_variable, a_place, an_array, read_place, as_value, met, fitted_by, fitted, is_truthy, condition_rule}
use Rattle.rc_deletes.specs.Operators.{result, computed_in, computation, numbers, sum, difference, equality_operator, equality, equality_of, conjunction, disjunction, numbers_of, binary_rule, choice, conditional_rule, sign_rule, not_rule, dereference_rule, address_rule, meaning_of_value, unary_rule, cast_rule, changing, change_by, change_of}
use Rattle.rc_deletes.specs.Expressions.{inward}
use Rattle.rc_linking.proofs.Sim.{Sim, Simo, Any, sim_part, sim_if}

pub both_true : (a b : Bool) → a && b ≡ true → (a ≡ true) × (b ≡ true)
both_true true b h = (refl, h)
both_true false b h = absurd cc

pub and_true : (a b : Bool) → a ≡ true → b ≡ true → a && b ≡ true
and_true true b h k = k
and_true false b h k = absurd cc

same_number : (k l : ℕ) → nat_eq k l ≡ true → k ≡ l
same_number k l h = grind (arith, nat_tests)

own_number : (k : ℕ) → nat_eq k k ≡ true
own_number k = grind (arith, nat_tests)

pub note_is : (m n : Note) → same_note m n ≡ true → m ≡ n
note_is Plain Plain h = refl
note_is SameRegion SameRegion h = refl
note_is ParentPtr ParentPtr h = refl
note_is Traditional Traditional h = refl
note_is _ _ h = absurd cc

pub own_note : (n : Note) → same_note n n ≡ true
own_note Plain = refl
own_note SameRegion = refl
own_note ParentPtr = refl
own_note Traditional = refl

pub own_type : (t : Ty) → same_type t t ≡ true
own_type int = refl
own_type unsigned = refl
own_type char = refl
own_type region = refl
own_type (struct k) = own_number k
own_type (pointer n t) = and_true (same_note n n) (same_type t t) (own_note n) (own_type t)

-- what kind of place it is, as `&` looks at it
pub data Kind : Type 0 where
  a_whole_global : Kind
  an_element : Kind
  another : Kind

abbrev pub kind_of : p.Place → Kind
kind_of (p.global g p.here) = a_whole_global
kind_of (p.indexed e i p.here) = an_element
kind_of place = another

inward_field : (place : p.Place) (s f : ℕ) (rest : p.Path) → kind_of (inward place (p.field s f rest)) ≡ another
inward_field (p.global g p.here) s f rest = refl
inward_field (p.global g (p.field u v path)) s f rest = refl
inward_field (p.global g (p.element u v i path)) s f rest = refl
inward_field (p.pointed e path) s f rest = refl
inward_field (p.indexed e i p.here) s f rest = refl
inward_field (p.indexed e i (p.field u v path)) s f rest = refl
inward_field (p.indexed e i (p.element u v j path)) s f rest = refl

inward_element : (place : p.Place) (s f : ℕ) (k : p.Expr) (rest : p.Path) → kind_of (inward place (p.element s f k rest)) ≡ another
inward_element (p.global g p.here) s f k rest = refl
inward_element (p.global g (p.field u v path)) s f k rest = refl
inward_element (p.global g (p.element u v i path)) s f k rest = refl
inward_element (p.pointed e path) s f k rest = refl
inward_element (p.indexed e i p.here) s f k rest = refl
inward_element (p.indexed e i (p.field u v path)) s f k rest = refl
inward_element (p.indexed e i (p.element u v j path)) s f k rest = refl

pub one_field : (a b : p.Place) (s f u v : ℕ) → kind_of (inward a (p.field s f p.here)) ≡ kind_of (inward b (p.field u v p.here))
one_field a b s f u v = inward_field a s f p.here ∙ sym (inward_field b u v p.here)

pub one_element : (a b : p.Place) (s f u v : ℕ) (i j : p.Expr) → kind_of (inward a (p.element s f i p.here)) ≡ kind_of (inward b (p.element u v j p.here))
one_element a b s f u v i j = inward_element a s f i p.here ∙ sym (inward_element b u v j p.here)

module _ (ren : ℕ → ℕ) where
  abbrev pub ren_ty : Ty → Ty
  ren_ty int = int
  ren_ty unsigned = unsigned
  ren_ty char = char
  ren_ty region = region
  ren_ty (struct k) = struct (ren k)
  ren_ty (pointer n t) = pointer n (ren_ty t)

  pub sort_same : (t : Ty) → sort_of_type (ren_ty t) ≡ sort_of_type t
  sort_same int = refl
  sort_same unsigned = refl
  sort_same char = refl
  sort_same region = refl
  sort_same (struct k) = refl
  sort_same (pointer n t) = refl

  sort_option : (o : Option Ty) → sort_of (option_map ren_ty o) ≡ sort_of o
  sort_option None = refl
  sort_option (Some t) = sort_same t

  pub value_same : (t : Ty) → value_type (ren_ty t) ≡ ren_ty (value_type t)
  value_same int = refl
  value_same unsigned = refl
  value_same char = refl
  value_same region = refl
  value_same (struct k) = refl
  value_same (pointer n t) = refl

  pub struct_same : (t : Ty) → is_struct (ren_ty t) ≡ is_struct t
  struct_same int = refl
  struct_same unsigned = refl
  struct_same char = refl
  struct_same region = refl
  struct_same (struct k) = refl
  struct_same (pointer n t) = refl

  pub same_more : (t u : Ty) → same_type t u ≡ true → same_type (ren_ty t) (ren_ty u) ≡ true
  same_more int int h = refl
  same_more unsigned unsigned h = refl
  same_more char char h = refl
  same_more region region h = refl
  same_more (struct k) (struct l) h = subst (λ x. nat_eq (ren k) (ren x) ≡ true) (same_number k l h) (own_number (ren k))
  same_more (pointer m t) (pointer n u) h =
      let q = both_true (same_note m n) (same_type t u) h in
      and_true (same_note m n) (same_type (ren_ty t) (ren_ty u)) q.0 (same_more t u q.1)
  same_more _ _ h = absurd cc

  same_value_more : (t u : Ty) → same_value_type t u ≡ true → same_value_type (ren_ty t) (ren_ty u) ≡ true
  same_value_more (pointer m t) (pointer n u) h = same_more t u h
  same_value_more int int h = refl
  same_value_more unsigned unsigned h = refl
  same_value_more char char h = refl
  same_value_more region region h = refl
  same_value_more (struct k) (struct l) h = same_more (struct k) (struct l) h
  same_value_more _ _ h = absurd cc

  same_types_more : (t u : Option Ty) → same_types t u ≡ true → same_types (option_map ren_ty t) (option_map ren_ty u) ≡ true
  same_types_more (Some t) (Some u) h = same_value_more t u h
  same_types_more None _ h = absurd cc
  same_types_more (Some t) None h = absurd cc

  number_same : (k : NumberType) → ren_ty (number k) ≡ number k
  number_same Int = refl
  number_same Unsigned = refl
  number_same Char = refl

  pub arithmetic_same : (s : Signedness) → ren_ty (arithmetic s) ≡ arithmetic s
  arithmetic_same Signed = refl
  arithmetic_same Wrapping = refl

  result_same : (c : Bool) (s : Signedness) → ren_ty (result_if c s) ≡ result_if c s
  result_same true s = refl
  result_same false s = arithmetic_same s

  -- of the same type, by the other numbers
  abbrev pub IsTyped : Typed → Typed → Type 0
  IsTyped v w = w.ty ≡ option_map ren_ty v.ty

  abbrev pub IsMeant : Meant → Meant → Type 0
  IsMeant (a_value v) (a_value w) = IsTyped v w
  IsMeant (a_variable x t) (a_variable y u) = u ≡ ren_ty t
  IsMeant (a_place a t) (a_place b u) = (kind_of b ≡ kind_of a) × (u ≡ ren_ty t)
  IsMeant (an_array a s f t) (an_array b r g u) = u ≡ ren_ty t
  IsMeant _ _ = ⊥

  pub same_sort : (v w : Typed) → IsTyped v w → sort_of w.ty ≡ sort_of v.ty
  same_sort v w h = ap sort_of h ∙ sort_option v.ty

  pub by_sort : (P : Sort → Type 0) (v w : Typed) → IsTyped v w → P (sort_of v.ty) → P (sort_of w.ty)
  by_sort P v w h k = subst P (sym (same_sort v w h)) k

  pub result_typed : (line m : ℕ) (t u : Ty) (e f : p.Expr) → u ≡ ren_ty t → IsTyped (result line t e) (result m u f)
  result_typed line m t u e f h = ap Some h

  pub typed_typed : (line m : ℕ) (t u : Ty) (e f : p.Expr) → u ≡ ren_ty t → IsTyped (typed line t e) (typed m u f)
  typed_typed line m t u e f h = ap Some (ap value_type h ∙ value_same t)

  computation_sim : (line m : ℕ) (op : Operator) (a : NumberType) (v w : Typed) (b : NumberType) (x y : Typed) → IsTyped (computation line op a v b x) (computation m op a w b y)
  computation_sim line m op a v w b x y = ap Some (sym (result_same (is_comparison op) (computed_in (is_shift op) a b)))

  numbers_sim : (at spot : Spot) (op : Operator) (s r : Sort) (v w x y : Typed) → Sim IsTyped (numbers at op s v r x) (numbers spot op s w r y)
  numbers_sim at spot op (Number a) (Number b) v w x y = computation_sim at.line spot.line op a v w b x y
  numbers_sim at spot op _ _ v w x y = tt

  sum_sim : (at spot : Spot) (s r : Sort) (v w x y : Typed) → IsTyped v w → IsTyped x y → Sim IsTyped (sum at s v r x) (sum spot s w r y)
  sum_sim at spot (Number a) (Number b) v w x y h k = computation_sim at.line spot.line Add a v w b x y
  sum_sim at spot Pointer (Number b) v w x y h k = h
  sum_sim at spot (Number a) Pointer v w x y h k = k
  sum_sim at spot _ _ v w x y h k = tt

  difference_sim : (at spot : Spot) (s r : Sort) (v w x y : Typed) → IsTyped v w → Sim IsTyped (difference at s v r x) (difference spot s w r y)
  difference_sim at spot (Number a) (Number b) v w x y h = computation_sim at.line spot.line Subtract a v w b x y
  difference_sim at spot Pointer (Number b) v w x y h = h
  difference_sim at spot _ _ v w x y h = tt

  equality_sim : (at spot : Spot) (wanted c d : Bool) (s r : Sort) (v w x y : Typed) → (c ≡ true → d ≡ true) → Sim IsTyped (equality at wanted c s v r x) (equality spot wanted d s w r y)
  equality_sim at spot wanted c d (Number a) (Number b) v w x y h = computation_sim at.line spot.line (equality_operator wanted) a v w b x y
  equality_sim at spot wanted true true Pointer Pointer v w x y h = refl
  equality_sim at spot wanted true false Pointer Pointer v w x y h = absurd (differ (h refl)) where
    differ : false ≡ true → ⊥
    differ e = cc
  equality_sim at spot wanted c d Region Region v w x y h = refl
  equality_sim at spot wanted _ true Pointer Null v w x y h = refl
  equality_sim at spot wanted _ false Pointer Null v w x y h = refl
  equality_sim at spot wanted c d Region Null v w x y h = refl
  equality_sim at spot wanted c d Null Pointer v w x y h = refl
  equality_sim at spot wanted c d Null Region v w x y h = refl
  equality_sim at spot wanted c d _ _ v w x y h = tt

  equality_of_sim : (at spot : Spot) (wanted : Bool) (v w x y : Typed) → IsTyped v w → IsTyped x y → Sim IsTyped (equality_of at wanted v x) (equality_of spot wanted w y)
  equality_of_sim at spot wanted v w x y h k =
      by_sort (λ s. Sim IsTyped (equality_of at wanted v x) (equality spot wanted (same_types w.ty y.ty) s w (sort_of y.ty) y)) v w h
      (by_sort (λ s. Sim IsTyped (equality_of at wanted v x) (equality spot wanted (same_types w.ty y.ty) (sort_of v.ty) w s y)) x y k
      (equality_sim at spot wanted (same_types v.ty x.ty) (same_types w.ty y.ty) (sort_of v.ty) (sort_of x.ty) v w x y
      (λ q. subst (λ a. same_types a y.ty ≡ true) (sym h) (subst (λ b. same_types (option_map ren_ty v.ty) b ≡ true) (sym k) (same_types_more v.ty x.ty q)))))

  truthy_same : (v w : Typed) → IsTyped v w → is_truthy (sort_of v.ty) ≡ true → is_truthy (sort_of w.ty) ≡ true
  truthy_same v w h k = by_sort (λ s. is_truthy s ≡ true) v w h k

  both_truthy : (v w x y : Typed) → IsTyped v w → IsTyped x y → is_truthy (sort_of v.ty) && is_truthy (sort_of x.ty) ≡ true → is_truthy (sort_of w.ty) && is_truthy (sort_of y.ty) ≡ true
  both_truthy v w x y h k q =
      let r = both_true (is_truthy (sort_of v.ty)) (is_truthy (sort_of x.ty)) q in
      and_true (is_truthy (sort_of w.ty)) (is_truthy (sort_of y.ty)) (truthy_same v w h r.0) (truthy_same x y k r.1)

  conjunction_sim : (at spot : Spot) (v w x y : Typed) → IsTyped v w → IsTyped x y → Sim IsTyped (conjunction at v x) (conjunction spot w y)
  conjunction_sim at spot v w x y h k = sim_if IsTyped at spot (is_truthy (sort_of v.ty) && is_truthy (sort_of x.ty)) (is_truthy (sort_of w.ty) && is_truthy (sort_of y.ty)) (result at.line int (p.and at.line v.code x.code)) (result spot.line int (p.and spot.line w.code y.code)) (λ q. (both_truthy v w x y h k q, refl))

  disjunction_sim : (at spot : Spot) (v w x y : Typed) → IsTyped v w → IsTyped x y → Sim IsTyped (disjunction at v x) (disjunction spot w y)
  disjunction_sim at spot v w x y h k = sim_if IsTyped at spot (is_truthy (sort_of v.ty) && is_truthy (sort_of x.ty)) (is_truthy (sort_of w.ty) && is_truthy (sort_of y.ty)) (result at.line int (p.or at.line v.code x.code)) (result spot.line int (p.or spot.line w.code y.code)) (λ q. (both_truthy v w x y h k q, refl))

  two_sorts : (P : Sort → Sort → Type 0) (v w x y : Typed) → IsTyped v w → IsTyped x y → P (sort_of v.ty) (sort_of x.ty) → P (sort_of w.ty) (sort_of y.ty)
  two_sorts P v w x y h k q = by_sort (λ s. P s (sort_of y.ty)) v w h (by_sort (λ s. P (sort_of v.ty) s) x y k q)

  numbers_of_sim : (at spot : Spot) (op : Operator) (v w x y : Typed) → IsTyped v w → IsTyped x y → Sim IsTyped (numbers_of at op v x) (numbers_of spot op w y)
  numbers_of_sim at spot op v w x y h k = two_sorts (λ s r. Sim IsTyped (numbers_of at op v x) (numbers spot op s w r y)) v w x y h k (numbers_sim at spot op (sort_of v.ty) (sort_of x.ty) v w x y)

  pub binary_sim : (at spot : Spot) (op : BinaryOp) (v w x y : Typed) → IsTyped v w → IsTyped x y → Sim IsTyped (binary_rule at op v x) (binary_rule spot op w y)
  binary_sim at spot written.LogicalOr v w x y h k = disjunction_sim at spot v w x y h k
  binary_sim at spot written.LogicalAnd v w x y h k = conjunction_sim at spot v w x y h k
  binary_sim at spot written.BitOr v w x y h k = numbers_of_sim at spot Or v w x y h k
  binary_sim at spot written.BitXor v w x y h k = numbers_of_sim at spot Xor v w x y h k
  binary_sim at spot written.BitAnd v w x y h k = numbers_of_sim at spot And v w x y h k
  binary_sim at spot written.Equal v w x y h k = equality_of_sim at spot true v w x y h k
  binary_sim at spot written.NotEqual v w x y h k = equality_of_sim at spot false v w x y h k
  binary_sim at spot written.Less v w x y h k = numbers_of_sim at spot Less v w x y h k
  binary_sim at spot written.Greater v w x y h k = numbers_of_sim at spot Greater v w x y h k
  binary_sim at spot written.LessEqual v w x y h k = numbers_of_sim at spot LessEqual v w x y h k
  binary_sim at spot written.GreaterEqual v w x y h k = numbers_of_sim at spot GreaterEqual v w x y h k
  binary_sim at spot written.ShiftLeft v w x y h k = numbers_of_sim at spot ShiftLeft v w x y h k
  binary_sim at spot written.ShiftRight v w x y h k = numbers_of_sim at spot ShiftRight v w x y h k
  binary_sim at spot written.Add v w x y h k = two_sorts (λ s r. Sim IsTyped (binary_rule at written.Add v x) (sum spot s w r y)) v w x y h k (sum_sim at spot (sort_of v.ty) (sort_of x.ty) v w x y h k)
  binary_sim at spot written.Subtract v w x y h k = two_sorts (λ s r. Sim IsTyped (binary_rule at written.Subtract v x) (difference spot s w r y)) v w x y h k (difference_sim at spot (sort_of v.ty) (sort_of x.ty) v w x y h)
  binary_sim at spot written.Multiply v w x y h k = numbers_of_sim at spot Multiply v w x y h k
  binary_sim at spot written.Divide v w x y h k = numbers_of_sim at spot Divide v w x y h k
  binary_sim at spot written.Remainder v w x y h k = numbers_of_sim at spot Remainder v w x y h k

  choice_sim : (at spot : Spot) (c d : Bool) (e f : p.Expr) (s r : Sort) (v w x y : Typed) → (c ≡ true → d ≡ true) → Sim IsTyped (choice at c e s v r x) (choice spot d f s w r y)
  choice_sim at spot true true e f (Number a) (Number b) v w x y h = ap Some (sym (arithmetic_same (met a b)))
  choice_sim at spot true false e f s r v w x y h = absurd (differ (h refl)) where
    differ : false ≡ true → ⊥
    differ e = cc
  choice_sim at spot _ d e f _ _ v w x y h = tt

  pub conditional_sim : (at spot : Spot) (u z v w x y : Typed) → IsTyped u z → IsTyped v w → IsTyped x y → Sim IsTyped (conditional_rule at u v x) (conditional_rule spot z w y)
  conditional_sim at spot u z v w x y g h k = two_sorts (λ s r. Sim IsTyped (conditional_rule at u v x) (choice spot (is_truthy (sort_of z.ty)) z.code s w r y)) v w x y h k (choice_sim at spot (is_truthy (sort_of u.ty)) (is_truthy (sort_of z.ty)) u.code z.code (sort_of v.ty) (sort_of x.ty) v w x y (truthy_same u z g))

  pub meaning_sim : (x y : Judged Typed) → Sim IsTyped x y → Sim IsMeant (meaning_of_value x) (meaning_of_value y)
  meaning_sim x y h = sim_part IsTyped IsMeant x y (λ v. Holds (a_value v)) (λ v. Holds (a_value v)) h (λ v w k. k)

  sign_sim : (at spot : Spot) (op : UnaryOperator) (s : Sort) (v w : Typed) → Sim IsTyped (sign_rule at op s v) (sign_rule spot op s w)
  sign_sim at spot op (Number a) v w = ap Some (sym (arithmetic_same (promoted a)))
  sign_sim at spot op _ v w = tt

  not_sim : (at spot : Spot) (s : Sort) (v w : Typed) → Sim IsTyped (not_rule at s v) (not_rule spot s w)
  not_sim at spot (Number a) v w = refl
  not_sim at spot Region v w = refl
  not_sim at spot Pointer v w = refl
  not_sim at spot _ v w = tt

  dereference_sim : (at spot : Spot) (t u : Option Ty) (e f : p.Expr) → u ≡ option_map ren_ty t → Sim IsMeant (dereference_rule at t e) (dereference_rule spot u f)
  dereference_sim at spot t u e f h = subst (λ x. Sim IsMeant (dereference_rule at t e) (dereference_rule spot x f)) (sym h) (by t) where
    by : (t : Option Ty) → Sim IsMeant (dereference_rule at t e) (dereference_rule spot (option_map ren_ty t) f)
    by (Some (pointer n t)) = (refl, refl)
    by _ = tt

  pub unary_sim : (at spot : Spot) (op : UnaryOp) (v w : Typed) → IsTyped v w → Sim IsMeant (unary_rule at op v) (unary_rule spot op w)
  unary_sim at spot before.Minus v w h = meaning_sim _ _ (by_sort (λ s. Sim IsTyped (sign_rule at Negate (sort_of v.ty) v) (sign_rule spot Negate s w)) v w h (sign_sim at spot Negate (sort_of v.ty) v w))
  unary_sim at spot before.Plus v w h = meaning_sim _ _ (by_sort (λ s. Sim IsTyped (sign_rule at Plus (sort_of v.ty) v) (sign_rule spot Plus s w)) v w h (sign_sim at spot Plus (sort_of v.ty) v w))
  unary_sim at spot before.Not v w h = meaning_sim _ _ (by_sort (λ s. Sim IsTyped (not_rule at (sort_of v.ty) v) (not_rule spot s w)) v w h (not_sim at spot (sort_of v.ty) v w))
  unary_sim at spot before.Complement v w h = meaning_sim _ _ (by_sort (λ s. Sim IsTyped (sign_rule at Complement (sort_of v.ty) v) (sign_rule spot Complement s w)) v w h (sign_sim at spot Complement (sort_of v.ty) v w))
  unary_sim at spot before.Dereference v w h = dereference_sim at spot v.ty w.ty v.code w.code h
  unary_sim at spot before.Address v w h = tt

  cast_by : (at spot : Spot) (to : NumberType) (s : Sort) (v w : Typed) → Sim IsTyped (cast_rule at to s v) (cast_rule spot to s w)
  cast_by at spot to (Number a) v w = ap Some (sym (number_same to))
  cast_by at spot to _ v w = tt

  pub cast_sim : (at spot : Spot) (to : NumberType) (v w : Typed) → IsTyped v w → Sim IsTyped (cast_rule at to (sort_of v.ty) v) (cast_rule spot to (sort_of w.ty) w)
  cast_sim at spot to v w h = by_sort (λ s. Sim IsTyped (cast_rule at to (sort_of v.ty) v) (cast_rule spot to s w)) v w h (cast_by at spot to (sort_of v.ty) v w)

  address_by : (at spot : Spot) (a b : p.Place) (t u : Ty) → kind_of b ≡ kind_of a → u ≡ ren_ty t → Sim IsTyped (address_rule at (a_place a t)) (address_rule spot (a_place b u))
  address_by at spot (p.global g p.here) (p.global h p.here) t u k e = ap (λ x. Some (pointer Plain x)) e
  address_by at spot (p.indexed x i p.here) (p.indexed y j p.here) t u k e = ap (λ x. Some (pointer Plain x)) e
  address_by at spot (p.global g p.here) (p.global h (p.field r f q)) t u k e = absurd cc
  address_by at spot (p.global g p.here) (p.global h (p.element r f j q)) t u k e = absurd cc
  address_by at spot (p.global g p.here) (p.pointed y q) t u k e = absurd cc
  address_by at spot (p.global g p.here) (p.indexed y j (p.field r f q)) t u k e = absurd cc
  address_by at spot (p.global g p.here) (p.indexed y j (p.element r f l q)) t u k e = absurd cc
  address_by at spot (p.global g p.here) (p.indexed y j p.here) t u k e = absurd cc
  address_by at spot (p.indexed x i p.here) (p.global h (p.field r f q)) t u k e = absurd cc
  address_by at spot (p.indexed x i p.here) (p.global h (p.element r f j q)) t u k e = absurd cc
  address_by at spot (p.indexed x i p.here) (p.pointed y q) t u k e = absurd cc
  address_by at spot (p.indexed x i p.here) (p.indexed y j (p.field r f q)) t u k e = absurd cc
  address_by at spot (p.indexed x i p.here) (p.indexed y j (p.element r f l q)) t u k e = absurd cc
  address_by at spot (p.indexed x i p.here) (p.global h p.here) t u k e = absurd cc
  address_by at spot _ _ t u k e = tt

  pub address_sim : (at spot : Spot) (m n : Meant) → IsMeant m n → Sim IsTyped (address_rule at m) (address_rule spot n)
  address_sim at spot (a_place a t) (a_place b u) h = address_by at spot a b t u h.0 h.1
  address_sim at spot (a_place a t) (a_value w) h = absurd h
  address_sim at spot (a_place a t) (a_variable y u) h = absurd h
  address_sim at spot (a_place a t) (an_array b r g u) h = absurd h
  address_sim at spot (a_value v) _ h = tt
  address_sim at spot (a_variable x t) _ h = tt
  address_sim at spot (an_array a s f t) _ h = tt

  -- values of things
  read_sim : (at spot : Spot) (s : Sort) (a b : p.Place) (t u : Ty) → u ≡ ren_ty t → Sim IsTyped (read_place at s a t) (read_place spot s b u)
  read_sim at spot Struct a b t u h = tt
  read_sim at spot _ a b t u h = typed_typed at.line spot.line t u (p.read at.line a) (p.read spot.line b) h

  pub value_sim : (at spot : Spot) (m n : Meant) → IsMeant m n → Sim IsTyped (as_value at m) (as_value spot n)
  value_sim at spot (a_value v) (a_value w) h = h
  value_sim at spot (a_variable x t) (a_variable y u) h = typed_typed at.line spot.line t u (p.local at.line x) (p.local spot.line y) h
  value_sim at spot (a_place a t) (a_place b u) h = subst (λ s. Sim IsTyped (as_value at (a_place a t)) (read_place spot s b u)) (sym (ap sort_of_type h.1 ∙ sort_same t)) (read_sim at spot (sort_of_type t) a b t u h.1)
  value_sim at spot (an_array a s f t) n h = tt
  value_sim at spot (a_value v) (a_variable y u) h = absurd h
  value_sim at spot (a_value v) (a_place b u) h = absurd h
  value_sim at spot (a_value v) (an_array b r g u) h = absurd h
  value_sim at spot (a_variable x t) (a_value w) h = absurd h
  value_sim at spot (a_variable x t) (a_place b u) h = absurd h
  value_sim at spot (a_variable x t) (an_array b r g u) h = absurd h
  value_sim at spot (a_place a t) (a_value w) h = absurd h
  value_sim at spot (a_place a t) (a_variable y u) h = absurd h
  value_sim at spot (a_place a t) (an_array b r g u) h = absurd h

  fitted_by_sim : (s r : Sort) (c d : Bool) (v w : Typed) → (c ≡ true → d ≡ true) → Simo Any (fitted_by s r c v) (fitted_by s r d w)
  fitted_by_sim (Number to) (Number from) c d v w h = tt
  fitted_by_sim Region Region c d v w h = tt
  fitted_by_sim Region Null c d v w h = tt
  fitted_by_sim Pointer Null c d v w h = tt
  fitted_by_sim Pointer Pointer true true v w h = tt
  fitted_by_sim Pointer Pointer true false v w h = absurd (differ (h refl)) where
    differ : false ≡ true → ⊥
    differ e = cc
  fitted_by_sim _ _ _ d v w h = tt

  pub fitted_sim : (t u : Ty) (v w : Typed) → u ≡ ren_ty t → IsTyped v w → Simo Any (fitted t v) (fitted u w)
  fitted_sim t u v w e h = subst (λ x. Simo Any (fitted t v) (fitted x w)) (sym e)
      (subst (λ s. Simo Any (fitted t v) (fitted_by s (sort_of w.ty) (same_types (Some (ren_ty t)) w.ty) w)) (sym (sort_same t))
      (by_sort (λ s. Simo Any (fitted t v) (fitted_by (sort_of_type t) s (same_types (Some (ren_ty t)) w.ty) w)) v w h
      (fitted_by_sim (sort_of_type t) (sort_of v.ty) (same_types (Some t) v.ty) (same_types (Some (ren_ty t)) w.ty) v w
      (λ q. subst (λ x. same_types (Some (ren_ty t)) x ≡ true) (sym h) (same_types_more (Some t) v.ty q)))))

  pub condition_sim : (at spot : Spot) (v w : Typed) → IsTyped v w → Sim Any (condition_rule at v) (condition_rule spot w)
  condition_sim at spot v w h = sim_if Any at spot (is_truthy (sort_of v.ty)) (is_truthy (sort_of w.ty)) v.code w.code (λ q. (truthy_same v w h q, tt))

  change_by_sim : (op : Option Operator) (s r : Sort) (v w : Typed) → Simo Any (change_by op s r v) (change_by op s r w)
  change_by_sim (Some op) (Number a) (Number b) v w = tt
  change_by_sim (Some Add) Pointer (Number b) v w = tt
  change_by_sim (Some Subtract) Pointer (Number b) v w = tt
  change_by_sim _ _ _ v w = tt

  pub change_sim : (op : BinaryOp) (t u : Ty) (v w : Typed) → u ≡ ren_ty t → IsTyped v w → Simo Any (change_of op t v) (change_of op u w)
  change_sim op t u v w e h = subst (λ s. Simo Any (change_of op t v) (change_by (changing op) s (sort_of w.ty) w)) (sym (ap sort_of_type e ∙ sort_same t))
      (by_sort (λ s. Simo Any (change_of op t v) (change_by (changing op) (sort_of_type t) s w)) v w h (change_by_sim (changing op) (sort_of_type t) (sort_of v.ty) v w))
