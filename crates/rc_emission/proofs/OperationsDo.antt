-- Stack code of each operation does what the operation does, in any world.
use Rattle.std.proofs.Common.{◌≡◌, ◌<◌, ℕ, suc, ◌+◌, Bool, true, false, not, List, [], ◌∷◌, ◌++◌, length, map, refl, ap, ◌∙◌, arith}
use Rattle.rc_core.specs.declared.ty.Signedness.{Signedness}
use Rattle.rc_core.specs.declared.operators.UnaryOperator.{UnaryOperator}
use Rattle.rc_core.specs.declared.operators.Operator.{Operator}
use Rattle.rc_core.specs.Types.{Ty, int, region}
use Rattle.rc_core.specs.Layout.{Layout}
use Rattle.rc_core.specs.Typing.{arithmetic, is_shift, value_type}
use Rattle.rc_core.specs.Arithmetic.{calculate, calculate_one, truth}
use Rattle.rc_core.specs.Heap.{Value, Number}
use Rattle.rc_core.specs.Runs.{Run, Go, bind, branching, computed, Calls, Ops}
use Rattle.rc_core.specs.Evaluation.{number_in, is_true, local_at, give_number, as_wanted, same_value}
use Rattle.rc_rlang.specs.RegionCode as From
use Rattle.rc_rlang.specs.RegionCode.{Kind, numeric, regional, kind_of, Operation}
use Rattle.rc_rlang.specs.RegionRuns.{Temporaries, at_kind, temporary, temporaries_from, kept_all, holds, pin_when, pins_from, pinned, operation_value}
use Rattle.rc_emission.specs.StackCode.{Instruction, Line, Onward, given}
use Rattle.rc_rlang.specs.RegionFits.{operands, pushed}
use Rattle.rc_emission.specs.OperationCode.{at, zero_test, wanted_code, compared, count_code, operation_code}
use Rattle.rc_emission.specs.Served.{OperationServed}
use Rattle.rc_emission.specs.StatementCode.{call_pins, set_code}
use Rattle.rc_translation.proofs.ValueKinds.{kind_arithmetic}
use Rattle.rc_emission.proofs.Singles.{on, one_does, on_temporaries, at_two, count_does, count_is, counted_value, compared_does, zero_does, flipped_twice, values_in, length_types, load_does, step_does, convert_does}
use Rattle.rc_emission.specs.Pieces.{stack_of}
use Rattle.rc_emission.specs.StackCode as To

-- the pins are there, and have the values that are held
pinned_from : (tys : List Ty) (x l : ℕ) (live : ℕ → Bool) (locals env : List Value) → x + length tys < suc l → ((y : ℕ) → y < l → local_at locals y ≡ local_at env y) → pinned (pins_from tys x live) locals ≡ pinned (pins_from tys x live) env
pinned_from [] x l live locals env le same = refl
pinned_from (ty ∷ tys) x l live locals env le same = by (pinned_from tys (suc x) l live locals env (omega (arith, le)) same) (kind_of ty) (live x)
  where
    by : pinned (pins_from tys (suc x) live) locals ≡ pinned (pins_from tys (suc x) live) env → (k : Kind) (b : Bool) → pinned (pin_when k b x (pins_from tys (suc x) live)) locals ≡ pinned (pin_when k b x (pins_from tys (suc x) live)) env
    by rest regional true = ap (λ v. v ∷ pinned (pins_from tys (suc x) live) locals) (same x (omega (arith, le))) ∙ ap (λ vs. local_at env x ∷ vs) rest
    by rest regional false = rest
    by rest numeric b = rest

pub pinned_same : (types : List Ty) (live : ℕ → Bool) (locals env : List Value) → ((y : ℕ) → y < length types → local_at locals y ≡ local_at env y) → pinned (pins_from types 0 live) locals ≡ pinned (pins_from types 0 live) env
pinned_same types live locals env same = pinned_from types 0 (length types) live locals env (omega arith) same

module _ {W : Type 0} (ops : Ops W) (deleting : ℕ → Bool) (types : List Ty) (slot : ℕ → Ty → ℕ) (calls : Calls W) (again : Onward W) where
  abbrev go : List Line → (stack locals : List Value) → W → Run W Value
  go code stack locals w = on ops deleting calls again code stack locals w

  abbrev pub SetDoes : ℕ → ℕ → Ty → Operation → Type 0
  SetDoes line h ty op = (below : List Ty) (base : ℕ) (t : Temporaries) (env locals : List Value) (live : ℕ → Bool) (rest : List Line) (w : W) → h ≡ base + length below → OperationServed types ty op → ((x : ℕ) → x < length types → local_at locals x ≡ local_at env x) →
      go (at line (set_code slot deleting types h ty op live) ++ rest) (stack_of (pushed (operands ty op) below) base t) locals w ≡ bind (operation_value ops deleting types line op calls live env t h w) (λ v w1. go rest (v ∷ stack_of below base t) locals w1)

  -- one instruction that does what is done
  one_instruction : (line h : ℕ) (i : Instruction) (tys below : List Ty) (base : ℕ) (t : Temporaries) (locals : List Value) (rest : List Line) (w : W) → h ≡ base + length below → To.takes i ≡ length tys →
      ((stack : List Value) (w : W) → go (record { line = line; instruction = i } ∷ rest) stack locals w ≡ To.popped (To.takes i) stack [] (λ vs st. bind (given ops deleting line i calls locals vs w) (λ v. go rest (v ∷ st) locals)) w) →
      go (record { line = line; instruction = i } ∷ rest) (stack_of (pushed tys below) base t) locals w ≡ bind (given ops deleting line i calls locals (temporaries_from tys t h) w) (λ v w1. go rest (v ∷ stack_of below base t) locals w1)
  one_instruction line h i tys below base t locals rest w e n step = one_does ops deleting calls again line i tys below base h t locals rest w e n step

  copy_sets : (line h : ℕ) (ty : Ty) (x : ℕ) → SetDoes line h ty (From.copy x)
  copy_sets line h ty x below base t env locals live rest w e f same = ap (λ v. go rest (v ∷ stack_of below base t) locals w) (same x f)

  unary_sets : (line h : ℕ) (ty : Ty) (operator : UnaryOperator) (s : Signedness) → SetDoes line h ty (From.unary operator s)
  unary_sets line h ty operator s below base t env locals live rest w e f same =
      one_instruction line h (To.unary operator s) (arithmetic s ∷ []) below base t locals rest w e refl (λ stack w. refl)
      ∙ ap (λ k. bind (bind (computed line (calculate_one operator s (number_in (at_kind k t h))) w) give_number) (λ v w1. go rest (v ∷ stack_of below base t) locals w1)) (kind_arithmetic s)

  binary_sets : (line h : ℕ) (ty : Ty) (operator : Operator) (s : Signedness) (right : Ty) → SetDoes line h ty (From.binary operator s right)
  binary_sets line h ty operator s right below base t env locals live rest w e f same =
      on_temporaries ops deleting calls again (at line (count_code (is_shift operator) right ++ compared operator s) ++ rest) (arithmetic s ∷ right ∷ []) below base h t locals w e
      ∙ ap (λ c. go c (temporary right t (suc h) ∷ temporary (arithmetic s) t h ∷ stack_of below base t) locals w) (at_two ops deleting calls again line (count_code (is_shift operator) right) (compared operator s) rest)
      ∙ count_does ops deleting calls again line (is_shift operator) right (temporary right t (suc h)) (temporary (arithmetic s) t h ∷ stack_of below base t) locals (at line (compared operator s) ++ rest) w
      ∙ compared_does ops deleting calls again line operator s (temporary (arithmetic s) t h) (counted_value ops deleting calls again (is_shift operator) right (temporary right t (suc h))) (stack_of below base t) locals rest w
      ∙ ap (λ k. bind (bind (computed line (calculate operator s (number_in (at_kind k t h)) (number_in (counted_value ops deleting calls again (is_shift operator) right (temporary right t (suc h))))) w) give_number) (λ v w1. go rest (v ∷ stack_of below base t) locals w1)) (kind_arithmetic s)
      ∙ ap (λ n. bind (bind (computed line (calculate operator s (number_in (t.numbers h)) n) w) give_number) (λ v w1. go rest (v ∷ stack_of below base t) locals w1)) (count_is ops deleting calls again (is_shift operator) right (temporary right t (suc h)))

  not_sets : (line h : ℕ) (ty of : Ty) → SetDoes line h ty (From.not_zero of)
  not_sets line h ty of below base t env locals live rest w e f same =
      on_temporaries ops deleting calls again (at line (zero_test of) ++ rest) (of ∷ []) below base h t locals w e
      ∙ zero_does ops deleting calls again line of (temporary of t h) (stack_of below base t) locals rest w

  pub twice_not : (b : Bool) → as_wanted false (is_true (as_wanted false b)) ≡ as_wanted true b
  twice_not true = refl
  twice_not false = refl

  truth_sets : (line h : ℕ) (ty of : Ty) → SetDoes line h ty (From.truth of)
  truth_sets line h ty of below base t env locals live rest w e f same =
      on_temporaries ops deleting calls again (at line (zero_test of ++ To.zero_test ∷ []) ++ rest) (of ∷ []) below base h t locals w e
      ∙ ap (λ c. go c (temporary of t h ∷ stack_of below base t) locals w) (at_two ops deleting calls again line (zero_test of) (To.zero_test ∷ []) rest)
      ∙ zero_does ops deleting calls again line of (temporary of t h) (stack_of below base t) locals (at line (To.zero_test ∷ []) ++ rest) w
      ∙ ap (λ v. go rest (v ∷ stack_of below base t) locals w) (twice_not (holds of (temporary of t h)))

  null_sets : (line h : ℕ) (ty of : Ty) (wanted : Bool) → SetDoes line h ty (From.is_null wanted of)
  null_sets line h ty of wanted below base t env locals live rest w e f same =
      on_temporaries ops deleting calls again (at line (To.null_test of ∷ wanted_code wanted) ++ rest) (of ∷ []) below base h t locals w e ∙ by wanted
    where
      by : (b : Bool) → go (at line (To.null_test of ∷ wanted_code b) ++ rest) (temporary of t h ∷ stack_of below base t) locals w ≡ go rest (as_wanted b (not (is_true (temporary of t h))) ∷ stack_of below base t) locals w
      by true = refl
      by false = ap (λ b. go rest (Number (truth b) ∷ stack_of below base t) locals w) (flipped_twice ops deleting calls again (is_true (temporary of t h)))

  flipped_once : (b : Bool) → as_wanted false (is_true (as_wanted true b)) ≡ as_wanted false b
  flipped_once true = refl
  flipped_once false = refl

  same_sets : (line h : ℕ) (ty of : Ty) (wanted : Bool) → SetDoes line h ty (From.same wanted of)
  same_sets line h ty of wanted below base t env locals live rest w e f same =
      on_temporaries ops deleting calls again (at line (To.same of ∷ wanted_code wanted) ++ rest) (of ∷ of ∷ []) below base h t locals w e ∙ by wanted
    where
      by : (b : Bool) → go (at line (To.same of ∷ wanted_code b) ++ rest) (temporary of t (suc h) ∷ temporary of t h ∷ stack_of below base t) locals w ≡ go rest (as_wanted b (same_value (temporary of t h) (temporary of t (suc h))) ∷ stack_of below base t) locals w
      by true = refl
      by false = ap (λ v. go rest (v ∷ stack_of below base t) locals w) (flipped_once (same_value (temporary of t h) (temporary of t (suc h))))

  -- the pins of a call are held where the function deletes
  pub call_held : {A : Type 0} (f : ℕ) (live : ℕ → Bool) (locals env : List Value) (arguments : List Value) (next : Value → W → Run W A) (w : W) → ((x : ℕ) → x < length types → local_at locals x ≡ local_at env x) →
      bind (branching (deleting f) (λ w1. bind (calls f arguments (ops.enter (pinned (call_pins (deleting f) (pins_from types 0 live)) locals) w1)) (λ v w2. Go v (ops.leave w1 w2))) (calls f arguments) w) next
      ≡ bind (branching (deleting f) (λ w1. bind (calls f arguments (ops.enter (pinned (pins_from types 0 live) env) w1)) (λ v w2. Go v (ops.leave w1 w2))) (calls f arguments) w) next
  call_held f live locals env arguments next w same = by (deleting f)
    where
      by : (b : Bool) → bind (branching b (λ w1. bind (calls f arguments (ops.enter (pinned (call_pins b (pins_from types 0 live)) locals) w1)) (λ v w2. Go v (ops.leave w1 w2))) (calls f arguments) w) next
          ≡ bind (branching b (λ w1. bind (calls f arguments (ops.enter (pinned (pins_from types 0 live) env) w1)) (λ v w2. Go v (ops.leave w1 w2))) (calls f arguments) w) next
      by false = refl
      by true = ap (λ vs. bind (bind (calls f arguments (ops.enter vs w)) (λ v w2. Go v (ops.leave w w2))) next) (pinned_same types live locals env same)

  call_sets : (line h : ℕ) (ty : Ty) (f : ℕ) (tys : List Ty) → SetDoes line h ty (From.call f tys)
  call_sets line h ty f tys below base t env locals live rest w e fits same =
      one_instruction line h (To.call f tys (call_pins (deleting f) (pins_from types 0 live))) (map value_type tys) below base t locals rest w e (length_types ops deleting calls again tys) (λ stack w. refl)
      ∙ ap (λ vs. bind (given ops deleting line (To.call f tys (call_pins (deleting f) (pins_from types 0 live))) calls locals vs w) (λ v w1. go rest (v ∷ stack_of below base t) locals w1)) (values_in ops deleting calls again tys t h)
      ∙ call_held f live locals env (kept_all tys (temporaries_from tys t h)) (λ v w1. go rest (v ∷ stack_of below base t) locals w1) w same

  subregion_sets : (line h : ℕ) (ty : Ty) → SetDoes line h ty From.new_subregion
  subregion_sets line h ty below base t env locals live rest w e f same = one_instruction line h To.new_subregion (region ∷ []) below base t locals rest w e refl (λ stack w. refl)

  region_sets : (line h : ℕ) (ty of : Ty) → SetDoes line h ty (From.region_of of)
  region_sets line h ty of below base t env locals live rest w e f same = one_instruction line h (To.region_of of) (of ∷ []) below base t locals rest w e refl (λ stack w. refl)

  allocate_sets : (line h : ℕ) (ty made : Ty) (layout : Layout) → SetDoes line h ty (From.allocate made layout)
  allocate_sets line h ty made layout below base t env locals live rest w e f same = one_instruction line h (To.allocate made layout) (region ∷ []) below base t locals rest w e refl (λ stack w. refl)

  array_sets : (line h : ℕ) (ty made : Ty) (layout : Layout) → SetDoes line h ty (From.allocate_array made layout)
  array_sets line h ty made layout below base t env locals live rest w e f same = one_instruction line h (To.allocate_array made layout) (region ∷ int ∷ []) below base t locals rest w e refl (λ stack w. refl)

  put_sets : (line h : ℕ) (ty : Ty) → SetDoes line h ty From.putchar
  put_sets line h ty below base t env locals live rest w e f same = one_instruction line h To.putchar (int ∷ []) below base t locals rest w e refl (λ stack w. refl)

  -- every operation but `step_from`, which moves operands
  abbrev pub InPlace : Operation → Type 0
  InPlace (From.step_from n pointed) = ⊥
  InPlace op = Unit {0}

  pub set_does : (line h : ℕ) (ty : Ty) (op : Operation) → InPlace op → SetDoes line h ty op
  set_does line h ty (From.constant s n) p below base t env locals live rest w e f same = refl
  set_does line h ty From.null p below base t env locals live rest w e f same = refl
  set_does line h ty (From.static g) p below base t env locals live rest w e f same = refl
  set_does line h ty (From.copy x) p below base t env locals live rest w e f same = copy_sets line h ty x below base t env locals live rest w e f same
  set_does line h ty (From.load a) p below base t env locals live rest w e f same = load_does ops deleting calls again types line ty a below base h t env locals live rest w e
  set_does line h ty (From.step direction pointed n) p below base t env locals live rest w e f same = step_does ops deleting calls again types line ty direction pointed n below base h t env locals live rest w e
  set_does line h ty (From.step_from n pointed) p below base t env locals live rest w e f same = absurd p
  set_does line h ty (From.unary operator s) p below base t env locals live rest w e f same = unary_sets line h ty operator s below base t env locals live rest w e f same
  set_does line h ty (From.binary operator s right) p below base t env locals live rest w e f same = binary_sets line h ty operator s right below base t env locals live rest w e f same
  set_does line h ty (From.convert from to) p below base t env locals live rest w e f same = convert_sets line h ty from to below base t env locals live rest w e
    where
      convert_sets : (line h : ℕ) (ty : Ty) (from to : _) (below : List Ty) (base : ℕ) (t : Temporaries) (env locals : List Value) (live : ℕ → Bool) (rest : List Line) (w : W) → h ≡ base + length below → go (at line (operation_code [] ty (From.convert from to)) ++ rest) (stack_of (pushed (operands ty (From.convert from to)) below) base t) locals w ≡ bind (operation_value ops deleting types line (From.convert from to) calls live env t h w) (λ v w1. go rest (v ∷ stack_of below base t) locals w1)
      convert_sets line h ty from to below base t env locals live rest w e = convert_does ops deleting calls again types line ty from to below base h t env locals live rest w e
  set_does line h ty (From.not_zero of) p below base t env locals live rest w e f same = not_sets line h ty of below base t env locals live rest w e f same
  set_does line h ty (From.truth of) p below base t env locals live rest w e f same = truth_sets line h ty of below base t env locals live rest w e f same
  set_does line h ty (From.is_null wanted of) p below base t env locals live rest w e f same = null_sets line h ty of wanted below base t env locals live rest w e f same
  set_does line h ty (From.same wanted of) p below base t env locals live rest w e f same = same_sets line h ty of wanted below base t env locals live rest w e f same
  set_does line h ty (From.call g tys) p below base t env locals live rest w e f same = call_sets line h ty g tys below base t env locals live rest w e f same
  set_does line h ty From.new_region p below base t env locals live rest w e f same = refl
  set_does line h ty From.new_subregion p below base t env locals live rest w e f same = subregion_sets line h ty below base t env locals live rest w e f same
  set_does line h ty (From.region_of of) p below base t env locals live rest w e f same = region_sets line h ty of below base t env locals live rest w e f same
  set_does line h ty (From.allocate made layout) p below base t env locals live rest w e f same = allocate_sets line h ty made layout below base t env locals live rest w e f same
  set_does line h ty (From.allocate_array made layout) p below base t env locals live rest w e f same = array_sets line h ty made layout below base t env locals live rest w e f same
  set_does line h ty From.putchar p below base t env locals live rest w e f same = put_sets line h ty below base t env locals live rest w e f same
  set_does line h ty From.getchar p below base t env locals live rest w e f same = refl
