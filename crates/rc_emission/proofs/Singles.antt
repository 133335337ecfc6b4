-- Stack code of an expression's operations does what they do, in any world.
use Rattle.std.proofs.Common.{◌≡◌, ◌<◌, ℕ, suc, ◌+◌, ℤ, pos, negsuc, Bool, true, false, not, List, [], ◌∷◌, ◌++◌, length, map, Option, Some, None, refl, sym, ap, ◌∙◌, arith, rules}
use Rattle.std.specs.Prelude.{int_lt, int_le}
use Rattle.rc_core.specs.declared.ty.Note.TheVariants.{Plain}
use Rattle.rc_core.specs.declared.ty.NumberType.{NumberType}
use Rattle.rc_core.specs.declared.ty.NumberType.TheVariants.{Int, Unsigned, Char}
use Rattle.rc_core.specs.declared.ty.Signedness.{Signedness}
use Rattle.rc_core.specs.declared.operators.Operator.{Operator}
use Rattle.rc_core.specs.declared.operators.Operator.TheVariants.{Multiply, Divide, Remainder, Add, Subtract, ShiftLeft, ShiftRight, Less, Greater, LessEqual, GreaterEqual, Equal, NotEqual, And, Xor, Or}
use Rattle.rc_core.specs.Types.{Ty, int, unsigned, char, region, struct, pointer}
use Rattle.rc_core.specs.Typing.{value_type}
use Rattle.rc_core.specs.Arithmetic.{converted, calculate, truth, equals}
use Rattle.rc_core.specs.Heap.{Value, Number}
use Rattle.rc_core.specs.Runs.{Run, bind, computed, Calls, Ops}
use Rattle.rc_core.specs.Evaluation.{number_in, give_number, as_wanted}
use Rattle.rc_rlang.specs.RegionCode as From
use Rattle.rc_rlang.specs.RegionCode.{Kind, numeric, regional, kind_of, Index, Access, width, shift_width, Operation, Step, Steps, set, fork, none, more}
use Rattle.rc_rlang.specs.RegionRuns.{Temporaries, at_kind, temporary, with_temporary, temporaries_from, chosen_from, target_shifted, target_at, holds, counted, operation_value}
use Rattle.rc_rlang.specs.RegionKinds.{signed_of}
use Rattle.rc_emission.specs.Pieces.{stack_of}
use Rattle.rc_emission.specs.StackCode.{Instruction, Line, popped, nth_operand, chosen_values, target_of, takes, Onward, given, act, walk}
use Rattle.rc_rlang.specs.RegionFits.{index_types, shift_types, place_types, operands, pushed}
use Rattle.rc_emission.specs.OperationCode.{line_of, at, zero_test, compared, count_code, operation_code}
use Rattle.rc_emission.proofs.CharOfInt.{char_again}
use Rattle.rc_translation.proofs.Temporaries.{Lower, at_lower, set_here, set_lower}
use Rattle.rc_translation.proofs.ValueKinds.{kind_arithmetic, kind_value}
use Rattle.rc_emission.specs.StackCode as To

pub stack_lower : (tys : List Ty) (base h : ℕ) (t t1 : Temporaries) → Lower h t t1 → base + length tys < suc h → stack_of tys base t1 ≡ stack_of tys base t
stack_lower [] base h t t1 l le = refl
stack_lower (ty ∷ tys) base h t t1 l le =
    ap (λ v. v ∷ stack_of tys base t1) (at_lower (kind_of ty) h (base + length tys) t t1 l (omega (arith, le)))
    ∙ ap (λ vs. temporary ty t (base + length tys) ∷ vs) (stack_lower tys base h t t1 l (omega (arith, le)))

pub stack_set : (ty : Ty) (tys : List Ty) (base : ℕ) (t : Temporaries) (v : Value) → v ∷ stack_of tys base t ≡ stack_of (ty ∷ tys) base (with_temporary ty t (base + length tys) v)
stack_set ty tys base t v =
    ap (λ u. u ∷ stack_of tys base t) (sym (set_here (kind_of ty) t (base + length tys) v))
    ∙ ap (λ vs. temporary ty (with_temporary ty t (base + length tys) v) (base + length tys) ∷ vs) (sym (stack_lower tys base (base + length tys) t (with_temporary ty t (base + length tys) v) (set_lower (kind_of ty) t (base + length tys) v) (omega arith)))

pub stack_pushed : (tys below : List Ty) (base h : ℕ) (t : Temporaries) → h ≡ base + length below → stack_of (pushed tys below) base t ≡ pushed (temporaries_from tys t h) (stack_of below base t)
stack_pushed [] below base h t e = refl
stack_pushed (ty ∷ tys) below base h t e =
    stack_pushed tys (ty ∷ below) base (suc h) t (omega (arith, e)) ∙ ap (λ n. pushed (temporaries_from tys t (suc h)) (temporary ty t n ∷ stack_of below base t)) (sym e)

pub popped_pushed : {W : Type 0} (vs stack ready : List Value) (n : ℕ) (go : List Value → List Value → Run W Value) (w : W) → popped (n + length vs) (pushed vs stack) ready go w ≡ popped n stack (vs ++ ready) go w
popped_pushed [] stack ready n go w = let e : n + 0 ≡ n = omega arith in ap (λ m. popped m stack ready go w) e
popped_pushed (v ∷ vs) stack ready n go w =
    let e : n + length (v ∷ vs) ≡ suc n + length vs = omega arith in
    ap (λ m. popped m (pushed vs (v ∷ stack)) ready go w) e ∙ popped_pushed vs (v ∷ stack) ready (suc n) go w

-- the target of an access, from its operands
pub chosen_is : (is : List Index) (t : Temporaries) (h : ℕ) → chosen_values is (temporaries_from (index_types is) t h) ≡ chosen_from is t h
chosen_is [] t h = refl
chosen_is (i ∷ is) t h =
    ap (λ k. record { index = number_in (at_kind k t h); count = i.count; stride = i.stride } ∷ chosen_values is (temporaries_from (index_types is) t (suc h))) (kind_arithmetic i.kind)
    ∙ ap (λ cs. record { index = number_in (t.numbers h); count = i.count; stride = i.stride } ∷ cs) (chosen_is is t (suc h))

pub target_is : (a : Access) (t : Temporaries) (h : ℕ) → target_of a a.shift (temporaries_from (place_types a) t h) ≡ target_at a t h
target_is a t h = by_shift a.shift
  where
    by_shift : (s : Option Signedness) → target_of a s (temporaries_from (pointer Plain a.element ∷ (shift_types s ++ index_types a.indices)) t h) ≡ target_shifted s a t h
    by_shift None = ap (λ cs. record { pointer = t.regions h; shift = pos 0; offset = a.offset; chosen = cs }) (chosen_is a.indices t (suc h))
    by_shift (Some s) =
        ap (λ k. record { pointer = t.regions h; shift = number_in (at_kind k t (suc h)); offset = a.offset; chosen = chosen_values a.indices (temporaries_from (index_types a.indices) t (suc (suc h))) }) (kind_arithmetic s)
        ∙ ap (λ cs. record { pointer = t.regions h; shift = number_in (t.numbers (suc h)); offset = a.offset; chosen = cs }) (chosen_is a.indices t (suc (suc h)))

pub width_is : (a : Access) (t : Temporaries) (h : ℕ) → length (temporaries_from (place_types a) t h) ≡ width a
width_is a t h = by_shift a.shift
  where
    indices_are : (is : List Index) (h : ℕ) → length (temporaries_from (index_types is) t h) ≡ length is
    indices_are [] h = refl
    indices_are (i ∷ is) h = ap suc (indices_are is (suc h))

    by_shift : (s : Option Signedness) → length (temporaries_from (pointer Plain a.element ∷ (shift_types s ++ index_types a.indices)) t h) ≡ suc (shift_width s + length a.indices)
    by_shift None = let e = indices_are a.indices (suc h) in omega (arith, e)
    by_shift (Some s) = let e = indices_are a.indices (suc (suc h)) in omega (arith, e)

pub length_temporaries : (tys : List Ty) (t : Temporaries) (h : ℕ) → length (temporaries_from tys t h) ≡ length tys
length_temporaries [] t h = refl
length_temporaries (ty ∷ tys) t h = ap suc (length_temporaries tys t (suc h))

module _ {W : Type 0} (ops : Ops W) (deleting : ℕ → Bool) (calls : Calls W) (again : Onward W) where
  abbrev pub on : List Line → (stack locals : List Value) → W → Run W Value
  on code stack locals w = walk ops deleting code calls again 0 stack locals w

  pub walk_past : (a rest : List Line) (n : ℕ) (stack locals : List Value) (w : W) → walk ops deleting (a ++ rest) calls again (length a + n) stack locals w ≡ walk ops deleting rest calls again n stack locals w
  walk_past [] rest n stack locals w = let e : 0 + n ≡ n = omega arith in ap (λ m. walk ops deleting rest calls again m stack locals w) e
  walk_past (i ∷ a) rest n stack locals w =
      let e : length (i ∷ a) + n ≡ suc (length a + n) = omega arith in
      ap (λ m. walk ops deleting (i ∷ (a ++ rest)) calls again m stack locals w) e ∙ walk_past a rest n stack locals w

  -- one instruction that gives a value, on the operands of temporaries
  pub one_does : (line : ℕ) (i : Instruction) (tys below : List Ty) (base h : ℕ) (t : Temporaries) (locals : List Value) (rest : List Line) (w : W) → h ≡ base + length below → takes i ≡ length tys →
      ((stack : List Value) (w : W) → on (record { line = line; instruction = i } ∷ rest) stack locals w ≡ popped (takes i) stack [] (λ vs st. bind (given ops deleting line i calls locals vs w) (λ v. on rest (v ∷ st) locals)) w) →
      on (record { line = line; instruction = i } ∷ rest) (stack_of (pushed tys below) base t) locals w ≡ bind (given ops deleting line i calls locals (temporaries_from tys t h) w) (λ v w1. on rest (v ∷ stack_of below base t) locals w1)
  one_does line i tys below base h t locals rest w e n step =
      step (stack_of (pushed tys below) base t) w
      ∙ ap (λ st. popped (takes i) st [] (λ vs st. bind (given ops deleting line i calls locals vs w) (λ v. on rest (v ∷ st) locals)) w) (stack_pushed tys below base h t e)
      ∙ ap (λ m. popped m (pushed (temporaries_from tys t h) (stack_of below base t)) [] (λ vs st. bind (given ops deleting line i calls locals vs w) (λ v. on rest (v ∷ st) locals)) w) (n ∙ sym (length_temporaries tys t h) ∙ zero_add (length (temporaries_from tys t h)))
      ∙ popped_pushed (temporaries_from tys t h) (stack_of below base t) [] 0 _ w
      ∙ ap (λ vs. bind (given ops deleting line i calls locals vs w) (λ v. on rest (v ∷ stack_of below base t) locals)) (append_none (temporaries_from tys t h))
    where
      zero_add : (m : ℕ) → m ≡ 0 + m
      zero_add m = omega arith

      append_none : (vs : List Value) → vs ++ [] ≡ vs
      append_none [] = refl
      append_none (v ∷ vs) = ap (λ us. v ∷ us) (append_none vs)

  -- the code of each operation, on the operands of its temporaries
  abbrev pub OperationDoes : List Ty → ℕ → Ty → Operation → Type 0
  OperationDoes types line ty op = (below : List Ty) (base h : ℕ) (t : Temporaries) (env locals : List Value) (live : ℕ → Bool) (rest : List Line) (w : W) → h ≡ base + length below →
      on (at line (operation_code [] ty op) ++ rest) (stack_of (pushed (operands ty op) below) base t) locals w ≡ bind (operation_value ops deleting types line op calls live env t h w) (λ v w1. on rest (v ∷ stack_of below base t) locals w1)

  pub load_does : (types : List Ty) (line : ℕ) (ty : Ty) (a : Access) → OperationDoes types line ty (From.load a)
  load_does types line ty a below base h t env locals live rest w e =
      one_does line (To.load a) (place_types a) below base h t locals rest w e (sym (width_is a t h) ∙ length_temporaries (place_types a) t h) (λ stack w. refl)
      ∙ ap (λ tg. bind (ops.load line tg w) (λ v w1. on rest (v ∷ stack_of below base t) locals w1)) (target_is a t h)

  pub values_in : (tys : List Ty) (t : Temporaries) (h : ℕ) → temporaries_from (map value_type tys) t h ≡ temporaries_from tys t h
  values_in [] t h = refl
  values_in (ty ∷ tys) t h = ap (λ k. at_kind k t h ∷ temporaries_from (map value_type tys) t (suc h)) (kind_value ty) ∙ ap (λ vs. temporary ty t h ∷ vs) (values_in tys t (suc h))

  pub length_types : (tys : List Ty) → length tys ≡ length (map value_type tys)
  length_types [] = refl
  length_types (ty ∷ tys) = ap suc (length_types tys)

  pub step_does : (types : List Ty) (line : ℕ) (ty : Ty) (direction : _) (pointed n : Ty) → OperationDoes types line ty (From.step direction pointed n)
  step_does types line ty direction pointed n below base h t env locals live rest w e =
      one_does line (To.move pointed (signed_of n) direction) (pointed ∷ n ∷ []) below base h t locals rest w e refl (λ stack w. refl)

  pub greater_is : (a b : ℤ) → int_lt b a ≡ not (int_le a b)
  greater_is (pos m) (pos n) = search rules
  greater_is (pos m) (negsuc n) = refl
  greater_is (negsuc m) (pos n) = refl
  greater_is (negsuc m) (negsuc n) = search rules

  pub less_is : (a b : ℤ) → int_le b a ≡ not (int_lt a b)
  less_is (pos m) (pos n) = search rules
  less_is (pos m) (negsuc n) = refl
  less_is (negsuc m) (pos n) = refl
  less_is (negsuc m) (negsuc n) = search rules

  pub flipped : (b : Bool) → not (not (equals (truth b) (pos 0))) ≡ not b
  flipped true = refl
  flipped false = refl

  pub compared_does : (line : ℕ) (operator : Operator) (s : Signedness) (x y : Value) (stack locals : List Value) (rest : List Line) (w : W) →
      on (at line (compared operator s) ++ rest) (y ∷ x ∷ stack) locals w ≡ bind (bind (computed line (calculate operator s (number_in x) (number_in y)) w) give_number) (λ v w1. on rest (v ∷ stack) locals w1)
  compared_does line Multiply s x y stack locals rest w = refl
  compared_does line Divide s x y stack locals rest w = refl
  compared_does line Remainder s x y stack locals rest w = refl
  compared_does line Add s x y stack locals rest w = refl
  compared_does line Subtract s x y stack locals rest w = refl
  compared_does line ShiftLeft s x y stack locals rest w = refl
  compared_does line ShiftRight s x y stack locals rest w = refl
  compared_does line Less s x y stack locals rest w = refl
  compared_does line LessEqual s x y stack locals rest w = refl
  compared_does line Equal s x y stack locals rest w = refl
  compared_does line And s x y stack locals rest w = refl
  compared_does line Xor s x y stack locals rest w = refl
  compared_does line Or s x y stack locals rest w = refl
  compared_does line Greater s x y stack locals rest w = ap (λ b. on rest (Number (truth b) ∷ stack) locals w) (flipped (int_le (number_in x) (number_in y)) ∙ sym (greater_is (number_in x) (number_in y)))
  compared_does line GreaterEqual s x y stack locals rest w = ap (λ b. on rest (Number (truth b) ∷ stack) locals w) (flipped (int_lt (number_in x) (number_in y)) ∙ sym (less_is (number_in x) (number_in y)))
  compared_does line NotEqual s x y stack locals rest w = ap (λ b. on rest (Number (truth b) ∷ stack) locals w) (flipped (equals (number_in x) (number_in y)))

  -- the operands of temporaries, and then the code
  pub on_temporaries : (code : List Line) (tys below : List Ty) (base h : ℕ) (t : Temporaries) (locals : List Value) (w : W) → h ≡ base + length below → on code (stack_of (pushed tys below) base t) locals w ≡ on code (pushed (temporaries_from tys t h) (stack_of below base t)) locals w
  on_temporaries code tys below base h t locals w e = ap (λ st. on code st locals w) (stack_pushed tys below base h t e)

  abbrev pub whole_count : Ty → Value → Value
  whole_count unsigned v = Number (converted Int (number_in v))
  whole_count ty v = v

  abbrev pub counted_value : Bool → Ty → Value → Value
  counted_value true ty v = whole_count ty v
  counted_value false ty v = v

  pub count_does : (line : ℕ) (b : Bool) (ty : Ty) (v : Value) (stack locals : List Value) (rest : List Line) (w : W) → on (at line (count_code b ty) ++ rest) (v ∷ stack) locals w ≡ on rest (counted_value b ty v ∷ stack) locals w
  count_does line true unsigned v stack locals rest w = refl
  count_does line true int v stack locals rest w = refl
  count_does line true char v stack locals rest w = refl
  count_does line true region v stack locals rest w = refl
  count_does line true (struct k) v stack locals rest w = refl
  count_does line true (pointer note target) v stack locals rest w = refl
  count_does line false ty v stack locals rest w = refl

  pub count_is : (b : Bool) (ty : Ty) (v : Value) → number_in (counted_value b ty v) ≡ counted b ty (number_in v)
  count_is true unsigned v = refl
  count_is true int v = refl
  count_is true char v = refl
  count_is true region v = refl
  count_is true (struct k) v = refl
  count_is true (pointer note target) v = refl
  count_is false ty v = refl

  pub at_two : (line : ℕ) (a b : List Instruction) (rest : List Line) → at line (a ++ b) ++ rest ≡ at line a ++ (at line b ++ rest)
  at_two line [] b rest = refl
  at_two line (i ∷ a) b rest = ap (λ c. line_of line i ∷ c) (at_two line a b rest)

  pub convert_does : (types : List Ty) (line : ℕ) (ty : Ty) (from to : NumberType) → OperationDoes types line ty (From.convert from to)
  convert_does types line ty Int Int below base h t env locals live rest w e = on_temporaries rest (int ∷ []) below base h t locals w e
  convert_does types line ty Int Unsigned below base h t env locals live rest w e = on_temporaries (at line (To.convert Unsigned ∷ []) ++ rest) (int ∷ []) below base h t locals w e
  convert_does types line ty Int Char below base h t env locals live rest w e = on_temporaries (at line (To.convert Char ∷ []) ++ rest) (int ∷ []) below base h t locals w e
  convert_does types line ty Unsigned Int below base h t env locals live rest w e = on_temporaries (at line (To.convert Int ∷ []) ++ rest) (unsigned ∷ []) below base h t locals w e
  convert_does types line ty Unsigned Unsigned below base h t env locals live rest w e = on_temporaries rest (unsigned ∷ []) below base h t locals w e
  convert_does types line ty Unsigned Char below base h t env locals live rest w e = on_temporaries (at line (To.convert Int ∷ To.convert Char ∷ []) ++ rest) (unsigned ∷ []) below base h t locals w e ∙ ap (λ n. on rest (Number n ∷ stack_of below base t) locals w) (char_again (number_in (t.numbers h)))
  convert_does types line ty Char Int below base h t env locals live rest w e = on_temporaries rest (char ∷ []) below base h t locals w e
  convert_does types line ty Char Unsigned below base h t env locals live rest w e = on_temporaries (at line (To.convert Unsigned ∷ []) ++ rest) (char ∷ []) below base h t locals w e
  convert_does types line ty Char Char below base h t env locals live rest w e = on_temporaries rest (char ∷ []) below base h t locals w e

  pub zero_does : (line : ℕ) (ty : Ty) (v : Value) (stack locals : List Value) (rest : List Line) (w : W) → on (at line (zero_test ty) ++ rest) (v ∷ stack) locals w ≡ on rest (as_wanted false (holds ty v) ∷ stack) locals w
  zero_does line int v stack locals rest w = refl
  zero_does line unsigned v stack locals rest w = refl
  zero_does line char v stack locals rest w = refl
  zero_does line region v stack locals rest w = refl
  zero_does line (struct k) v stack locals rest w = refl
  zero_does line (pointer note target) v stack locals rest w = refl

  pub flipped_twice : (b : Bool) → not (not (equals (truth (not b)) (pos 0))) ≡ not (not b)
  flipped_twice true = refl
  flipped_twice false = refl
