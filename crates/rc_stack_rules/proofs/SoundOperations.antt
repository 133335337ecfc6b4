-- The code of each operation keeps the loader's rules.
use Rattle.std.proofs.Common.{◌≡◌, ℕ, suc, ◌+◌, Bool, true, false, List, [], ◌∷◌, length, map, refl, sym, ap, ◌∙◌, arith}
use Rattle.rc_core.specs.declared.ty.NumberType.{NumberType}
use Rattle.rc_core.specs.declared.ty.NumberType.TheVariants.{Int, Unsigned, Char}
use Rattle.rc_core.specs.declared.ty.Signedness.{Signedness}
use Rattle.rc_core.specs.declared.operators.Operator.{Operator}
use Rattle.rc_core.specs.declared.operators.Operator.TheVariants.{Multiply, Divide, Remainder, Add, Subtract, ShiftLeft, ShiftRight, Less, Greater, LessEqual, GreaterEqual, Equal, NotEqual, And, Xor, Or}
use Rattle.rc_core.specs.Types.{Ty, int, unsigned, char, region, struct, pointer}
use Rattle.rc_core.specs.Typing.{arithmetic, value_type}
use Rattle.rc_rlang.specs.RegionCode as From
use Rattle.rc_rlang.specs.RegionCode.{Operation}
use Rattle.rc_emission.specs.StackCode.{Line}
use Rattle.rc_rlang.specs.RegionFits.{operands, place_types, pushed, dropped}
use Rattle.rc_emission.specs.OperationCode.{at}
use Rattle.rc_emission.specs.Served.{OperationKeeps, OperationServed}
use Rattle.rc_emission.specs.StatementCode.{set_code}
use Rattle.rc_stack_rules.specs.LoaderRules.{kinds, local_kind}
use Rattle.rc_rlang.specs.RegionKinds.{kind_ty, signed_of, OperationKinded}
use Rattle.rc_rlang.proofs.KindLaws.{kind_arith, kind_value}
use Rattle.rc_stack_rules.proofs.SoundSteps.{S, drop_pushed}

pub kinds_pushed : (xs below : List Ty) → kinds (pushed xs below) ≡ pushed (kinds xs) (kinds below)
kinds_pushed [] below = refl
kinds_pushed (x ∷ xs) below = kinds_pushed xs (x ∷ below)

pub kinds_value : (tys : List Ty) → kinds (map value_type tys) ≡ kinds tys
kinds_value [] = refl
kinds_value (ty ∷ tys) = ap (λ k. k ∷ kinds (map value_type tys)) (kind_value ty) ∙ ap (λ ks. kind_ty ty ∷ ks) (kinds_value tys)

pub drop_all : (xs ks below : List Ty) → ks ≡ pushed xs below → dropped (length xs) ks ≡ below
drop_all xs ks below e = ap (dropped (length xs)) e ∙ (let z : length xs ≡ 0 + length xs = omega arith in ap (λ n. dropped n (pushed xs below)) z) ∙ drop_pushed xs below 0

module _ (locals : List Ty) (global_ty result_ty : ℕ → Ty) (mark : ℕ → Type 0) (types : List Ty) (slot : ℕ → Ty → ℕ) (deleting : ℕ → Bool) (Has : ℕ → Ty → Type 0)
    (slot_kind : (h : ℕ) (ty : Ty) → Has h ty → local_kind locals global_ty result_ty (slot h ty) ≡ kind_ty ty) where
  abbrev pub G : (ok : ℕ → Type 0) → (place : ℕ) → List Line → (from to : List Ty) → Type 0
  G ok place code from to = S locals global_ty result_ty mark ok place code from to

  abbrev pub Sets : ℕ → Ty → Operation → Type 1
  Sets h ty op = (line : ℕ) (below : List Ty) (live : ℕ → Bool) (ok : ℕ → Type 0) (place : ℕ) → OperationKinded locals global_ty result_ty ty op → OperationKeeps Has types h op → G ok place (at line (set_code slot deleting types h ty op live)) (kinds (pushed (operands ty op) below)) (kind_ty ty ∷ kinds below)

  -- one arithmetic instruction, on operands of these kinds
  two : (s : Signedness) (right : Ty) (ks : List Ty) → kind_ty right ≡ arithmetic s → kind_ty right ∷ kind_ty (arithmetic s) ∷ ks ≡ arithmetic s ∷ arithmetic s ∷ ks
  two s right ks e = ap (λ k. k ∷ kind_ty (arithmetic s) ∷ ks) e ∙ ap (λ k. arithmetic s ∷ k ∷ ks) (kind_arith s)

  low : (s : Signedness) (k : Ty) (ks : List Ty) → k ∷ kind_ty (arithmetic s) ∷ ks ≡ k ∷ arithmetic s ∷ ks
  low s k ks = ap (λ j. k ∷ j ∷ ks) (kind_arith s)

  left_sets : (h : ℕ) (ty : Ty) (s : Signedness) (right : Ty) → Sets h ty (From.binary ShiftLeft s right)
  left_sets h ty s int line below live ok place l sp = ((kinds below, low s int (kinds below)), tt, ap (λ k. k ∷ kinds below) (sym l.0))
  left_sets h ty s unsigned line below live ok place l sp = ((kind_ty (arithmetic s) ∷ kinds below, refl), tt, ((kinds below, low s int (kinds below)), tt, ap (λ k. k ∷ kinds below) (sym l.0)))
  left_sets h ty s char line below live ok place l sp = ((kinds below, low s int (kinds below)), tt, ap (λ k. k ∷ kinds below) (sym l.0))
  left_sets h ty s region line below live ok place l sp = let e : region ≡ int = l.1 in cc
  left_sets h ty s (struct k) line below live ok place l sp = let e : struct k ≡ int = l.1 in cc
  left_sets h ty s (pointer note target) line below live ok place l sp = let e : pointer _ target ≡ int = l.1 in cc

  right_sets : (h : ℕ) (ty : Ty) (s : Signedness) (right : Ty) → Sets h ty (From.binary ShiftRight s right)
  right_sets h ty s int line below live ok place l sp = ((kinds below, low s int (kinds below)), tt, ap (λ k. k ∷ kinds below) (sym l.0))
  right_sets h ty s unsigned line below live ok place l sp = ((kind_ty (arithmetic s) ∷ kinds below, refl), tt, ((kinds below, low s int (kinds below)), tt, ap (λ k. k ∷ kinds below) (sym l.0)))
  right_sets h ty s char line below live ok place l sp = ((kinds below, low s int (kinds below)), tt, ap (λ k. k ∷ kinds below) (sym l.0))
  right_sets h ty s region line below live ok place l sp = let e : region ≡ int = l.1 in cc
  right_sets h ty s (struct k) line below live ok place l sp = let e : struct k ≡ int = l.1 in cc
  right_sets h ty s (pointer note target) line below live ok place l sp = let e : pointer _ target ≡ int = l.1 in cc

  pub binary_sets : (h : ℕ) (ty : Ty) (operator : Operator) (s : Signedness) (right : Ty) → Sets h ty (From.binary operator s right)
  binary_sets h ty ShiftLeft s right line below live ok place l sp = left_sets h ty s right line below live ok place l sp
  binary_sets h ty ShiftRight s right line below live ok place l sp = right_sets h ty s right line below live ok place l sp
  binary_sets h ty Multiply s right line below live ok place l sp = ((kinds below, two s right (kinds below) l.1), tt, ap (λ k. k ∷ kinds below) (sym l.0))
  binary_sets h ty Divide s right line below live ok place l sp = ((kinds below, two s right (kinds below) l.1), tt, ap (λ k. k ∷ kinds below) (sym l.0))
  binary_sets h ty Remainder s right line below live ok place l sp = ((kinds below, two s right (kinds below) l.1), tt, ap (λ k. k ∷ kinds below) (sym l.0))
  binary_sets h ty Add s right line below live ok place l sp = ((kinds below, two s right (kinds below) l.1), tt, ap (λ k. k ∷ kinds below) (sym l.0))
  binary_sets h ty Subtract s right line below live ok place l sp = ((kinds below, two s right (kinds below) l.1), tt, ap (λ k. k ∷ kinds below) (sym l.0))
  binary_sets h ty And s right line below live ok place l sp = ((kinds below, two s right (kinds below) l.1), tt, ap (λ k. k ∷ kinds below) (sym l.0))
  binary_sets h ty Xor s right line below live ok place l sp = ((kinds below, two s right (kinds below) l.1), tt, ap (λ k. k ∷ kinds below) (sym l.0))
  binary_sets h ty Or s right line below live ok place l sp = ((kinds below, two s right (kinds below) l.1), tt, ap (λ k. k ∷ kinds below) (sym l.0))
  binary_sets h ty Less s right line below live ok place l sp = ((kinds below, two s right (kinds below) l.1), tt, ap (λ k. k ∷ kinds below) (sym l.0))
  binary_sets h ty LessEqual s right line below live ok place l sp = ((kinds below, two s right (kinds below) l.1), tt, ap (λ k. k ∷ kinds below) (sym l.0))
  binary_sets h ty Equal s right line below live ok place l sp = ((kinds below, two s right (kinds below) l.1), tt, ap (λ k. k ∷ kinds below) (sym l.0))
  binary_sets h ty Greater s right line below live ok place l sp = ((kinds below, two s right (kinds below) l.1), tt, ((kinds below, refl), tt, ap (λ k. k ∷ kinds below) (sym l.0)))
  binary_sets h ty GreaterEqual s right line below live ok place l sp = ((kinds below, two s right (kinds below) l.1), tt, ((kinds below, refl), tt, ap (λ k. k ∷ kinds below) (sym l.0)))
  binary_sets h ty NotEqual s right line below live ok place l sp = ((kinds below, two s right (kinds below) l.1), tt, ((kinds below, refl), tt, ap (λ k. k ∷ kinds below) (sym l.0)))

  pub convert_sets : (h : ℕ) (ty : Ty) (from to : NumberType) → Sets h ty (From.convert from to)
  convert_sets h ty Int Int line below live ok place l sp = ap (λ k. k ∷ kinds below) (sym l)
  convert_sets h ty Int Unsigned line below live ok place l sp = ((kinds below, refl), tt, ap (λ k. k ∷ kinds below) (sym l))
  convert_sets h ty Int Char line below live ok place l sp = ((kinds below, refl), tt, ap (λ k. k ∷ kinds below) (sym l))
  convert_sets h ty Unsigned Int line below live ok place l sp = ((kinds below, refl), tt, ap (λ k. k ∷ kinds below) (sym l))
  convert_sets h ty Unsigned Unsigned line below live ok place l sp = ap (λ k. k ∷ kinds below) (sym l)
  convert_sets h ty Unsigned Char line below live ok place l sp = ((kinds below, refl), tt, ((kinds below, refl), tt, ap (λ k. k ∷ kinds below) (sym l)))
  convert_sets h ty Char Int line below live ok place l sp = ap (λ k. k ∷ kinds below) (sym l)
  convert_sets h ty Char Unsigned line below live ok place l sp = ((kinds below, refl), tt, ap (λ k. k ∷ kinds below) (sym l))
  convert_sets h ty Char Char line below live ok place l sp = ap (λ k. k ∷ kinds below) (sym l)

  zero_sets : (h : ℕ) (ty of : Ty) → Sets h ty (From.not_zero of)
  zero_sets h ty int line below live ok place l sp = ((kinds below, refl), tt, ap (λ k. k ∷ kinds below) (sym l))
  zero_sets h ty unsigned line below live ok place l sp = ((kinds below, refl), tt, ((kinds below, refl), tt, ap (λ k. k ∷ kinds below) (sym l)))
  zero_sets h ty char line below live ok place l sp = ((kinds below, refl), tt, ap (λ k. k ∷ kinds below) (sym l))
  zero_sets h ty region line below live ok place l sp = ((kinds below, refl), tt, ap (λ k. k ∷ kinds below) (sym l))
  zero_sets h ty (struct k) line below live ok place l sp = ((kinds below, refl), tt, ap (λ k. k ∷ kinds below) (sym l))
  zero_sets h ty (pointer note target) line below live ok place l sp = ((kinds below, refl), tt, ap (λ k. k ∷ kinds below) (sym l))

  truth_sets : (h : ℕ) (ty of : Ty) → Sets h ty (From.truth of)
  truth_sets h ty int line below live ok place l sp = ((kinds below, refl), tt, ((kinds below, refl), tt, ap (λ k. k ∷ kinds below) (sym l)))
  truth_sets h ty unsigned line below live ok place l sp = ((kinds below, refl), tt, ((kinds below, refl), tt, ((kinds below, refl), tt, ap (λ k. k ∷ kinds below) (sym l))))
  truth_sets h ty char line below live ok place l sp = ((kinds below, refl), tt, ((kinds below, refl), tt, ap (λ k. k ∷ kinds below) (sym l)))
  truth_sets h ty region line below live ok place l sp = ((kinds below, refl), tt, ((kinds below, refl), tt, ap (λ k. k ∷ kinds below) (sym l)))
  truth_sets h ty (struct k) line below live ok place l sp = ((kinds below, refl), tt, ((kinds below, refl), tt, ap (λ k. k ∷ kinds below) (sym l)))
  truth_sets h ty (pointer note target) line below live ok place l sp = ((kinds below, refl), tt, ((kinds below, refl), tt, ap (λ k. k ∷ kinds below) (sym l)))

  null_sets : (h : ℕ) (ty of : Ty) (wanted : Bool) → Sets h ty (From.is_null wanted of)
  null_sets h ty of true line below live ok place l sp = ((kinds below, refl), tt, ap (λ k. k ∷ kinds below) (sym l))
  null_sets h ty of false line below live ok place l sp = ((kinds below, refl), tt, ((kinds below, refl), tt, ap (λ k. k ∷ kinds below) (sym l)))

  same_sets : (h : ℕ) (ty of : Ty) (wanted : Bool) → Sets h ty (From.same wanted of)
  same_sets h ty of true line below live ok place l sp = ((kinds below, refl), tt, ap (λ k. k ∷ kinds below) (sym l))
  same_sets h ty of false line below live ok place l sp = ((kinds below, refl), tt, ((kinds below, refl), tt, ap (λ k. k ∷ kinds below) (sym l)))

  load_sets : (h : ℕ) (ty : Ty) (a : From.Access) → Sets h ty (From.load a)
  load_sets h ty a line below live ok place l sp =
      ((kinds below, kinds_pushed (place_types a) below), tt, ap (λ ks. kind_ty a.cell ∷ ks) (drop_all (kinds (place_types a)) (kinds (pushed (place_types a) below)) (kinds below) (kinds_pushed (place_types a) below)) ∙ ap (λ k. k ∷ kinds below) (sym l))

  call_sets : (h : ℕ) (ty : Ty) (g : ℕ) (tys : List Ty) → Sets h ty (From.call g tys)
  call_sets h ty g tys line below live ok place l sp =
      let e : kinds (pushed (map value_type tys) below) ≡ pushed (kinds tys) (kinds below) = kinds_pushed (map value_type tys) below ∙ ap (λ ks. pushed ks (kinds below)) (kinds_value tys) in
      ((kinds below, e), tt, ap (λ ks. kind_ty (result_ty g) ∷ ks) (drop_all (kinds tys) (kinds (pushed (map value_type tys) below)) (kinds below) e) ∙ ap (λ k. k ∷ kinds below) (sym l))

  step_from_sets : (h : ℕ) (ty n pointed : Ty) → Sets h ty (From.step_from n pointed)
  step_from_sets h ty n pointed line below live ok place l sp =
      let K = kinds below in
      let e0 = slot_kind h n sp.0 in
      let e1 = slot_kind (suc h) pointed sp.1 in
      let k0 = local_kind locals global_ty result_ty (slot h n) in
      let k1 = local_kind locals global_ty result_ty (slot (suc h) pointed) in (
        (kind_ty n ∷ K, ap (λ k. k ∷ kind_ty n ∷ K) (sym e1)),
        tt,
        (
          (K, ap (λ k. k ∷ K) (sym e0)),
          tt,
          (
            (K, refl),
            tt,
            (
              (k1 ∷ K, refl),
              tt,
              ((K, ap (λ k. k ∷ k1 ∷ K) (e0 ∙ l.1) ∙ ap (λ k. arithmetic (signed_of n) ∷ k ∷ K) e1), tt, ap (λ k. k ∷ K) (sym l.0)),
            ),
          ),
        ),
      )

  pub set_loads : (line h : ℕ) (ty : Ty) (op : Operation) (below : List Ty) (live : ℕ → Bool) (ok : ℕ → Type 0) (place : ℕ) → OperationServed types ty op → OperationKinded locals global_ty result_ty ty op → OperationKeeps Has types h op → G ok place (at line (set_code slot deleting types h ty op live)) (kinds (pushed (operands ty op) below)) (kind_ty ty ∷ kinds below)
  set_loads line h ty (From.constant s n) below live ok place f l sp = ((kinds below, refl), tt, ap (λ k. k ∷ kinds below) (sym l))
  set_loads line h ty From.null below live ok place f l sp = ((kinds below, refl), tt, refl)
  set_loads line h ty (From.static g) below live ok place f l sp = ((kinds below, refl), tt, ap (λ k. k ∷ kinds below) (sym l))
  set_loads line h ty (From.copy x) below live ok place f l sp = ((kinds below, refl), tt, ap (λ k. k ∷ kinds below) (sym l))
  set_loads line h ty (From.load a) below live ok place f l sp = load_sets h ty a line below live ok place l sp
  set_loads line h ty (From.step direction pointed n) below live ok place f l sp = ((kinds below, ap (λ k. k ∷ kind_ty pointed ∷ kinds below) l.1), tt, ap (λ k. k ∷ kinds below) (sym l.0))
  set_loads line h ty (From.step_from n pointed) below live ok place f l sp = step_from_sets h ty n pointed line below live ok place l sp
  set_loads line h ty (From.unary operator s) below live ok place f l sp = ((kinds below, ap (λ k. k ∷ kinds below) (kind_arith s)), tt, ap (λ k. k ∷ kinds below) (sym l))
  set_loads line h ty (From.binary operator s right) below live ok place f l sp = binary_sets h ty operator s right line below live ok place l sp
  set_loads line h ty (From.convert from to) below live ok place f l sp = convert_sets h ty from to line below live ok place l sp
  set_loads line h ty (From.not_zero of) below live ok place f l sp = zero_sets h ty of line below live ok place l sp
  set_loads line h ty (From.truth of) below live ok place f l sp = truth_sets h ty of line below live ok place l sp
  set_loads line h ty (From.is_null wanted of) below live ok place f l sp = null_sets h ty of wanted line below live ok place l sp
  set_loads line h ty (From.same wanted of) below live ok place f l sp = same_sets h ty of wanted line below live ok place l sp
  set_loads line h ty (From.call g tys) below live ok place f l sp = call_sets h ty g tys line below live ok place l sp
  set_loads line h ty From.new_region below live ok place f l sp = ((kinds below, refl), tt, ap (λ k. k ∷ kinds below) (sym l))
  set_loads line h ty From.new_subregion below live ok place f l sp = ((kinds below, refl), tt, ap (λ k. k ∷ kinds below) (sym l))
  set_loads line h ty (From.region_of of) below live ok place f l sp = ((kinds below, refl), tt, ap (λ k. k ∷ kinds below) (sym l))
  set_loads line h ty (From.allocate made layout) below live ok place f l sp = ((kinds below, refl), tt, ap (λ k. k ∷ kinds below) (sym l))
  set_loads line h ty (From.allocate_array made layout) below live ok place f l sp = ((kinds below, refl), tt, ap (λ k. k ∷ kinds below) (sym l))
  set_loads line h ty From.putchar below live ok place f l sp = ((kinds below, refl), tt, ap (λ k. k ∷ kinds below) (sym l))
  set_loads line h ty From.getchar below live ok place f l sp = ((kinds below, refl), tt, ap (λ k. k ∷ kinds below) (sym l))
