-- An expression's operations put its value into its temporary.
use Rattle.std.proofs.Common.{◌≡◌, ℕ, suc, ◌+◌, pos, Bool, true, false, not, List, [], ◌∷◌, ◌++◌, length, Option, Some, None, refl, sym, ap, ◌∙◌, subst, arith, length-append, inr}
use Rattle.std.specs.Prelude.{slice_get}
use Rattle.rc_core.specs.declared.ty.NumberType.{NumberType}
use Rattle.rc_core.specs.declared.ty.NumberType.TheVariants.{Int, Unsigned, Char}
use Rattle.rc_core.specs.declared.ty.Note.TheVariants.{Plain}
use Rattle.rc_core.specs.declared.ty.Signedness.{Signedness}
use Rattle.rc_core.specs.declared.ty.Signedness.TheVariants.{Signed, Unsigned as Wrapping}
use Rattle.rc_core.specs.declared.operators.UnaryOperator.{UnaryOperator}
use Rattle.rc_core.specs.declared.operators.UnaryOperator.TheVariants.{Negate, Plus, Complement}
use Rattle.rc_core.specs.Numbers.{byte_of}
use Rattle.rc_core.specs.Arithmetic.{converted, calculate, calculate_one}
use Rattle.rc_core.specs.Types.{Ty, int, region, pointer}
use Rattle.rc_core.specs.Layout.{cells, offset, count_of, stride}
use Rattle.rc_core.specs.Heap.{Value, Number}
use Rattle.rc_core.specs.Programs.{Expr, constant, null, string, local, read, address, step, step_from, unary, binary, convert, not_zero, and, or, choose, is_null, same, call, new_region, new_subregion, region_of, allocate, allocate_array, putchar, getchar, Arguments, none, more, Place, global, pointed, indexed, Path, here, field, element, Function, Program}
use Rattle.rc_core.specs.Runs.{Run, Go, Stopped, bind, branching, computed, Target, Calls, Ops}
use Rattle.rc_core.specs.Evaluation.{number_in, is_true, same_value, as_wanted, toward, static, aimed, further, choosing, region_named, give_number, eval, eval_all, target, along}
use Rattle.rc_core.specs.Execution.{held, deletes, calling}
use Rattle.rc_core.specs.Typing.{HasType, AreArguments, IsPlace, LeadsTo, arithmetic, number, value_type, NotNull, parameters_of}
use Rattle.rc_core.specs.Deletes.{IsQuiet, AreQuiet, IsQuietPlace, IsQuietPath, IsQuietInside}
use Rattle.rc_core.specs.Laws.{IfGoes}
use Rattle.rc_rlang.specs.RegionCode as To
use Rattle.rc_rlang.specs.RegionCode.{Kind, numeric, regional, kind_of, Index, Access, shift_width, width, Operation, Steps, both, one, set, fork}
use Rattle.rc_rlang.specs.RegionRuns.{Temporaries, pins_from, pinned, at_kind, temporary, with_temporary, temporaries_from, chosen_from, target_shifted, target_at, kept, kept_all, holds, right_number, convert_value, operation_value, steps_run, test_value, if_wanted}
use Rattle.rc_rlang.specs.RegionLive.{before_steps}
use Rattle.rc_translation.specs.Translation.{expression_type, place_type, parameter_types, global_type, pointee, signedness, pointer_type, index_type, argument_types, path_access, first_access, access, expression_code, arguments_code, place_code, path_code, whole, condition_code, condition_test, test_wanted}
use Rattle.rc_translation.proofs.Sames.{Same, same_bind, same_with, same_weaken, bind_bind, bind_go}
use Rattle.rc_translation.proofs.Temporaries.{Lower, lower_itself, lower_trans, at_lower, set_here, set_lower, target_lower, chosen_behind, run_both}
use Rattle.rc_translation.proofs.ValueKinds.{Suits, AllSuit, kind_arithmetic, kind_number, kind_value, is_number, kept_same, holds_same, right_same, convert_is}
use Rattle.rc_translation.proofs.TypesFound.{types_are, number_not_null, char_not_null}

pub both_assoc : (a b c : Steps) → both (both a b) c ≡ both a (both b c)
both_assoc To.none b c = refl
both_assoc (To.more s a) b c = ap (To.more s) (both_assoc a b c)

-- the value stands in temporary h, those below are as before
pub record Stored (ty : Ty) (h : ℕ) (t : Temporaries) (v : Value) (t1 : Temporaries) : Type 0 where
  pub value : temporary ty t1 h ≡ v
  pub lower : Lower h t t1

pub further_at : (a : Access) (n : ℕ) (t : Temporaries) (h : ℕ) → target_at (record a { offset = a.offset + n }) t h ≡ further n (target_at a t h)
further_at a n t h = by_shift a.shift
  where
    by_shift : (s : Option Signedness) → target_shifted s (record a { offset = a.offset + n }) t h ≡ further n (target_shifted s a t h)
    by_shift None = refl
    by_shift (Some s) = refl

pub behind_index : (a : Access) (i : Index) (t : Temporaries) (h : ℕ) (n : ℕ) → n ≡ h + width a →
    target_at (record a { indices = a.indices ++ i ∷ [] }) t h ≡ choosing (record { index = number_in (t.numbers n); count = i.count; stride = i.stride }) (target_at a t h)
behind_index a i t h n e = by_shift a.shift e
  where
    by_shift : (s : Option Signedness) → n ≡ h + suc (shift_width s + length a.indices) → target_shifted s (record a { indices = a.indices ++ i ∷ [] }) t h ≡ choosing (record { index = number_in (t.numbers n); count = i.count; stride = i.stride }) (target_shifted s a t h)
    by_shift None e =
        let e1 : suc h + length a.indices ≡ n = omega (arith, e) in
        ap (λ cs. record { pointer = t.regions h; shift = pos 0; offset = a.offset; chosen = cs }) (chosen_behind a.indices i t (suc h) ∙ ap (λ m. chosen_from a.indices t (suc h) ++ record { index = number_in (t.numbers m); count = i.count; stride = i.stride } ∷ []) e1)
    by_shift (Some s) e =
        let e1 : suc (suc h) + length a.indices ≡ n = omega (arith, e) in
        ap (λ cs. record { pointer = t.regions h; shift = number_in (t.numbers (suc h)); offset = a.offset; chosen = cs }) (chosen_behind a.indices i t (suc (suc h)) ∙ ap (λ m. chosen_from a.indices t (suc (suc h)) ++ record { index = number_in (t.numbers m); count = i.count; stride = i.stride } ∷ []) e1)

wider : (a : Access) (i : Index) (h n : ℕ) → n ≡ h + width a → suc n ≡ h + width (record a { indices = a.indices ++ i ∷ [] })
wider a i h n e = omega (arith, e, length-append a.indices (i ∷ []))

abbrev Equal : {A W : Type 0} → A → A → W → Type 0
Equal x y w = x ≡ y

module _ {W : Type 0} (E : W → W → Type 0) (here_too : (w : W) → E w w) (ops : Ops W) (program : Program) (locals : List Ty)
    (calls calls' : Calls W) (Known : List Ty → List Value → W → Type 0) (called : (f : ℕ) (xs : List Value) (w : W) → AllSuit (parameter_types program f) xs → Known (parameter_types program f) xs w → Same E Equal (calls f xs w) (calls' f xs w))
    (Good : W → Type 0) (env : List Value) (live0 : ℕ → Bool) (argued : (es : Arguments) (tys : List Ty) (w : W) → AreArguments program locals es tys → Good w → IfGoes (λ vs w1. Good w1 × Known tys vs w1 × Known tys vs (ops.enter (held live0 env) w1)) (eval_all ops program es (calling ops program calls live0 env) env w))
    (sound : (e : Expr) (t : Ty) (w : W) → HasType program locals e t → Good w → IfGoes (λ v w1. Good w1 × Suits t v) (eval ops program e (calling ops program calls live0 env) env w))
    (holding : pinned (pins_from locals 0 live0) env ≡ held live0 env) where
  abbrev value : Expr → W → Run W Value
  value e w = eval ops program e (calling ops program calls live0 env) env w

  abbrev run : Steps → (ℕ → Bool) → Temporaries → W → Run W Temporaries
  run steps live t w = steps_run ops (deletes program) locals steps calls' live env t w

  abbrev code : Expr → Ty → ℕ → Steps
  code e ty h = expression_code program locals e ty h

  abbrev Sets : Ty → ℕ → Temporaries → Run W Value → Run W Temporaries → Type 0
  Sets ty h t m m' = Same E (λ v t1 w. Stored ty h t v t1) m m'

  abbrev Does : Expr → Ty → ℕ → Type 0
  Does e ty h = (live : ℕ → Bool) (t : Temporaries) (w : W) → Good w → Sets ty h t (value e w) (run (code e ty h) live t w)

  same_refl : {A : Type 0} (m : Run W A) → Same E Equal m m
  same_refl (Go x w) = (refl, refl)
  same_refl (Stopped s w) = inr (refl, here_too w)

  -- an operation on operands that stand there
  set_related : (ty : Ty) (h : ℕ) (t0 t : Temporaries) (r r' : Run W Value) → Lower h t0 t → Same E Equal r r' → Sets ty h t0 r (bind (bind r' (λ v w1. Go (with_temporary ty t h v) w1)) (λ t1 w1. Go t1 w1))
  set_related ty h t0 t r r' l s =
      subst (λ m. Sets ty h t0 r m) (sym (bind_go (bind r' (λ v w1. Go (with_temporary ty t h v) w1))))
      (subst (λ m. Sets ty h t0 m (bind r' (λ v w1. Go (with_temporary ty t h v) w1))) (bind_go r)
      (same_bind E Equal (λ v t1 w. Stored ty h t0 v t1) r r' _ _ s (λ v u w e.
      (refl, record { value = set_here (kind_of ty) t h u ∙ sym e; lower = lower_trans h h t0 t (with_temporary ty t h u) (omega arith) l (set_lower (kind_of ty) t h u) }))))

  set_does : (line : ℕ) (ty : Ty) (h : ℕ) (op : Operation) (live : ℕ → Bool) (t0 t : Temporaries) (w : W) (r : Run W Value) → Lower h t0 t → operation_value ops (deletes program) locals line op calls' live env t h w ≡ r → Sets ty h t0 r (run (one (set line h ty op)) live t w)
  set_does line ty h op live t0 t w r l e = subst (λ m. Sets ty h t0 m (run (one (set line h ty op)) live t w)) e (set_related ty h t0 t _ _ l (same_refl (operation_value ops (deletes program) locals line op calls' live env t h w)))

  -- some operations first, and then others
  follow : {A B C : Type 0} (P : A → Temporaries → W → Type 0) (Q : B → C → W → Type 0) (m : Run W A) (a rest : Steps) (k : A → W → Run W B) (l : Temporaries → W → Run W C) (live : ℕ → Bool) (t : Temporaries) (w : W) → Same E P m (run a (before_steps rest live) t w) →
      ((x : A) (t1 : Temporaries) (w1 : W) → P x t1 w1 → Same E Q (k x w1) (bind (run rest live t1 w1) l)) → Same E Q (bind m k) (bind (run (both a rest) live t w) l)
  follow P Q m a rest k l live t w s c =
      subst (λ n. Same E Q (bind m k) n) (sym (ap (λ n. bind n l) (run_both ops (deletes program) locals a rest calls' live env t w) ∙ bind_bind (run a (before_steps rest live) t w) (steps_run ops (deletes program) locals rest calls' live env) l))
      (same_bind E P Q m (run a (before_steps rest live) t w) k _ s c)

  -- a value first, and then what reads it
  first : (e : Expr) (u ty : Ty) (kind : Kind) (h : ℕ) (rest : Steps) → HasType program locals e u → kind_of ty ≡ kind → Does e ty h → {A B : Type 0} (Q : A → B → W → Type 0) (k : Value → W → Run W A) (l : Temporaries → W → Run W B) (live : ℕ → Bool) (t : Temporaries) (w : W) → Good w →
      ((v : Value) (t1 : Temporaries) (w1 : W) → at_kind kind t1 h ≡ v → Lower h t t1 → Good w1 → Suits u v → Same E Q (k v w1) (bind (run rest live t1 w1) l)) →
      Same E Q (bind (value e w) k) (bind (run (both (code e ty h) rest) live t w) l)
  first e u ty kind h rest he hk does Q k l live t w good c =
      follow (λ v t1 w1. Stored ty h t v t1 × (Good w1 × Suits u v)) Q (value e w) (code e ty h) rest k l live t w
      (same_with E (λ v t1 w1. Stored ty h t v t1) (λ v w1. Good w1 × Suits u v) (value e w) _ (sound e u w he good) (does (before_steps rest live) t w good))
      (λ v t1 w1 p. c v t1 w1 (ap (λ q. at_kind q t1 h) (sym hk) ∙ p.0.value) p.0.lower p.1.0 p.1.1)

  abbrev go : Temporaries → W → Run W Temporaries
  go t w = Go t w

  plainly : {A B : Type 0} (Q : A → B → W → Type 0) (m : Run W A) (m' : Run W B) → Same E Q m (bind m' (λ x w. Go x w)) → Same E Q m m'
  plainly Q m m' s = subst (λ r. Same E Q m r) (bind_go m') s

  plain : (ty : Ty) (h : ℕ) (t : Temporaries) (m : Run W Value) (steps : Steps) (live : ℕ → Bool) (t1 : Temporaries) (w : W) → Sets ty h t m (bind (run steps live t1 w) go) → Sets ty h t m (run steps live t1 w)
  plain ty h t m steps live t1 w s = subst (λ r. Sets ty h t m r) (bind_go (run steps live t1 w)) s

  -- the last operation
  last : (line : ℕ) (ty : Ty) (h : ℕ) (op : Operation) (live : ℕ → Bool) (t0 t : Temporaries) (w : W) (r : Run W Value) → Lower h t0 t → operation_value ops (deletes program) locals line op calls' live env t h w ≡ r → Sets ty h t0 r (bind (run (one (set line h ty op)) live t w) go)
  last line ty h op live t0 t w r l e = subst (λ m. Sets ty h t0 r m) (sym (bind_go (run (one (set line h ty op)) live t w))) (set_does line ty h op live t0 t w r l e)

  -- one of two ways
  forks : (line h : ℕ) (ty test : Ty) (a b' : Steps) (live : ℕ → Bool) (t0 t : Temporaries) (w : W) (b : Bool) (f g : W → Run W Value) → holds test (temporary test t h) ≡ b →
      Sets ty h t0 (f w) (run a (before_steps To.none live) t w) → Sets ty h t0 (g w) (run b' (before_steps To.none live) t w) → Sets ty h t0 (branching b f g w) (bind (run (one (fork line h test ty a b')) live t w) go)
  forks line h ty test a b' live t0 t w b f g e sf sg =
      subst (λ m. Sets ty h t0 (branching b f g w) m) (sym (bind_go (run (one (fork line h test ty a b')) live t w) ∙ bind_go (branching (holds test (temporary test t h)) (run a (before_steps To.none live) t) (run b' (before_steps To.none live) t) w)))
      (subst (λ c. Sets ty h t0 (branching b f g w) (branching c (run a (before_steps To.none live) t) (run b' (before_steps To.none live) t) w)) (sym e) (by b))
    where
      by : (b : Bool) → Sets ty h t0 (branching b f g w) (branching b (run a (before_steps To.none live) t) (run b' (before_steps To.none live) t) w)
      by true = sf
      by false = sg

  tests_so : (e : Expr) (u : Ty) (v : Value) → NotNull e → HasType program locals e u → Suits u v → holds (expression_type program locals e) v ≡ is_true v
  tests_so e u v nn he s = ap (λ x. holds x v) (types_are program locals e u nn he) ∙ holds_same u v s

  of_number : (e : Expr) (k : NumberType) → HasType program locals e (number k) → NotNull e
  of_number e Int he = number_not_null program locals e Signed _ refl he
  of_number e Unsigned he = number_not_null program locals e Wrapping _ refl he
  of_number e Char he = char_not_null program locals e he

  -- the value of an operand below, behind another one
  still : (kind : Kind) (h : ℕ) (t1 t2 : Temporaries) (v : Value) → Lower (suc h) t1 t2 → at_kind kind t1 h ≡ v → at_kind kind t2 h ≡ v
  still kind h t1 t2 v l e = at_lower kind (suc h) h t1 t2 l (omega arith) ∙ e

  over : (h : ℕ) (t t1 t2 : Temporaries) → Lower h t t1 → Lower (suc h) t1 t2 → Lower h t t2
  over h t t1 t2 a b = lower_trans h (suc h) t t1 t2 (omega arith) a b

  abbrev found : Expr → Ty
  found e = expression_type program locals e

  from_lower : (ty : Ty) (h : ℕ) (t t1 : Temporaries) (m : Run W Value) (m' : Run W Temporaries) → Lower h t t1 → Sets ty h t1 m m' → Sets ty h t m m'
  from_lower ty h t t1 m m' l s = same_weaken E (λ v t2 w. Stored ty h t1 v t2) (λ v t2 w. Stored ty h t v t2) m m' s (λ v t2 w p. record { value = p.value; lower = lower_trans h h t t1 t2 (omega arith) l p.lower })

  unary_does : (line : ℕ) (operator : UnaryOperator) (s : Signedness) (e : Expr) → HasType program locals e (arithmetic s) → (ty : Ty) (h : ℕ) → Does e (arithmetic s) h → (live : ℕ → Bool) (t : Temporaries) (w : W) → Good w →
      Sets ty h t (bind (value e w) (λ v w1. bind (computed line (calculate_one operator s (number_in v)) w1) give_number)) (run (both (code e (arithmetic s) h) (one (set line h ty (To.unary operator s)))) live t w)
  unary_does line operator s e he ty h does live t w good =
      plain ty h t _ (both (code e (arithmetic s) h) (one (set line h ty (To.unary operator s)))) live t w
      (first e (arithmetic s) (arithmetic s) numeric h _ he (kind_arithmetic s) does _ _ go live t w good (λ v t1 w1 ev l1 g1 s1.
      last line ty h (To.unary operator s) live t t1 w1 (bind (computed line (calculate_one operator s (number_in v)) w1) give_number) l1 (ap (λ a. bind (computed line (calculate_one operator s (number_in a)) w1) give_number) ev)))

  truth_does : (line : ℕ) (e : Expr) (u ty : Ty) (h : ℕ) (t0 : Temporaries) → NotNull e → HasType program locals e u → Does e (found e) h → (live : ℕ → Bool) (t : Temporaries) (w : W) → Lower h t0 t → Good w →
      Sets ty h t0 (bind (value e w) (λ v w1. Go (as_wanted true (is_true v)) w1)) (run (both (code e (found e) h) (one (set line h ty (To.truth (found e))))) live t w)
  truth_does line e u ty h t0 nn he does live t w l0 good =
      plain ty h t0 _ (both (code e (found e) h) (one (set line h ty (To.truth (found e))))) live t w
      (first e u (found e) (kind_of (found e)) h _ he refl does _ _ go live t w good (λ v t1 w1 ev l1 g1 s1.
      last line ty h (To.truth (found e)) live t0 t1 w1 (Go (as_wanted true (is_true v)) w1) (lower_trans h h t0 t t1 (omega arith) l0 l1) (ap (λ b. Go (as_wanted true b) w1) (ap (holds (found e)) ev ∙ tests_so e u v nn he s1))))

  -- arguments stand from h on, and an access tells the target
  abbrev Argued : List Ty → ℕ → Temporaries → List Value → Temporaries → W → Type 0
  Argued tys h t vs t1 w = (kept_all tys (temporaries_from tys t1 h) ≡ vs) × Lower h t t1 × Good w × AllSuit tys vs

  abbrev Aimed : Access → ℕ → Temporaries → Target → Temporaries → W → Type 0
  Aimed a h t tg t1 w = (target_at a t1 h ≡ tg) × Lower h t t1 × Good w

  arguments_same : (es : Arguments) (tys : List Ty) → AreArguments program locals es tys → argument_types program locals es tys ≡ tys
  arguments_same none [] ha = refl
  arguments_same none (ty ∷ tys) ha = absurd ha
  arguments_same (more e es) [] ha = absurd ha
  arguments_same (more e es) (ty ∷ tys) ha = ap (λ ts. ty ∷ ts) (arguments_same es tys ha.1)

  abbrev types_in : Option Function → List Ty
  types_in None = []
  types_in (Some g) = parameters_of g

  called_quietly : (f : ℕ) (vs : List Value) (tys : List Ty) (w : W) (live : ℕ → Bool) (t : Temporaries) (h : ℕ) → AllSuit (parameter_types program f) vs → Good w → Known (parameter_types program f) vs w → deletes program f ≡ false → kept_all tys (temporaries_from tys t h) ≡ vs → Same E Equal (calling ops program calls live0 env f vs w) (operation_value ops (deletes program) locals 0 (To.call f tys) calls' live env t h w)
  called_quietly f vs tys w live t h su good kn q e =
      subst (λ xs. Same E Equal (calling ops program calls live0 env f xs w) (operation_value ops (deletes program) locals 0 (To.call f tys) calls' live env t h w)) e
      (by (deletes program f) q)
    where
      by : (b : Bool) → b ≡ false → Same E Equal (branching b (λ w1. bind (calls f (kept_all tys (temporaries_from tys t h)) (ops.enter (held live0 env) w1)) (λ v w2. Go v (ops.leave w1 w2))) (calls f (kept_all tys (temporaries_from tys t h))) w) (branching b (λ w1. bind (calls' f (kept_all tys (temporaries_from tys t h)) (ops.enter (pinned (pins_from locals 0 live) env) w1)) (λ v w2. Go v (ops.leave w1 w2))) (calls' f (kept_all tys (temporaries_from tys t h))) w)
      by false q = called f (kept_all tys (temporaries_from tys t h)) w (subst (AllSuit (parameter_types program f)) (sym e) su) (subst (λ xs. Known (parameter_types program f) xs w) (sym e) kn)
      by true q = cc

  mutual
    pub expression_does : (e : Expr) (u : Ty) → HasType program locals e u → IsQuiet program e → (ty : Ty) (h : ℕ) → Does e ty h
    expression_does (constant line s n) u he q ty h live t w good = set_does line ty h (To.constant s n) live t t w _ (lower_itself h t) refl
    expression_does (null line) u he q ty h live t w good = set_does line ty h To.null live t t w _ (lower_itself h t) refl
    expression_does (string line k) u he q ty h live t w good = set_does line ty h (To.static (length program.globals + k)) live t t w _ (lower_itself h t) refl
    expression_does (local line x) u he q ty h live t w good = set_does line ty h (To.copy x) live t t w _ (lower_itself h t) refl
    expression_does (read line place) u he q ty h live t w good =
        plain ty h t _ (code (read line place) ty h) live t w
        (follow (Aimed (access program locals place) h t) (λ v t1 w1. Stored ty h t v t1) _ (place_code program locals line place h) (one (set line h ty (To.load (access program locals place)))) (ops.load line) go live t w (place_does line place h _ he.1.0 q _ t w good) (λ tg t1 w1 p.
        last line ty h (To.load (access program locals place)) live t t1 w1 (ops.load line tg w1) p.1 (ap (λ a. ops.load line a w1) p.0)))
    expression_does (address line g) u he q ty h live t w good = set_does line ty h (To.static g) live t t w _ (lower_itself h t) refl
    expression_does (step line direction p i) u he q ty h live t w good =
        let pt = pointer_type program locals p in
        let it = index_type program locals i in
        plain ty h t _ (code (step line direction p i) ty h) live t w
        (first p u pt (kind_of pt) h _ he.2 refl (expression_does p u he.2 q.0 pt h) _ _ go live t w good (λ v t1 w1 ev l1 g1 s1.
        first i (arithmetic he.3.0) it (kind_of it) (suc h) _ he.3.1 refl (expression_does i _ he.3.1 q.1 it (suc h)) _ _ go live t1 w1 g1 (λ n t2 w2 en l2 g2 s2.
        last line ty h (To.step direction pt it) live t t2 w2 (ops.step line v (toward direction (number_in n)) w2) (over h t t1 t2 l1 l2)
        (ap (λ a. ops.step line a (toward direction (number_in (temporary it t2 (suc h)))) w2) (still (kind_of pt) h t1 t2 v l2 ev) ∙ ap (λ b. ops.step line v (toward direction (number_in b)) w2) en))))
    expression_does (step_from line i p) u he q ty h live t w good =
        let pt = pointer_type program locals p in
        let it = index_type program locals i in
        plain ty h t _ (code (step_from line i p) ty h) live t w
        (first i (arithmetic he.3.0) it (kind_of it) h _ he.3.1 refl (expression_does i _ he.3.1 q.0 it h) _ _ go live t w good (λ n t1 w1 en l1 g1 s1.
        first p u pt (kind_of pt) (suc h) _ he.2 refl (expression_does p u he.2 q.1 pt (suc h)) _ _ go live t1 w1 g1 (λ v t2 w2 ev l2 g2 s2.
        last line ty h (To.step_from it pt) live t t2 w2 (ops.step line v (number_in n) w2) (over h t t1 t2 l1 l2)
        (ap (λ a. ops.step line a (number_in (temporary it t2 h)) w2) ev ∙ ap (λ b. ops.step line v (number_in b) w2) (still (kind_of it) h t1 t2 n l2 en)))))
    expression_does (unary line Negate s e) u he q ty h live t w good = unary_does line Negate s e he.1 ty h (expression_does e _ he.1 q (arithmetic s) h) live t w good
    expression_does (unary line Complement s e) u he q ty h live t w good = unary_does line Complement s e he.1 ty h (expression_does e _ he.1 q (arithmetic s) h) live t w good
    expression_does (unary line Plus s e) u he q ty h live t w good =
        plain ty h t _ (code e ty h) live t w
        (same_bind E (λ v t1 w1. Stored ty h t v t1 × (Good w1 × Suits (arithmetic s) v)) (λ v t1 w1. Stored ty h t v t1) (value e w) (run (code e ty h) live t w) _ go
        (same_with E (λ v t1 w1. Stored ty h t v t1) (λ v w1. Good w1 × Suits (arithmetic s) v) (value e w) _ (sound e _ w he.1 good) (expression_does e _ he.1 q ty h live t w good))
        (λ v t1 w1 p. (refl, record { value = p.0.value ∙ sym (is_number s v p.1.1); lower = p.0.lower })))
    expression_does (binary line operator s a b) u he q ty h live t w good =
        plain ty h t _ (code (binary line operator s a b) ty h) live t w
        (first a (arithmetic s) (arithmetic s) numeric h _ he.1 (kind_arithmetic s) (expression_does a _ he.1 q.0 (arithmetic s) h) _ _ go live t w good (λ v t1 w1 ev l1 g1 s1.
        first b (arithmetic he.2.0) (found b) (kind_of (found b)) (suc h) _ he.2.1.1 refl (expression_does b _ he.2.1.1 q.1 (found b) (suc h)) _ _ go live t1 w1 g1 (λ x t2 w2 ex l2 g2 s2.
        let tb : found b ≡ arithmetic he.2.0 = types_are program locals b _ (number_not_null program locals b he.2.0 _ refl he.2.1.1) he.2.1.1 in
        last line ty h (To.binary operator s (found b)) live t t2 w2 (bind (computed line (calculate operator s (number_in v) (number_in x)) w2) give_number) (over h t t1 t2 l1 l2)
        (ap (λ y. bind (computed line (calculate operator s (number_in y) (right_number operator (found b) (temporary (found b) t2 (suc h)))) w2) give_number) (still numeric h t1 t2 v l2 ev)
        ∙ ap (λ y. bind (computed line (calculate operator s (number_in v) (right_number operator (found b) y)) w2) give_number) ex
        ∙ ap (λ z. bind (computed line (calculate operator s (number_in v) (right_number operator z x)) w2) give_number) tb
        ∙ ap (λ r. bind (computed line r w2) give_number) (right_same operator he.2.0 s (number_in v) x s2)))))
    expression_does (convert line from to e) u he q ty h live t w good =
        plain ty h t _ (code (convert line from to e) ty h) live t w
        (first e (number from) (number from) numeric h _ he.2 (kind_number from) (expression_does e _ he.2 q (number from) h) _ _ go live t w good (λ v t1 w1 ev l1 g1 s1.
        last line ty h (To.convert from to) live t t1 w1 (Go (Number (converted to (number_in v))) w1) l1
        (ap (λ y. Go (convert_value from to y) w1) ev ∙ ap (λ x. Go x w1) (sym (convert_is from to v he.1 s1)))))
    expression_does (not_zero line e) u he q ty h live t w good =
        plain ty h t _ (code (not_zero line e) ty h) live t w
        (first e (number he.1.0) (found e) (kind_of (found e)) h _ he.1.1 refl (expression_does e _ he.1.1 q (found e) h) _ _ go live t w good (λ v t1 w1 ev l1 g1 s1.
        last line ty h (To.not_zero (found e)) live t t1 w1 (Go (as_wanted false (is_true v)) w1) l1
        (ap (λ b. Go (as_wanted false b) w1) (ap (holds (found e)) ev ∙ tests_so e (number he.1.0) v (of_number e he.1.0 he.1.1) he.1.1 s1))))
    expression_does (and line a b) u he q ty h live t w good =
        plain ty h t _ (code (and line a b) ty h) live t w
        (first a he.3.0 (found a) (kind_of (found a)) h _ he.3.1 refl (expression_does a _ he.3.1 q.0 (found a) h) _ _ go live t w good (λ v t1 w1 ev l1 g1 s1.
        forks line h ty (found a) (both (code b (found b) h) (one (set line h ty (To.truth (found b))))) (one (set line h ty (To.constant Signed (pos 0)))) live t t1 w1 (is_true v) _ _ (ap (holds (found a)) ev ∙ tests_so a he.3.0 v he.1 he.3.1 s1)
        (truth_does line b he.4.0 ty h t he.2 he.4.1 (expression_does b _ he.4.1 q.1 (found b) h) (before_steps To.none live) t1 w1 l1 g1)
        (set_does line ty h (To.constant Signed (pos 0)) (before_steps To.none live) t t1 w1 _ l1 refl)))
    expression_does (or line a b) u he q ty h live t w good =
        plain ty h t _ (code (or line a b) ty h) live t w
        (first a he.3.0 (found a) (kind_of (found a)) h _ he.3.1 refl (expression_does a _ he.3.1 q.0 (found a) h) _ _ go live t w good (λ v t1 w1 ev l1 g1 s1.
        forks line h ty (found a) (one (set line h ty (To.constant Signed (pos 1)))) (both (code b (found b) h) (one (set line h ty (To.truth (found b))))) live t t1 w1 (is_true v) _ _ (ap (holds (found a)) ev ∙ tests_so a he.3.0 v he.1 he.3.1 s1)
        (set_does line ty h (To.constant Signed (pos 1)) (before_steps To.none live) t t1 w1 _ l1 refl)
        (truth_does line b he.4.0 ty h t he.2 he.4.1 (expression_does b _ he.4.1 q.1 (found b) h) (before_steps To.none live) t1 w1 l1 g1)))
    expression_does (choose line test a b) u he q ty h live t w good =
        plain ty h t _ (code (choose line test a b) ty h) live t w
        (first test he.1.0 (found test) (kind_of (found test)) h _ he.1.1 refl (expression_does test _ he.1.1 q.0 (found test) h) _ _ go live t w good (λ v t1 w1 ev l1 g1 s1.
        forks line h ty (found test) (code a ty h) (code b ty h) live t t1 w1 (is_true v) _ _ (ap (holds (found test)) ev ∙ tests_so test he.1.0 v he.0 he.1.1 s1)
        (from_lower ty h t t1 (value a w1) (run (code a ty h) (before_steps To.none live) t1 w1) l1 (expression_does a u he.3 q.1 ty h (before_steps To.none live) t1 w1 g1))
        (from_lower ty h t t1 (value b w1) (run (code b ty h) (before_steps To.none live) t1 w1) l1 (expression_does b u he.4 q.2 ty h (before_steps To.none live) t1 w1 g1))))
    expression_does (is_null line wanted e) u he q ty h live t w good =
        plain ty h t _ (code (is_null line wanted e) ty h) live t w
        (first e he.2.0 (found e) (kind_of (found e)) h _ he.2.1.1 refl (expression_does e _ he.2.1.1 q (found e) h) _ _ go live t w good (λ v t1 w1 ev l1 g1 s1.
        last line ty h (To.is_null wanted (found e)) live t t1 w1 (Go (as_wanted wanted (not (is_true v))) w1) l1 (ap (λ y. Go (as_wanted wanted (not (is_true y))) w1) ev)))
    expression_does (same line wanted a b) u he q ty h live t w good =
        plain ty h t _ (code (same line wanted a b) ty h) live t w
        (first a he.3.0 (found a) (kind_of (found a)) h _ he.3.1.1 refl (expression_does a _ he.3.1.1 q.0 (found a) h) _ _ go live t w good (λ v t1 w1 ev l1 g1 s1.
        first b he.3.0 (found a) (kind_of (found a)) (suc h) _ he.3.1.2 refl (expression_does b _ he.3.1.2 q.1 (found a) (suc h)) _ _ go live t1 w1 g1 (λ x t2 w2 ex l2 g2 s2.
        last line ty h (To.same wanted (found a)) live t t2 w2 (Go (as_wanted wanted (same_value v x)) w2) (over h t t1 t2 l1 l2)
        (ap (λ y. Go (as_wanted wanted (same_value y (temporary (found a) t2 (suc h)))) w2) (still (kind_of (found a)) h t1 t2 v l2 ev) ∙ ap (λ y. Go (as_wanted wanted (same_value v y)) w2) ex))))
    expression_does (call line f arguments) u he q ty h live t w good =
        let tys : parameter_types program f ≡ parameters_of he.0 = ap types_in he.1.0 in
        let ha = subst (AreArguments program locals arguments) (sym tys) he.1.2 in
        subst (λ ts. Sets ty h t (value (call line f arguments) w) (run (both (arguments_code program locals arguments (parameter_types program f) h) (one (set line h ty (To.call f ts)))) live t w)) (sym (arguments_same arguments (parameter_types program f) ha))
        (plain ty h t _ (both (arguments_code program locals arguments (parameter_types program f) h) (one (set line h ty (To.call f (parameter_types program f))))) live t w
        (follow (λ vs t1 w1. Argued (parameter_types program f) h t vs t1 w1 × (Good w1 × Known (parameter_types program f) vs w1 × Known (parameter_types program f) vs (ops.enter (held live0 env) w1))) (λ v t1 w1. Stored ty h t v t1) _ (arguments_code program locals arguments (parameter_types program f) h) (one (set line h ty (To.call f (parameter_types program f)))) (calling ops program calls live0 env f) go live t w
        (same_with E (Argued (parameter_types program f) h t) (λ vs w1. Good w1 × Known (parameter_types program f) vs w1 × Known (parameter_types program f) vs (ops.enter (held live0 env) w1)) (eval_all ops program arguments (calling ops program calls live0 env) env w) _ (argued arguments (parameter_types program f) w (subst (AreArguments program locals arguments) (sym tys) he.1.2) good)
        (arguments_do arguments (parameter_types program f) h (subst (AreArguments program locals arguments) (sym tys) he.1.2) q.1 _ t w good)) (λ vs t1 w1 p.
        subst (λ m. Sets ty h t (calling ops program calls live0 env f vs w1) m) (sym (bind_go (run (one (set line h ty (To.call f (parameter_types program f)))) live t1 w1)))
        (set_related ty h t t1 (calling ops program calls live0 env f vs w1) (operation_value ops (deletes program) locals line (To.call f (parameter_types program f)) calls' live env t1 h w1) p.0.1 (called_quietly f vs (parameter_types program f) w1 live t1 h p.0.3 p.0.2 p.1.1 q.0 p.0.0)))))
    expression_does (new_region line) u he q ty h live t w good = set_does line ty h To.new_region live t t w _ (lower_itself h t) refl
    expression_does (new_subregion line r) u he q ty h live t w good =
        plain ty h t _ (code (new_subregion line r) ty h) live t w
        (first r region region regional h _ he.1 refl (expression_does r _ he.1 q region h) _ _ go live t w good (λ v t1 w1 ev l1 g1 s1.
        last line ty h To.new_subregion live t t1 w1 (ops.new_subregion line v w1) l1 (ap (λ y. ops.new_subregion line y w1) ev)))
    expression_does (region_of line p) u he q ty h live t w good =
        plain ty h t _ (code (region_of line p) ty h) live t w
        (first p he.2.0 (found p) (kind_of (found p)) h _ he.2.1.1 refl (expression_does p _ he.2.1.1 q (found p) h) _ _ go live t w good (λ v t1 w1 ev l1 g1 s1.
        last line ty h (To.region_of (found p)) live t t1 w1 (region_named line v w1) l1 (ap (λ y. region_named line y w1) ev)))
    expression_does (allocate line r made) u he q ty h live t w good =
        plain ty h t _ (code (allocate line r made) ty h) live t w
        (first r region region regional h _ he.2 refl (expression_does r _ he.2 q region h) _ _ go live t w good (λ v t1 w1 ev l1 g1 s1.
        last line ty h (To.allocate made (cells program.structs made)) live t t1 w1 (ops.allocate line v (pos 1) (cells program.structs made) w1) l1 (ap (λ y. ops.allocate line y (pos 1) (cells program.structs made) w1) ev)))
    expression_does (allocate_array line r n made) u he q ty h live t w good =
        plain ty h t _ (code (allocate_array line r n made) ty h) live t w
        (first r region region regional h _ he.2 refl (expression_does r _ he.2 q.0 region h) _ _ go live t w good (λ v t1 w1 ev l1 g1 s1.
        first n int int numeric (suc h) _ he.3 refl (expression_does n _ he.3 q.1 int (suc h)) _ _ go live t1 w1 g1 (λ m t2 w2 em l2 g2 s2.
        last line ty h (To.allocate_array made (cells program.structs made)) live t t2 w2 (ops.allocate line v (number_in m) (cells program.structs made) w2) (over h t t1 t2 l1 l2)
        (ap (λ y. ops.allocate line y (number_in (t2.numbers (suc h))) (cells program.structs made) w2) (still regional h t1 t2 v l2 ev) ∙ ap (λ y. ops.allocate line v (number_in y) (cells program.structs made) w2) em))))
    expression_does (putchar line e) u he q ty h live t w good =
        plain ty h t _ (code (putchar line e) ty h) live t w
        (first e int int numeric h _ he.1 refl (expression_does e _ he.1 q int h) _ _ go live t w good (λ v t1 w1 ev l1 g1 s1.
        last line ty h To.putchar live t t1 w1 (bind (ops.put_byte (byte_of (number_in v)) w1) (λ _ w2. Go (Number (pos (byte_of (number_in v)))) w2)) l1
        (ap (λ y. bind (ops.put_byte (byte_of (number_in y)) w1) (λ _ w2. Go (Number (pos (byte_of (number_in y)))) w2)) ev)))
    expression_does (getchar line) u he q ty h live t w good = set_does line ty h To.getchar live t t w _ (lower_itself h t) refl

    arguments_do : (es : Arguments) (tys : List Ty) (h : ℕ) → AreArguments program locals es tys → AreQuiet program es → (live : ℕ → Bool) (t : Temporaries) (w : W) → Good w →
        Same E (Argued tys h t) (eval_all ops program es (calling ops program calls live0 env) env w) (run (arguments_code program locals es tys h) live t w)
    arguments_do none [] h ha q live t w good = (refl, (refl, lower_itself h t, good, tt))
    arguments_do none (ty ∷ tys) h ha q live t w good = absurd ha
    arguments_do (more e es) [] h ha q live t w good = absurd ha
    arguments_do (more e es) (ty ∷ tys) h ha q live t w good =
        plainly (Argued (ty ∷ tys) h t) _ (run (arguments_code program locals (more e es) (ty ∷ tys) h) live t w)
        (first e (value_type ty) (value_type ty) (kind_of ty) h (arguments_code program locals es tys (suc h)) ha.0 (kind_value ty) (expression_does e _ ha.0 q.0 (value_type ty) h) (Argued (ty ∷ tys) h t) _ go live t w good (λ v t1 w1 ev l1 g1 s1.
        same_bind E (Argued tys (suc h) t1) (Argued (ty ∷ tys) h t) (eval_all ops program es (calling ops program calls live0 env) env w1) (run (arguments_code program locals es tys (suc h)) live t1 w1) (λ vs w2. Go (v ∷ vs) w2) go (arguments_do es tys (suc h) ha.1 q.1 live t1 w1 g1) (λ vs t2 w2 p.
        (refl, (ap (λ x. x ∷ kept_all tys (temporaries_from tys t2 (suc h))) (ap (kept ty) (still (kind_of ty) h t1 t2 v p.1 ev) ∙ kept_same ty v s1) ∙ ap (λ xs. v ∷ xs) p.0, over h t t1 t2 l1 p.1, p.2, (s1, p.3))))))

    pub place_does : (line : ℕ) (place : Place) (h : ℕ) (ty : Ty) → IsPlace program locals place ty → IsQuietPlace program place → (live : ℕ → Bool) (t : Temporaries) (w : W) → Good w →
        Same E (Aimed (access program locals place) h t) (target ops program place (calling ops program calls live0 env) env w) (run (place_code program locals line place h) live t w)
    place_does line (global g path) h ty hp q live t w good =
        path_does path (first_access program locals (global_type program g) None (place_type program locals (global g path))) (aimed (static g) (pos 0)) h (suc h) hp.0.ty ty (omega arith) hp.1.2 q t (with_temporary (pointer Plain (global_type program g)) t h (static g)) w good
        (ap (λ p. aimed p (pos 0)) (set_here regional t h (static g))) (set_lower regional t h (static g)) live
    place_does line (pointed p path) h ty hp q live t w good =
        let a = first_access program locals (pointee (found p)) None (place_type program locals (pointed p path)) in
        plainly (Aimed (access program locals (pointed p path)) h t) _ (run (place_code program locals line (pointed p path) h) live t w)
        (first p (pointer Plain hp.1.0) (pointer_type program locals p) regional h (path_code program locals path (suc h)) hp.1.1.0 refl (expression_does p _ hp.1.1.0 q.0 (pointer_type program locals p) h) (Aimed (access program locals (pointed p path)) h t) _ go live t w good (λ v t1 w1 ev l1 g1 s1.
        subst (λ m. Same E (Aimed (access program locals (pointed p path)) h t) (along ops program path (aimed v (pos 0)) (calling ops program calls live0 env) env w1) m) (sym (bind_go (run (path_code program locals path (suc h)) live t1 w1)))
        (path_does path a (aimed v (pos 0)) h (suc h) hp.1.0 ty (omega arith) hp.1.1.1 q.1 t t1 w1 g1 (ap (λ p. aimed p (pos 0)) ev) l1 live)))
    place_does line (indexed p i path) h ty hp q live t w good =
        let a = first_access program locals (pointee (found p)) (Some (signedness program locals (found i))) (place_type program locals (indexed p i path)) in
        plainly (Aimed (access program locals (indexed p i path)) h t) _ (run (place_code program locals line (indexed p i path) h) live t w)
        (first p (pointer Plain hp.1.0) (pointer_type program locals p) regional h (both (code i (index_type program locals i) (suc h)) (path_code program locals path (suc (suc h)))) hp.1.1.0 refl (expression_does p _ hp.1.1.0 q.0 (pointer_type program locals p) h) (Aimed (access program locals (indexed p i path)) h t) _ go live t w good (λ v t1 w1 ev l1 g1 s1.
        first i (arithmetic hp.1.1.1.0) (index_type program locals i) numeric (suc h) (path_code program locals path (suc (suc h))) hp.1.1.1.1 (kind_arithmetic (signedness program locals (found i))) (expression_does i _ hp.1.1.1.1 q.1 (index_type program locals i) (suc h)) (Aimed (access program locals (indexed p i path)) h t) _ go live t1 w1 g1 (λ n t2 w2 en l2 g2 s2.
        subst (λ m. Same E (Aimed (access program locals (indexed p i path)) h t) (along ops program path (aimed v (number_in n)) (calling ops program calls live0 env) env w2) m) (sym (bind_go (run (path_code program locals path (suc (suc h))) live t2 w2)))
        (path_does path a (aimed v (number_in n)) h (suc (suc h)) hp.1.0 ty (omega arith) hp.1.1.2 q.2 t t2 w2 g2
        (ap (λ p. aimed p (number_in (t2.numbers (suc h)))) (still regional h t1 t2 v l2 ev) ∙ ap (λ m. aimed v (number_in m)) en) (over h t t1 t2 l1 l2) live))))

    path_does : (path : Path) (a : Access) (tg : Target) (h next : ℕ) (u ty : Ty) → next ≡ h + width a → LeadsTo program locals path u ty → IsQuietPath program path → (t0 t : Temporaries) (w : W) → Good w → target_at a t h ≡ tg → Lower h t0 t → (live : ℕ → Bool) →
        Same E (Aimed (path_access program locals path a) h t0) (along ops program path tg (calling ops program calls live0 env) env w) (run (path_code program locals path next) live t w)
    path_does here a tg h next u ty en hp q t0 t w good et l0 live = (refl, (et, l0, good))
    path_does (field s f path) a tg h next u ty en hp q t0 t w good et l0 live =
        path_does path (record a { offset = a.offset + offset program.structs s f }) (further (offset program.structs s f) tg) h next _ ty en hp.1.1.2 q t0 t w good (further_at a (offset program.structs s f) t h ∙ ap (further (offset program.structs s f)) et) l0 live
    path_does (element s f i path) a tg h next u ty en hp q t0 t w good et l0 live =
        let a1 : Access = record a { offset = a.offset + offset program.structs s f } in
        let ix : Index = record { count = count_of program.structs s f; stride = stride program.structs s f; kind = signedness program locals (found i) } in
        let a2 : Access = record a1 { indices = a1.indices ++ ix ∷ [] } in
        let tg1 = further (offset program.structs s f) tg in
        plainly (Aimed (path_access program locals path a2) h t0) _ (run (path_code program locals (element s f i path) next) live t w)
        (first i (arithmetic hp.1.1.2.0) (index_type program locals i) numeric next (path_code program locals path (suc next)) hp.1.1.2.1 (kind_arithmetic (signedness program locals (found i))) (expression_does i _ hp.1.1.2.1 q.0 (index_type program locals i) next) (Aimed (path_access program locals path a2) h t0) _ go live t w good (λ n t1 w1 ei l1 g1 s1.
        let tg2 = choosing (record { index = number_in n; count = count_of program.structs s f; stride = stride program.structs s f }) tg1 in
        subst (λ m. Same E (Aimed (path_access program locals path a2) h t0) (along ops program path tg2 (calling ops program calls live0 env) env w1) m) (sym (bind_go (run (path_code program locals path (suc next)) live t1 w1)))
        (path_does path a2 tg2 h (suc next) _ ty (wider a1 ix h next en) hp.1.1.3 q.1 t0 t1 w1 g1
        (behind_index a1 ix t1 h next en
        ∙ ap (λ x. choosing (record { index = number_in x; count = ix.count; stride = ix.stride }) (target_at a1 t1 h)) ei
        ∙ ap (choosing (record { index = number_in n; count = ix.count; stride = ix.stride })) (target_lower a1 h next t t1 l1 (omega (arith, en)) ∙ further_at a (offset program.structs s f) t h ∙ ap (further (offset program.structs s f)) et))
        (lower_trans h next t0 t t1 (omega (arith, en)) l0 l1) live)))

  -- a call whose whole stands where the live locals are those of the source's node
  calls_same : (f : ℕ) (vs : List Value) (tys : List Ty) (line : ℕ) (w : W) (t : Temporaries) (h : ℕ) → AllSuit (parameter_types program f) vs → Good w → Known (parameter_types program f) vs w → Known (parameter_types program f) vs (ops.enter (held live0 env) w) → kept_all tys (temporaries_from tys t h) ≡ vs → Same E Equal (calling ops program calls live0 env f vs w) (operation_value ops (deletes program) locals line (To.call f tys) calls' live0 env t h w)
  calls_same f vs tys line w t h su good kn entered e =
      subst (λ xs. Same E Equal (calling ops program calls live0 env f xs w) (operation_value ops (deletes program) locals line (To.call f tys) calls' live0 env t h w)) e (by (deletes program f))
    where
      by : (b : Bool) → Same E Equal (branching b (λ w1. bind (calls f (kept_all tys (temporaries_from tys t h)) (ops.enter (held live0 env) w1)) (λ v w2. Go v (ops.leave w1 w2))) (calls f (kept_all tys (temporaries_from tys t h))) w)
          (branching b (λ w1. bind (calls' f (kept_all tys (temporaries_from tys t h)) (ops.enter (pinned (pins_from locals 0 live0) env) w1)) (λ v w2. Go v (ops.leave w1 w2))) (calls' f (kept_all tys (temporaries_from tys t h))) w)
      by false = called f (kept_all tys (temporaries_from tys t h)) w (subst (AllSuit (parameter_types program f)) (sym e) su) (subst (λ xs. Known (parameter_types program f) xs w) (sym e) kn)
      by true =
          subst (λ vs. Same E Equal (bind (calls f (kept_all tys (temporaries_from tys t h)) (ops.enter (held live0 env) w)) (λ v w2. Go v (ops.leave w w2))) (bind (calls' f (kept_all tys (temporaries_from tys t h)) (ops.enter vs w)) (λ v w2. Go v (ops.leave w w2)))) (sym holding)
          (same_bind E Equal Equal (calls f (kept_all tys (temporaries_from tys t h)) (ops.enter (held live0 env) w)) (calls' f (kept_all tys (temporaries_from tys t h)) (ops.enter (held live0 env) w)) _ _ (called f (kept_all tys (temporaries_from tys t h)) (ops.enter (held live0 env) w) (subst (AllSuit (parameter_types program f)) (sym e) su) (subst (λ xs. Known (parameter_types program f) xs (ops.enter (held live0 env) w)) (sym e) entered)) (λ x y w1 e. (refl, e)))

  pub call_does : (line f : ℕ) (arguments : Arguments) (g : Function) → slice_get program.functions f ≡ Some g → AreArguments program locals arguments (parameters_of g) → AreQuiet program arguments → (ty : Ty) (h : ℕ) (t : Temporaries) (w : W) → Good w →
      Sets ty h t (value (call line f arguments) w) (run (code (call line f arguments) ty h) live0 t w)
  call_does line f arguments g eg ha q ty h t w good =
      subst (λ ts. Sets ty h t (value (call line f arguments) w) (run (both (arguments_code program locals arguments (parameter_types program f) h) (one (set line h ty (To.call f ts)))) live0 t w)) (sym (arguments_same arguments (parameter_types program f) (subst (AreArguments program locals arguments) (sym (ap types_in eg)) ha)))
      (plain ty h t _ (both (arguments_code program locals arguments (parameter_types program f) h) (one (set line h ty (To.call f (parameter_types program f))))) live0 t w
      (follow (λ vs t1 w1. Argued (parameter_types program f) h t vs t1 w1 × (Good w1 × Known (parameter_types program f) vs w1 × Known (parameter_types program f) vs (ops.enter (held live0 env) w1))) (λ v t1 w1. Stored ty h t v t1) _ (arguments_code program locals arguments (parameter_types program f) h) (one (set line h ty (To.call f (parameter_types program f)))) (calling ops program calls live0 env f) go live0 t w
      (same_with E (Argued (parameter_types program f) h t) (λ vs w1. Good w1 × Known (parameter_types program f) vs w1 × Known (parameter_types program f) vs (ops.enter (held live0 env) w1)) (eval_all ops program arguments (calling ops program calls live0 env) env w) _ (argued arguments (parameter_types program f) w (subst (AreArguments program locals arguments) (sym (ap types_in eg)) ha) good)
      (arguments_do arguments (parameter_types program f) h (subst (AreArguments program locals arguments) (sym (ap types_in eg)) ha) q _ t w good)) (λ vs t1 w1 p.
      subst (λ m. Sets ty h t (calling ops program calls live0 env f vs w1) m) (sym (bind_go (run (one (set line h ty (To.call f (parameter_types program f)))) live0 t1 w1)))
      (set_related ty h t t1 (calling ops program calls live0 env f vs w1) (operation_value ops (deletes program) locals line (To.call f (parameter_types program f)) calls' live0 env t1 h w1) p.0.1 (calls_same f vs (parameter_types program f) line w1 t1 h p.0.3 p.0.2 p.1.1 p.1.2 p.0.0)))))

  -- a call whose result nothing takes, behind its arguments
  pub performs : (line f : ℕ) (arguments : Arguments) (g : Function) → slice_get program.functions f ≡ Some g → AreArguments program locals arguments (parameters_of g) → AreQuiet program arguments → (t : Temporaries) (w : W) → Good w →
      {A B : Type 0} (Q : A → B → W → Type 0) (k : Value → W → Run W A) (l : Temporaries → W → Run W B) → ((v : Value) (t1 : Temporaries) (w1 : W) → Same E Q (k v w1) (l t1 w1)) →
      Same E Q (bind (value (call line f arguments) w) k) (bind (run (arguments_code program locals arguments (parameter_types program f) 0) live0 t w) (λ t1 w1. bind (operation_value ops (deletes program) locals line (To.call f (argument_types program locals arguments (parameter_types program f))) calls' live0 env t1 0 w1) (λ _ w2. l t1 w2)))
  performs line f arguments g eg ha q t w good Q k l c =
      let hp = subst (AreArguments program locals arguments) (sym (ap types_in eg)) ha in
      subst (λ ts. Same E Q (bind (value (call line f arguments) w) k) (bind (run (arguments_code program locals arguments (parameter_types program f) 0) live0 t w) (λ t1 w1. bind (operation_value ops (deletes program) locals line (To.call f ts) calls' live0 env t1 0 w1) (λ _ w2. l t1 w2)))) (sym (arguments_same arguments (parameter_types program f) hp))
      (subst (λ m. Same E Q m (bind (run (arguments_code program locals arguments (parameter_types program f) 0) live0 t w) (λ t1 w1. bind (operation_value ops (deletes program) locals line (To.call f (parameter_types program f)) calls' live0 env t1 0 w1) (λ _ w2. l t1 w2)))) (sym (bind_bind (eval_all ops program arguments (calling ops program calls live0 env) env w) (calling ops program calls live0 env f) k))
      (same_bind E (λ vs t1 w1. Argued (parameter_types program f) 0 t vs t1 w1 × (Good w1 × Known (parameter_types program f) vs w1 × Known (parameter_types program f) vs (ops.enter (held live0 env) w1))) Q (eval_all ops program arguments (calling ops program calls live0 env) env w) (run (arguments_code program locals arguments (parameter_types program f) 0) live0 t w) _ _
      (same_with E (Argued (parameter_types program f) 0 t) (λ vs w1. Good w1 × Known (parameter_types program f) vs w1 × Known (parameter_types program f) vs (ops.enter (held live0 env) w1)) (eval_all ops program arguments (calling ops program calls live0 env) env w) _ (argued arguments (parameter_types program f) w hp good)
      (arguments_do arguments (parameter_types program f) 0 hp q live0 t w good)) (λ vs t1 w1 p.
      same_bind E Equal Q (calling ops program calls live0 env f vs w1) (operation_value ops (deletes program) locals line (To.call f (parameter_types program f)) calls' live0 env t1 0 w1) k (λ _ w2. l t1 w2)
      (calls_same f vs (parameter_types program f) line w1 t1 0 p.0.3 p.0.2 p.1.1 p.1.2 p.0.0) (λ v u w2 e. c v t1 w2))))

  pub inside_does : (e : Expr) (u : Ty) → HasType program locals e u → IsQuietInside program e → (ty : Ty) (h : ℕ) (t : Temporaries) (w : W) → Good w → Sets ty h t (value e w) (run (code e ty h) live0 t w)
  inside_does (call line f arguments) u he q ty h t w good = call_does line f arguments he.0 he.1.0 he.1.2 q ty h t w good
  inside_does (convert line from to e) u he q ty h t w good =
      plain ty h t _ (code (convert line from to e) ty h) live0 t w
      (follow (λ v t1 w1. Stored (number from) h t v t1 × (Good w1 × Suits (number from) v)) (λ v t1 w1. Stored ty h t v t1) (value e w) (code e (number from) h) (one (set line h ty (To.convert from to))) _ go live0 t w
      (same_with E (λ v t1 w1. Stored (number from) h t v t1) (λ v w1. Good w1 × Suits (number from) v) (value e w) _ (sound e (number from) w he.2 good) (inside_does e _ he.2 q (number from) h t w good)) (λ v t1 w1 p.
      last line ty h (To.convert from to) live0 t t1 w1 (Go (Number (converted to (number_in v))) w1) p.0.lower
      (ap (λ y. Go (convert_value from to y) w1) (ap (λ k. at_kind k t1 h) (sym (kind_number from)) ∙ p.0.value) ∙ ap (λ x. Go x w1) (sym (convert_is from to v he.1 p.1.1)))))
  inside_does (constant line s n) u he q ty h t w good = expression_does (constant line s n) u he q ty h live0 t w good
  inside_does (null line) u he q ty h t w good = expression_does (null line) u he q ty h live0 t w good
  inside_does (string line k) u he q ty h t w good = expression_does (string line k) u he q ty h live0 t w good
  inside_does (local line x) u he q ty h t w good = expression_does (local line x) u he q ty h live0 t w good
  inside_does (read line place) u he q ty h t w good = expression_does (read line place) u he q ty h live0 t w good
  inside_does (address line g) u he q ty h t w good = expression_does (address line g) u he q ty h live0 t w good
  inside_does (step line d p i) u he q ty h t w good = expression_does (step line d p i) u he q ty h live0 t w good
  inside_does (step_from line i p) u he q ty h t w good = expression_does (step_from line i p) u he q ty h live0 t w good
  inside_does (unary line o s e) u he q ty h t w good = expression_does (unary line o s e) u he q ty h live0 t w good
  inside_does (binary line o s a b) u he q ty h t w good = expression_does (binary line o s a b) u he q ty h live0 t w good
  inside_does (not_zero line e) u he q ty h t w good = expression_does (not_zero line e) u he q ty h live0 t w good
  inside_does (and line a b) u he q ty h t w good = expression_does (and line a b) u he q ty h live0 t w good
  inside_does (or line a b) u he q ty h t w good = expression_does (or line a b) u he q ty h live0 t w good
  inside_does (choose line test a b) u he q ty h t w good = expression_does (choose line test a b) u he q ty h live0 t w good
  inside_does (is_null line wanted e) u he q ty h t w good = expression_does (is_null line wanted e) u he q ty h live0 t w good
  inside_does (same line wanted a b) u he q ty h t w good = expression_does (same line wanted a b) u he q ty h live0 t w good
  inside_does (new_region line) u he q ty h t w good = expression_does (new_region line) u he q ty h live0 t w good
  inside_does (new_subregion line r) u he q ty h t w good = expression_does (new_subregion line r) u he q ty h live0 t w good
  inside_does (region_of line p) u he q ty h t w good = expression_does (region_of line p) u he q ty h live0 t w good
  inside_does (allocate line r made) u he q ty h t w good = expression_does (allocate line r made) u he q ty h live0 t w good
  inside_does (allocate_array line r n made) u he q ty h t w good = expression_does (allocate_array line r n made) u he q ty h live0 t w good
  inside_does (putchar line e) u he q ty h t w good = expression_does (putchar line e) u he q ty h live0 t w good
  inside_does (getchar line) u he q ty h t w good = expression_does (getchar line) u he q ty h live0 t w good

  quiet_inside : (e : Expr) → IsQuiet program e → IsQuietInside program e
  quiet_inside (call line f arguments) q = q.1
  quiet_inside (convert line from to e) q = quiet_inside e q
  quiet_inside (constant line s n) q = q
  quiet_inside (null line) q = q
  quiet_inside (string line k) q = q
  quiet_inside (local line x) q = q
  quiet_inside (read line place) q = q
  quiet_inside (address line g) q = q
  quiet_inside (step line d p i) q = q
  quiet_inside (step_from line i p) q = q
  quiet_inside (unary line o s e) q = q
  quiet_inside (binary line o s a b) q = q
  quiet_inside (not_zero line e) q = q
  quiet_inside (and line a b) q = q
  quiet_inside (or line a b) q = q
  quiet_inside (choose line test a b) q = q
  quiet_inside (is_null line wanted e) q = q
  quiet_inside (same line wanted a b) q = q
  quiet_inside (new_region line) q = q
  quiet_inside (new_subregion line r) q = q
  quiet_inside (region_of line p) q = q
  quiet_inside (allocate line r made) q = q
  quiet_inside (allocate_array line r n made) q = q
  quiet_inside (putchar line e) q = q
  quiet_inside (getchar line) q = q

  -- a condition, and the branch behind it
  abbrev Decides : Expr → (line : ℕ) (wanted : Bool) → Value → Temporaries → W → Type 0
  Decides e line wanted v t1 w = (test_value (Some (condition_test program locals line wanted e)) t1 ≡ if_wanted wanted (is_true v)) × Good w

  other_way : (wanted b : Bool) → if_wanted (not wanted) b ≡ if_wanted wanted (is_true (as_wanted false b))
  other_way true true = refl
  other_way true false = refl
  other_way false true = refl
  other_way false false = refl

  null_way : (own wanted b : Bool) → if_wanted (test_wanted own wanted) b ≡ if_wanted wanted (is_true (as_wanted own (not b)))
  null_way true true true = refl
  null_way true true false = refl
  null_way true false true = refl
  null_way true false false = refl
  null_way false true true = refl
  null_way false true false = refl
  null_way false false true = refl
  null_way false false false = refl

  simply : (e : Expr) (u : Ty) (line : ℕ) (wanted : Bool) → NotNull e → HasType program locals e u → IsQuietInside program e → (t : Temporaries) (w : W) → Good w →
      Same E (λ v t1 w1. (if_wanted wanted (holds (found e) (temporary (found e) t1 0)) ≡ if_wanted wanted (is_true v)) × Good w1) (value e w) (run (whole program locals e) live0 t w)
  simply e u line wanted nn he q t w good =
      same_weaken E (λ v t1 w1. Stored (found e) 0 t v t1 × (Good w1 × Suits u v)) (λ v t1 w1. (if_wanted wanted (holds (found e) (temporary (found e) t1 0)) ≡ if_wanted wanted (is_true v)) × Good w1) (value e w) (run (whole program locals e) live0 t w)
      (same_with E (λ v t1 w1. Stored (found e) 0 t v t1) (λ v w1. Good w1 × Suits u v) (value e w) (run (whole program locals e) live0 t w) (sound e u w he good) (inside_does e u he q (found e) 0 t w good))
      (λ v t1 w1 p. (ap (if_wanted wanted) (ap (holds (found e)) p.0.value ∙ tests_so e u v nn he p.1.1), p.1.0))

  pub condition_does : (e : Expr) (u : Ty) (line : ℕ) (wanted : Bool) → NotNull e → HasType program locals e u → IsQuietInside program e → (t : Temporaries) (w : W) → Good w → Same E (Decides e line wanted) (value e w) (run (condition_code program locals e) live0 t w)
  condition_does (not_zero own e) u line wanted nn he q t w good =
      plainly (Decides (not_zero own e) line wanted) _ (run (condition_code program locals e) live0 t w)
      (same_bind E (Decides e line (not wanted)) (Decides (not_zero own e) line wanted) (value e w) (run (condition_code program locals e) live0 t w) _ go
      (condition_does e _ line (not wanted) (of_number e he.1.0 he.1.1) he.1.1 (quiet_inside e q) t w good)
      (λ v t1 w1 p. (refl, (p.0 ∙ other_way wanted (is_true v), p.1))))
  condition_does (is_null own isnull e) u line wanted nn he q t w good =
      plainly (Decides (is_null own isnull e) line wanted) _ (run (whole program locals e) live0 t w)
      (same_bind E (λ v t1 w1. (if_wanted (test_wanted isnull wanted) (holds (found e) (temporary (found e) t1 0)) ≡ if_wanted (test_wanted isnull wanted) (is_true v)) × Good w1) (Decides (is_null own isnull e) line wanted) (value e w) (run (whole program locals e) live0 t w) _ go
      (simply e he.2.0 line (test_wanted isnull wanted) he.1 he.2.1.1 (quiet_inside e q) t w good)
      (λ v t1 w1 p. (refl, (p.0 ∙ null_way isnull wanted (is_true v), p.1))))
  condition_does (constant line' s n) u line wanted nn he q t w good = simply (constant line' s n) u line wanted nn he q t w good
  condition_does (string line' k) u line wanted nn he q t w good = simply (string line' k) u line wanted nn he q t w good
  condition_does (local line' x) u line wanted nn he q t w good = simply (local line' x) u line wanted nn he q t w good
  condition_does (read line' place) u line wanted nn he q t w good = simply (read line' place) u line wanted nn he q t w good
  condition_does (address line' g) u line wanted nn he q t w good = simply (address line' g) u line wanted nn he q t w good
  condition_does (step line' d p i) u line wanted nn he q t w good = simply (step line' d p i) u line wanted nn he q t w good
  condition_does (step_from line' i p) u line wanted nn he q t w good = simply (step_from line' i p) u line wanted nn he q t w good
  condition_does (unary line' o s e) u line wanted nn he q t w good = simply (unary line' o s e) u line wanted nn he q t w good
  condition_does (binary line' o s a b) u line wanted nn he q t w good = simply (binary line' o s a b) u line wanted nn he q t w good
  condition_does (and line' a b) u line wanted nn he q t w good = simply (and line' a b) u line wanted nn he q t w good
  condition_does (or line' a b) u line wanted nn he q t w good = simply (or line' a b) u line wanted nn he q t w good
  condition_does (choose line' test a b) u line wanted nn he q t w good = simply (choose line' test a b) u line wanted nn he q t w good
  condition_does (same line' w' a b) u line wanted nn he q t w good = simply (same line' w' a b) u line wanted nn he q t w good
  condition_does (new_region line') u line wanted nn he q t w good = simply (new_region line') u line wanted nn he q t w good
  condition_does (new_subregion line' r) u line wanted nn he q t w good = simply (new_subregion line' r) u line wanted nn he q t w good
  condition_does (region_of line' p) u line wanted nn he q t w good = simply (region_of line' p) u line wanted nn he q t w good
  condition_does (allocate line' r made) u line wanted nn he q t w good = simply (allocate line' r made) u line wanted nn he q t w good
  condition_does (allocate_array line' r n made) u line wanted nn he q t w good = simply (allocate_array line' r n made) u line wanted nn he q t w good
  condition_does (putchar line' e) u line wanted nn he q t w good = simply (putchar line' e) u line wanted nn he q t w good
  condition_does (getchar line') u line wanted nn he q t w good = simply (getchar line') u line wanted nn he q t w good
  condition_does (call line' f es) u line wanted nn he q t w good = simply (call line' f es) u line wanted nn he q t w good
  condition_does (convert line' from to e) u line wanted nn he q t w good = simply (convert line' from to e) u line wanted nn he q t w good
  condition_does (null line') u line wanted nn he q t w good = cc
