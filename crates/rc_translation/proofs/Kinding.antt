-- The region code of a typed program has types that agree.
use Rattle.std.proofs.Common.{◌≡◌, ◌<◌, ℕ, suc, ◌+◌, Bool, true, false, not, List, [], ◌∷◌, length, Option, Some, None, refl, sym, ap, ◌∙◌, subst, inl, inr}
use Rattle.std.proofs.lemmas.Bool.{false≢true}
use Rattle.std.specs.Prelude.{is_some, IsTrue, slice_get, get_or, option_map, ◌⊎◌}
use Rattle.std.proofs.lemmas.Option.{get_or_from_slice_get}
use Rattle.rc_core.specs.declared.ty.Note.TheVariants.{Plain}
use Rattle.rc_core.specs.declared.ty.NumberType.{NumberType}
use Rattle.rc_core.specs.declared.ty.NumberType.TheVariants.{Int, Unsigned, Char}
use Rattle.rc_core.specs.declared.ty.Signedness.{Signedness}
use Rattle.rc_core.specs.declared.ty.Signedness.TheVariants.{Signed, Unsigned as Wrapping}
use Rattle.rc_core.specs.declared.operators.UnaryOperator.TheVariants.{Negate, Plus, Complement}
use Rattle.rc_core.specs.declared.stmt.Change.{Change}
use Rattle.rc_core.specs.declared.stmt.Change.TheVariants.{Compute, Step as Stepping}
use Rattle.rc_core.specs.Types.{Ty, int, unsigned, char, region, struct, pointer}
use Rattle.rc_core.specs.Typing.{NotNull, number, arithmetic, value_type, is_pointer, is_reference, is_shift, is_comparison, result_if, parameters_of, HasType, AreArguments, IsPlace, LeadsTo, Runs, Takes, IsTyped, AreTyped}
use Rattle.rc_core.specs.Programs.{Expr, constant, null, string, local, read, address, step, step_from, unary, binary, convert, not_zero, and, or, choose, is_null, same, call, new_region, new_subregion, region_of, allocate, allocate_array, putchar, getchar, Arguments, none, more, Place, global, pointed, indexed, Path, here, field, element, Stmt, block, declare, assign, store, update, copy, evaluate, delete, branch, while, repeat, for, break, continue, return, Stmts, done, then, Global, Function, Program}
use Rattle.rc_core.specs.Execution.{local_type}
use Rattle.rc_rlang.specs.RegionCode as To
use Rattle.rc_rlang.specs.RegionCode.{Access, Steps, width, both}
use Rattle.rc_translation.specs.Translation.{pointee, expression_type, pointer_type, index_type, signedness, place_type, path_access, parameter_types, argument_types, access, expression_code, arguments_code, place_code, path_code, has_result, one_of, condition_code, evaluate_code, returned_type, statement_code, body_code}
use Rattle.rc_translation.proofs.TypesFound.{char_not_null, types_are, place_is, number_not_null}
use Rattle.rc_rlang.specs.RegionKinds.{kind_ty, result_kind, signed_of, RightKinded, StepsKinded, CodeKinded, CodesKinded}
use Rattle.rc_rlang.proofs.KindLaws.{kind_arith, kind_value}

reference_kind : (t : Ty) → is_reference (kind_ty t) ≡ is_reference t
reference_kind int = refl
reference_kind unsigned = refl
reference_kind char = refl
reference_kind region = refl
reference_kind (struct k) = refl
reference_kind (pointer note target) = refl

pointer_kind : (t : Ty) → IsTrue (is_pointer t) → kind_ty (pointer Plain (pointee t)) ≡ kind_ty t
pointer_kind int h = absurd (false≢true h)
pointer_kind unsigned h = absurd (false≢true h)
pointer_kind char h = absurd (false≢true h)
pointer_kind region h = absurd (false≢true h)
pointer_kind (struct k) h = absurd (false≢true h)
pointer_kind (pointer note target) h = refl

signed_kind : (s : Signedness) → kind_ty (arithmetic s) ≡ arithmetic (signed_of (arithmetic s))
signed_kind Signed = refl
signed_kind Wrapping = refl

result_is : (b : Bool) (s : Signedness) → kind_ty (result_if b s) ≡ result_kind b s
result_is true s = refl
result_is false s = kind_arith s

right_is : (b : Bool) (s r : Signedness) → IsTrue b ⊎ (r ≡ s) → RightKinded b s (arithmetic r)
right_is true s r e = signed_kind r
right_is false s r (inl e) = absurd (false≢true e)
right_is false s r (inr e) = kind_arith r ∙ ap arithmetic e

no_comparison : (b : Bool) (s : Signedness) → IsTrue (not b) → arithmetic s ≡ result_kind b s
no_comparison true s e = absurd (false≢true e)
no_comparison false s e = refl

abbrev type_of_global : Option Global → Ty
type_of_global None = int
type_of_global (Some d) = d.ty

abbrev types_in : Option Function → List Ty
types_in None = []
types_in (Some g) = parameters_of g

module _ (program : Program) (locals all : List Ty) (global_ty result_ty : ℕ → Ty)
    (local_there : (x : ℕ) (u : Ty) → slice_get locals x ≡ Some u → get_or all x int ≡ u)
    (global_there : (g : ℕ) (d : Global) → slice_get program.globals g ≡ Some d → global_ty g ≡ d.ty)
    (string_there : (k : ℕ) → k < length program.strings → global_ty (length program.globals + k) ≡ char)
    (result_there : (f : ℕ) (g : Function) (t : Ty) → slice_get program.functions f ≡ Some g → option_map value_type g.result ≡ Some t → result_ty f ≡ t) where
  abbrev Agree : Steps → Type 0
  Agree steps = StepsKinded all global_ty result_ty steps

  agree_both : (a b : Steps) → Agree a → Agree b → Agree (both a b)
  agree_both To.none b na nb = nb
  agree_both (To.more s a) b na nb = (na.0, agree_both a b na.1 nb)

  agree_two : (a b : Steps) (s : To.Step) → Agree a → Agree b → Agree (To.more s To.none) → Agree (both a (both b (To.more s To.none)))
  agree_two a b s na nb ns = agree_both a (both b (To.more s To.none)) na (agree_both b (To.more s To.none) nb ns)

  -- an access keeps its cell's type on its way
  path_cell : (path : Path) (a : Access) → (path_access program locals path a).cell ≡ a.cell
  path_cell here a = refl
  path_cell (field s f rest) a = path_cell rest _
  path_cell (element s f i rest) a = path_cell rest _

  cell_is : (place : Place) → (access program locals place).cell ≡ place_type program locals place
  cell_is (global g path) = path_cell path _
  cell_is (pointed p path) = path_cell path _
  cell_is (indexed p i path) = path_cell path _

  index_is : (i : Expr) (s : Signedness) → HasType program locals i (arithmetic s) → index_type program locals i ≡ arithmetic s
  index_is i s w = ap (λ t. arithmetic (signedness program locals t)) (types_are program locals i (arithmetic s) (number_not_null program locals i s (arithmetic s) refl w) w) ∙ by s
    where
      by : (s : Signedness) → arithmetic (signedness program locals (arithmetic s)) ≡ arithmetic s
      by Signed = refl
      by Wrapping = refl

  number_is : (e : Expr) (s : Signedness) → HasType program locals e (arithmetic s) → expression_type program locals e ≡ arithmetic s
  number_is e s w = types_are program locals e (arithmetic s) (number_not_null program locals e s (arithmetic s) refl w) w

  number_type_is : (e : Expr) (s : Signedness) → HasType program locals e (arithmetic s) → kind_ty (expression_type program locals e) ≡ arithmetic (signed_of (expression_type program locals e))
  number_type_is e s w = subst (λ t. kind_ty t ≡ arithmetic (signed_of t)) (sym (number_is e s w)) (signed_kind s)

  index_kind : (i : Expr) → kind_ty (index_type program locals i) ≡ arithmetic (signed_of (index_type program locals i))
  index_kind i = signed_kind (signedness program locals (expression_type program locals i))

  kind_not_null : (e : Expr) (k : NumberType) → HasType program locals e (number k) → NotNull e
  kind_not_null e Int w = number_not_null program locals e Signed int refl w
  kind_not_null e Unsigned w = number_not_null program locals e Wrapping unsigned refl w
  kind_not_null e Char w = char_not_null program locals e w

  mutual
    pub expression_agrees : (e : Expr) (t : Ty) → HasType program locals e t → (ty : Ty) (h : ℕ) → kind_ty ty ≡ kind_ty t → Agree (expression_code program locals e ty h)
    expression_agrees (constant own s n) t w ty h kt = (kt ∙ ap kind_ty w.0 ∙ kind_arith s, tt)
    expression_agrees (null own) t w ty h kt = (subst IsTrue (ap is_reference (sym kt) ∙ reference_kind ty) (subst IsTrue (sym (reference_kind t)) w.0), tt)
    expression_agrees (string own k) t w ty h kt = (kt ∙ ap kind_ty w.0 ∙ ap (pointer Plain) (sym (string_there k w.1)), tt)
    expression_agrees (local own x) t w ty h kt = (kt ∙ ap kind_ty w.1.1 ∙ kind_value w.0 ∙ sym (ap kind_ty (local_there x w.0 w.1.0)), tt)
    expression_agrees (read own place) t w ty h kt = agree_both _ _ (place_agrees own place w.0 w.1.0 h) (kt ∙ ap kind_ty w.1.2 ∙ kind_value w.0 ∙ sym (ap kind_ty (cell_is place ∙ place_is program locals place w.0 w.1.0)), tt)
    expression_agrees (address own g) t w ty h kt = (kt ∙ ap kind_ty w.1.1 ∙ ap (pointer Plain) (sym (global_there g w.0 w.1.0)), tt)
    expression_agrees (step own d p i) t w ty h kt = agree_two _ _ _ (expression_agrees p t (w.2) (pointer_type program locals p) h (ap (λ x. kind_ty (pointer Plain (pointee x))) (types_are program locals p t w.1 (w.2)) ∙ pointer_kind t w.0)) (expression_agrees i (arithmetic w.3.0) (w.3.1) (index_type program locals i) (suc h) (ap kind_ty (index_is i w.3.0 (w.3.1)))) ((kt ∙ sym (ap (λ x. kind_ty (pointer Plain (pointee x))) (types_are program locals p t w.1 w.2) ∙ pointer_kind t w.0), index_kind i), tt)
    expression_agrees (step_from own i p) t w ty h kt = agree_two _ _ _ (expression_agrees i (arithmetic w.3.0) (w.3.1) (index_type program locals i) h (ap kind_ty (index_is i w.3.0 (w.3.1)))) (expression_agrees p t (w.2) (pointer_type program locals p) (suc h) (ap (λ x. kind_ty (pointer Plain (pointee x))) (types_are program locals p t w.1 (w.2)) ∙ pointer_kind t w.0)) ((kt ∙ sym (ap (λ x. kind_ty (pointer Plain (pointee x))) (types_are program locals p t w.1 w.2) ∙ pointer_kind t w.0), index_kind i), tt)
    expression_agrees (unary own Negate s e) t w ty h kt = agree_both _ _ (expression_agrees e (arithmetic s) (w.1) (arithmetic s) h (refl)) (kt ∙ ap kind_ty w.0 ∙ kind_arith s, tt)
    expression_agrees (unary own Complement s e) t w ty h kt = agree_both _ _ (expression_agrees e (arithmetic s) (w.1) (arithmetic s) h (refl)) (kt ∙ ap kind_ty w.0 ∙ kind_arith s, tt)
    expression_agrees (unary own Plus s e) t w ty h kt = expression_agrees e (arithmetic s) w.1 ty h (kt ∙ ap kind_ty w.0)
    expression_agrees (binary own o s a b) t w ty h kt = agree_two _ _ _ (expression_agrees a (arithmetic s) (w.1) (arithmetic s) h (refl)) (expression_agrees b (arithmetic w.2.0) (w.2.1.1) (expression_type program locals b) (suc h) (ap kind_ty (number_is b w.2.0 w.2.1.1))) ((kt ∙ ap kind_ty w.0 ∙ result_is (is_comparison o) s, subst (RightKinded (is_shift o) s) (sym (number_is b w.2.0 w.2.1.1)) (right_is (is_shift o) s w.2.0 w.2.1.0)), tt)
    expression_agrees (convert own from to e) t w ty h kt = agree_both _ _ (expression_agrees e (number from) (w.2) (number from) h (refl)) (kt ∙ ap kind_ty w.0, tt)
    expression_agrees (not_zero own e) t w ty h kt = agree_both _ _ (expression_agrees e (number w.1.0) (w.1.1) (expression_type program locals e) h (ap kind_ty (types_are program locals e (number w.1.0) (kind_not_null e w.1.0 w.1.1) w.1.1))) (kt ∙ ap kind_ty w.0, tt)
    expression_agrees (and own a b) t w ty h kt = agree_both _ _ (expression_agrees a w.3.0 (w.3.1) (expression_type program locals a) h (ap kind_ty (types_are program locals a w.3.0 w.1 (w.3.1)))) ((agree_both _ _ (expression_agrees b w.4.0 (w.4.1) (expression_type program locals b) h (ap kind_ty (types_are program locals b w.4.0 w.2 (w.4.1)))) (kt ∙ ap kind_ty w.0, tt), (kt ∙ ap kind_ty w.0, tt)), tt)
    expression_agrees (or own a b) t w ty h kt = agree_both _ _ (expression_agrees a w.3.0 (w.3.1) (expression_type program locals a) h (ap kind_ty (types_are program locals a w.3.0 w.1 (w.3.1)))) (((kt ∙ ap kind_ty w.0, tt), agree_both _ _ (expression_agrees b w.4.0 (w.4.1) (expression_type program locals b) h (ap kind_ty (types_are program locals b w.4.0 w.2 (w.4.1)))) (kt ∙ ap kind_ty w.0, tt)), tt)
    expression_agrees (choose own test a b) t w ty h kt = agree_both _ _ (expression_agrees test w.1.0 (w.1.1) (expression_type program locals test) h (ap kind_ty (types_are program locals test w.1.0 w.0 (w.1.1)))) ((expression_agrees a t w.3 ty h kt, expression_agrees b t w.4 ty h kt), tt)
    expression_agrees (is_null own isnull e) t w ty h kt = agree_both _ _ (expression_agrees e w.2.0 (w.2.1.1) (expression_type program locals e) h (ap kind_ty (types_are program locals e w.2.0 w.1 (w.2.1.1)))) (kt ∙ ap kind_ty w.0, tt)
    expression_agrees (same own wanted a b) t w ty h kt = agree_two _ _ _ (expression_agrees a w.3.0 (w.3.1.1) (expression_type program locals a) h (ap kind_ty (types_are program locals a w.3.0 w.1 (w.3.1.1)))) (expression_agrees b w.3.0 (w.3.1.2) (expression_type program locals a) (suc h) (ap kind_ty (types_are program locals a w.3.0 w.1 w.3.1.1))) (kt ∙ ap kind_ty w.0, tt)
    expression_agrees (call own g es) t w ty h kt = agree_both _ _ (subst (λ ts. Agree (arguments_code program locals es ts h)) (sym (ap types_in w.1.0)) (arguments_agree es (parameters_of w.0) w.1.2 h)) (kt ∙ sym (ap kind_ty (result_there g w.0 t w.1.0 w.1.1)), tt)
    expression_agrees (new_region own) t w ty h kt = (kt ∙ ap kind_ty w, tt)
    expression_agrees (new_subregion own r) t w ty h kt = agree_both _ _ (expression_agrees r region (w.1) (region) h (refl)) (kt ∙ ap kind_ty w.0, tt)
    expression_agrees (region_of own p) t w ty h kt = agree_both _ _ (expression_agrees p w.2.0 (w.2.1.1) (expression_type program locals p) h (ap kind_ty (types_are program locals p w.2.0 w.1 (w.2.1.1)))) (kt ∙ ap kind_ty w.0, tt)
    expression_agrees (allocate own r made) t w ty h kt = agree_both _ _ (expression_agrees r region (w.2) (region) h (refl)) (kt ∙ ap kind_ty w.0, tt)
    expression_agrees (allocate_array own r size made) t w ty h kt = agree_two _ _ _ (expression_agrees r region (w.2) (region) h (refl)) (expression_agrees size int (w.3) (int) (suc h) (refl)) (kt ∙ ap kind_ty w.0, tt)
    expression_agrees (putchar own e) t w ty h kt = agree_both _ _ (expression_agrees e int (w.1) (int) h (refl)) (kt ∙ ap kind_ty w.0, tt)
    expression_agrees (getchar own) t w ty h kt = (kt ∙ ap kind_ty w, tt)

    arguments_agree : (es : Arguments) (ts : List Ty) → AreArguments program locals es ts → (h : ℕ) → Agree (arguments_code program locals es ts h)
    arguments_agree none ts w h = tt
    arguments_agree (more e es) [] w h = absurd w
    arguments_agree (more e es) (t ∷ ts) w h = agree_both _ _ (expression_agrees e (value_type t) w.0 (value_type t) h refl) (arguments_agree es ts w.1 (suc h))

    pub place_agrees : (line : ℕ) (place : Place) (t : Ty) → IsPlace program locals place t → (h : ℕ) → Agree (place_code program locals line place h)
    place_agrees line (global g path) t w h = (ap (pointer Plain) (ap type_of_global w.1.0 ∙ sym (global_there g w.0 w.1.0)), path_agrees path _ _ w.1.2 (suc h))
    place_agrees line (pointed p path) t w h = agree_both _ _ (expression_agrees p (pointer Plain w.1.0) w.1.1.0 (pointer_type program locals p) h (ap (λ x. kind_ty (pointer Plain (pointee x))) (types_are program locals p (pointer Plain w.1.0) w.0 w.1.1.0))) (path_agrees path _ _ w.1.1.1 (suc h))
    place_agrees line (indexed p i path) t w h =
        agree_both _ _ (expression_agrees p (pointer Plain w.1.0) w.1.1.0 (pointer_type program locals p) h (ap (λ x. kind_ty (pointer Plain (pointee x))) (types_are program locals p (pointer Plain w.1.0) w.0 w.1.1.0)))
        (agree_both _ _ (expression_agrees i (arithmetic w.1.1.1.0) w.1.1.1.1 (index_type program locals i) (suc h) (ap kind_ty (index_is i w.1.1.1.0 w.1.1.1.1))) (path_agrees path _ _ w.1.1.2 (suc (suc h))))

    path_agrees : (path : Path) (u t : Ty) → LeadsTo program locals path u t → (h : ℕ) → Agree (path_code program locals path h)
    path_agrees here u t w h = tt
    path_agrees (field s f rest) u t w h = path_agrees rest _ _ w.1.1.2 h
    path_agrees (element s f i rest) u t w h = agree_both _ _ (expression_agrees i (arithmetic w.1.1.2.0) w.1.1.2.1 (index_type program locals i) h (ap kind_ty (index_is i w.1.1.2.0 w.1.1.2.1))) (path_agrees rest _ _ w.1.1.3 (suc h))

  call_arguments_agree : (f : ℕ) (es : Arguments) (g : Function) → slice_get program.functions f ≡ Some g → AreArguments program locals es (parameters_of g) → (h : ℕ) → Agree (arguments_code program locals es (parameter_types program f) h)
  call_arguments_agree f es g there w h = subst (λ ts. Agree (arguments_code program locals es ts h)) (sym (ap types_in there)) (arguments_agree es (parameters_of g) w h)

  whole_agrees : (e : Expr) (t : Ty) → NotNull e → HasType program locals e t → Agree (expression_code program locals e (expression_type program locals e) 0)
  whole_agrees e t nn w = expression_agrees e t w (expression_type program locals e) 0 (ap kind_ty (types_are program locals e t nn w))

  pub condition_agrees : (e : Expr) (t : Ty) → NotNull e → HasType program locals e t → Agree (condition_code program locals e)
  condition_agrees (constant own s n) t nn w = whole_agrees (constant own s n) t nn w
  condition_agrees (null own) t nn w = whole_agrees (null own) t nn w
  condition_agrees (string own k) t nn w = whole_agrees (string own k) t nn w
  condition_agrees (local own x) t nn w = whole_agrees (local own x) t nn w
  condition_agrees (read own place) t nn w = whole_agrees (read own place) t nn w
  condition_agrees (address own g) t nn w = whole_agrees (address own g) t nn w
  condition_agrees (step own d p i) t nn w = whole_agrees (step own d p i) t nn w
  condition_agrees (step_from own i p) t nn w = whole_agrees (step_from own i p) t nn w
  condition_agrees (unary own o s e) t nn w = whole_agrees (unary own o s e) t nn w
  condition_agrees (binary own o s a b) t nn w = whole_agrees (binary own o s a b) t nn w
  condition_agrees (convert own from to e) t nn w = whole_agrees (convert own from to e) t nn w
  condition_agrees (not_zero own e) t nn w = condition_agrees e (number w.1.0) (kind_not_null e w.1.0 w.1.1) w.1.1
  condition_agrees (and own a b) t nn w = whole_agrees (and own a b) t nn w
  condition_agrees (or own a b) t nn w = whole_agrees (or own a b) t nn w
  condition_agrees (choose own test a b) t nn w = whole_agrees (choose own test a b) t nn w
  condition_agrees (is_null own isnull e) t nn w = whole_agrees e w.2.0 w.1 w.2.1.1
  condition_agrees (same own wanted a b) t nn w = whole_agrees (same own wanted a b) t nn w
  condition_agrees (call own g es) t nn w = whole_agrees (call own g es) t nn w
  condition_agrees (new_region own) t nn w = whole_agrees (new_region own) t nn w
  condition_agrees (new_subregion own r) t nn w = whole_agrees (new_subregion own r) t nn w
  condition_agrees (region_of own p) t nn w = whole_agrees (region_of own p) t nn w
  condition_agrees (allocate own r made) t nn w = whole_agrees (allocate own r made) t nn w
  condition_agrees (allocate_array own r size made) t nn w = whole_agrees (allocate_array own r size made) t nn w
  condition_agrees (putchar own e) t nn w = whole_agrees (putchar own e) t nn w
  condition_agrees (getchar own) t nn w = whole_agrees (getchar own) t nn w

  abbrev Agrees : To.Code → Type 0
  Agrees c = CodeKinded all global_ty result_ty c

  -- a function without a result is called for its effect
  is_called : (f : ℕ) (g : Function) → slice_get program.functions f ≡ Some g → has_result program f ≡ is_some g.result
  is_called f g there = ap gives there
    where
      gives : Option Function → Bool
      gives None = true
      gives (Some g) = is_some g.result

  pub evaluate_agrees : (line : ℕ) (e : Expr) → Runs program locals e → Agrees (evaluate_code program locals line e)
  evaluate_agrees line (constant own s n) w = (whole_agrees (constant own s n) w.1.0 w.0 w.1.1, tt)
  evaluate_agrees line (null own) w = (whole_agrees (null own) w.1.0 w.0 w.1.1, tt)
  evaluate_agrees line (string own k) w = (whole_agrees (string own k) w.1.0 w.0 w.1.1, tt)
  evaluate_agrees line (local own x) w = (whole_agrees (local own x) w.1.0 w.0 w.1.1, tt)
  evaluate_agrees line (read own place) w = (whole_agrees (read own place) w.1.0 w.0 w.1.1, tt)
  evaluate_agrees line (address own g) w = (whole_agrees (address own g) w.1.0 w.0 w.1.1, tt)
  evaluate_agrees line (step own d p i) w = (whole_agrees (step own d p i) w.1.0 w.0 w.1.1, tt)
  evaluate_agrees line (step_from own i p) w = (whole_agrees (step_from own i p) w.1.0 w.0 w.1.1, tt)
  evaluate_agrees line (unary own o s e) w = (whole_agrees (unary own o s e) w.1.0 w.0 w.1.1, tt)
  evaluate_agrees line (binary own o s a b) w = (whole_agrees (binary own o s a b) w.1.0 w.0 w.1.1, tt)
  evaluate_agrees line (convert own from to e) w = (whole_agrees (convert own from to e) w.1.0 w.0 w.1.1, tt)
  evaluate_agrees line (not_zero own e) w = (whole_agrees (not_zero own e) w.1.0 w.0 w.1.1, tt)
  evaluate_agrees line (and own a b) w = (whole_agrees (and own a b) w.1.0 w.0 w.1.1, tt)
  evaluate_agrees line (or own a b) w = (whole_agrees (or own a b) w.1.0 w.0 w.1.1, tt)
  evaluate_agrees line (choose own test a b) w = (whole_agrees (choose own test a b) w.1.0 w.0 w.1.1, tt)
  evaluate_agrees line (is_null own isnull e) w = (whole_agrees (is_null own isnull e) w.1.0 w.0 w.1.1, tt)
  evaluate_agrees line (same own wanted a b) w = (whole_agrees (same own wanted a b) w.1.0 w.0 w.1.1, tt)
  evaluate_agrees line (call own g es) w = by w.0.result refl (has_result program g) (is_called g w.0 w.1.0)
    where
      arguments : Agree (arguments_code program locals es (parameter_types program g) 0)
      arguments = call_arguments_agree g es w.0 w.1.0 w.1.1 0

      by : (o : Option Ty) → w.0.result ≡ o → (b : Bool) → b ≡ is_some w.0.result → Agrees (one_of b (To.simple (expression_code program locals (call own g es) (expression_type program locals (call own g es)) 0) To.drop) (To.simple (arguments_code program locals es (parameter_types program g) 0) (To.perform own g (argument_types program locals es (parameter_types program g)))))
      by o e false q = (arguments, tt)
      by None e true q = absurd (false≢true (sym (q ∙ ap is_some e)))
      by (Some t) e true q =
          let typed : HasType program locals (call own g es) (value_type t) = (w.0, (w.1.0, ap (option_map value_type) e, w.1.1)) in
          (whole_agrees (call own g es) (value_type t) refl typed, tt)
  evaluate_agrees line (new_region own) w = (whole_agrees (new_region own) w.1.0 w.0 w.1.1, tt)
  evaluate_agrees line (new_subregion own r) w = (whole_agrees (new_subregion own r) w.1.0 w.0 w.1.1, tt)
  evaluate_agrees line (region_of own p) w = (whole_agrees (region_of own p) w.1.0 w.0 w.1.1, tt)
  evaluate_agrees line (allocate own r made) w = (whole_agrees (allocate own r made) w.1.0 w.0 w.1.1, tt)
  evaluate_agrees line (allocate_array own r size made) w = (whole_agrees (allocate_array own r size made) w.1.0 w.0 w.1.1, tt)
  evaluate_agrees line (putchar own e) w = (whole_agrees (putchar own e) w.1.0 w.0 w.1.1, tt)
  evaluate_agrees line (getchar own) w = (whole_agrees (getchar own) w.1.0 w.0 w.1.1, tt)

module _ (program : Program) (f : Function) (all : List Ty) (global_ty result_ty : ℕ → Ty)
    (local_there : (x : ℕ) (u : Ty) → slice_get f.locals x ≡ Some u → get_or all x int ≡ u)
    (global_there : (g : ℕ) (d : Global) → slice_get program.globals g ≡ Some d → global_ty g ≡ d.ty)
    (string_there : (k : ℕ) → k < length program.strings → global_ty (length program.globals + k) ≡ char)
    (result_there : (f : ℕ) (g : Function) (t : Ty) → slice_get program.functions f ≡ Some g → option_map value_type g.result ≡ Some t → result_ty f ≡ t) where
  abbrev StepsAgree : Steps → Type 0
  StepsAgree steps = StepsKinded all global_ty result_ty steps

  abbrev CodeAgrees : To.Code → Type 0
  CodeAgrees c = CodeKinded all global_ty result_ty c

  agrees : (e : Expr) (t : Ty) → HasType program f.locals e t → (ty : Ty) (h : ℕ) → kind_ty ty ≡ kind_ty t → StepsAgree (expression_code program f.locals e ty h)
  agrees e t w ty h k = expression_agrees program f.locals all global_ty result_ty local_there global_there string_there result_there e t w ty h k

  place_so : (line : ℕ) (place : Place) (t : Ty) → IsPlace program f.locals place t → (h : ℕ) → StepsAgree (place_code program f.locals line place h)
  place_so line place t w h = place_agrees program f.locals all global_ty result_ty local_there global_there string_there result_there line place t w h

  both_so : (a b : Steps) → StepsAgree a → StepsAgree b → StepsAgree (both a b)
  both_so a b na nb = agree_both program f.locals all global_ty result_ty local_there global_there string_there result_there a b na nb

  condition_so : (e : Expr) (t : Ty) → NotNull e → HasType program f.locals e t → StepsAgree (condition_code program f.locals e)
  condition_so e t nn w = condition_agrees program f.locals all global_ty result_ty local_there global_there string_there result_there e t nn w

  cell_type_is : (place : Place) (t : Ty) → IsPlace program f.locals place t → (access program f.locals place).cell ≡ t
  cell_type_is place t w = cell_is program f.locals all global_ty result_ty local_there global_there string_there result_there place ∙ place_is program f.locals place t w

  number_so : (e : Expr) (s : Signedness) → HasType program f.locals e (arithmetic s) → expression_type program f.locals e ≡ arithmetic s
  number_so e s w = number_is program f.locals all global_ty result_ty local_there global_there string_there result_there e s w

  local_so : (x : ℕ) (t : Ty) → slice_get f.locals x ≡ Some t → local_type f x ≡ t
  local_so x t there = get_or_from_slice_get f.locals x t int there

  -- a local in all of them has its own type
  kind_there : (x : ℕ) (t : Ty) → slice_get f.locals x ≡ Some t → kind_ty (get_or all x int) ≡ kind_ty (local_type f x)
  kind_there x t there = ap kind_ty (local_there x t there ∙ sym (local_so x t there))

  assigned_so : (e : Expr) (x : ℕ) (t : Ty) → slice_get f.locals x ≡ Some t → HasType program f.locals e (value_type t) → StepsAgree (expression_code program f.locals e (value_type (local_type f x)) 0)
  assigned_so e x t there w = agrees e (value_type t) w (value_type (local_type f x)) 0 (ap (λ u. kind_ty (value_type u)) (local_so x t there))

  change_so : (line : ℕ) (place : Place) (change : Change) (t : Ty) (e : Expr) → IsPlace program f.locals place t → Takes program f.locals t change e →
      CodeAgrees (statement_code program f (update line place change e))
  change_so line place (Compute from o s) t e p w =
      let right = number_so e w.3.0 w.3.1.1 in (
        both_so _ _ (place_so line place t p 0) (agrees e (arithmetic w.3.0) w.3.1.1 (expression_type program f.locals e) (width (access program f.locals place)) (ap kind_ty right)),
        (
          ap kind_ty (cell_type_is place t p ∙ w.0),
          (kind_arith s ∙ no_comparison (is_comparison o) s w.1, subst (RightKinded (is_shift o) s) (sym right) (right_is (is_shift o) s w.3.0 w.3.1.0)),
        ),
      )
  change_so line place (Stepping direction) t e p w =
      let right = number_so e w.1.0 w.1.1 in (
        both_so _ _ (place_so line place t p 0) (agrees e (arithmetic w.1.0) w.1.1 (expression_type program f.locals e) (width (access program f.locals place)) (ap kind_ty right)),
        subst (λ u. kind_ty u ≡ arithmetic (signed_of u)) (sym right) (signed_kind w.1.0),
      )

  returned_is : (o : Option Ty) (t : Ty) → o ≡ Some t → kind_ty (returned_type o) ≡ kind_ty (value_type t)
  returned_is o t e = ap (λ q. kind_ty (returned_type q)) e

  mutual
    pub statement_agrees : (loop : Bool) (s : Stmt) → IsTyped program f loop s → CodeAgrees (statement_code program f s)
    statement_agrees loop (block body) w = body_agrees loop body w
    statement_agrees loop (declare line x None) w = kind_there x w.0 w.1.0
    statement_agrees loop (declare line x (Some e)) w = (assigned_so e x w.0 w.1.0 w.1.1, kind_there x w.0 w.1.0)
    statement_agrees loop (assign line x e) w = (assigned_so e x w.0 w.1.0 w.1.1, kind_there x w.0 w.1.0)
    statement_agrees loop (store line place e) w =
        (both_so _ _ (place_so line place w.0 w.1.0 0) (agrees e (value_type w.0) w.1.2 (value_type (access program f.locals place).cell) (width (access program f.locals place)) (ap (λ u. kind_ty (value_type u)) (cell_type_is place w.0 w.1.0))), tt)
    statement_agrees loop (update line place change e) w = change_so line place change w.0 e w.1.0 w.1.1
    statement_agrees loop (copy line s left right) w = (both_so _ _ (place_so line left (struct s) w.0 0) (place_so line right (struct s) w.1 (width (access program f.locals left))), tt)
    statement_agrees loop (evaluate line e) w = evaluate_agrees program f.locals all global_ty result_ty local_there global_there string_there result_there line e w
    statement_agrees loop (delete line e) w = (agrees e region w region 0 refl, tt)
    statement_agrees loop (branch line test a b) w = (condition_so test w.0.1.0 w.0.0 w.0.1.1, statement_agrees loop a w.1, statement_agrees loop b w.2)
    statement_agrees loop (while line test body) w = (condition_so test w.0.1.0 w.0.0 w.0.1.1, tt, statement_agrees true body w.1)
    statement_agrees loop (repeat line body test) w = (statement_agrees true body w.0, condition_so test w.1.1.0 w.1.0 w.1.1.1)
    statement_agrees loop (for line first None third body) w = (statement_agrees loop first w.0, ((tt, statement_agrees loop third w.2, statement_agrees true body w.3), tt))
    statement_agrees loop (for line first (Some test) third body) w = (statement_agrees loop first w.0, ((condition_so test w.1.1.0 w.1.0 w.1.1.1, statement_agrees loop third w.2, statement_agrees true body w.3), tt))
    statement_agrees loop (break line) w = tt
    statement_agrees loop (continue line) w = tt
    statement_agrees loop (return line None) w = (tt, tt)
    statement_agrees loop (return line (Some e)) w = (agrees e (value_type w.0) w.1.1 (returned_type f.result) 0 (returned_is f.result w.0 w.1.0), tt)

    body_agrees : (loop : Bool) (body : Stmts) → AreTyped program f loop body → CodesKinded all global_ty result_ty (body_code program f body)
    body_agrees loop done w = tt
    body_agrees loop (then s rest) w = (statement_agrees loop s w.0, body_agrees loop rest w.1)
