-- The types of a typed program's region code agree: of the steps of its expressions.
use Rattle.std.proofs.Common.{◌≡◌, ℕ, zero, suc, pos, ◌+◌, ◌<◌, ◌≤◌, Bool, true, false, not, List, [], ◌∷◌, length, map, get_or, Option, Some, None, refl, sym, ap, ◌∙◌, subst, arith}
use Rattle.std.specs.Prelude.{IsTrue, IfSome, slice_get, take, option_map, is_some, max}
use Rattle.std.proofs.lemmas.Option.{slice_get-map, get_or_from_slice_get}
use Rattle.rc_core.specs.declared.ty.Note.TheVariants.{Plain}
use Rattle.rc_core.specs.declared.ty.NumberType.{NumberType}
use Rattle.rc_core.specs.declared.ty.NumberType.TheVariants.{Int, Unsigned, Char}
use Rattle.rc_core.specs.declared.ty.Signedness.{Signedness}
use Rattle.rc_core.specs.declared.ty.Signedness.TheVariants.{Signed, Unsigned as Wrapping}
use Rattle.rc_core.specs.declared.operators.UnaryOperator.TheVariants.{Negate, Plus, Complement}
use Rattle.rc_core.specs.Types.{Ty, int, unsigned, char, region, struct, pointer}
use Rattle.rc_core.specs.Layout.{cells}
use Rattle.rc_core.specs.declared.stmt.Change.{Change}
use Rattle.rc_core.specs.declared.stmt.Change.TheVariants.{Compute, Step as Stepping}
use Rattle.rc_core.specs.Execution.{local_type}
use Rattle.rc_core.specs.Programs.{Stmt, block, declare, assign, store, update, copy, evaluate, delete, branch, while, repeat, for, break, continue, return, Stmts, done, then, Expr, constant, null, string, local, read, address, step, step_from, unary, binary, convert, not_zero, and, or, choose, is_null, same, call, new_region, new_subregion, region_of, allocate, allocate_array, putchar, getchar, Arguments, none, more, Place, global, pointed, indexed, Path, here, field, element, Function, Program}
use Rattle.rc_core.specs.Typing.{number, arithmetic, value_type, is_struct, is_pointer, result_if, is_comparison, parameters_of, NotNull, HasType, AreArguments, IsPlace, LeadsTo, IsValue, Runs, Takes, IsTyped, AreTyped}
use Rattle.rc_core.specs.WellTyped.{IsWellTyped}
use Rattle.rc_rlang.specs.RegionCode as To
use Rattle.rc_kinds.proofs.Executions.{taken_has}
use Rattle.rc_rlang.specs.Variables.{end_temporaries}
use Rattle.rc_rlang.specs.RegionCode.{numeric, kind_if, kind_of, Access, width, Operation, Step, Steps, both, one, Test, Routine, Rlang}
use Rattle.rc_rlang.specs.RegionFlow.{is_regional}
use Rattle.rc_translation.specs.Translation.{expression_type, pointer_type, index_type, signedness, parameter_types, argument_types, global_type, expression_code, arguments_code, place_code, path_code, path_access, access, whole, condition_code, condition_test, optional_condition, has_result, evaluate_code, returned_type, statement_code, body_code, routine_of, region_of_program}
use Rattle.rc_translation.proofs.ValueKinds.{kind_arithmetic, kind_number, kind_reference, kind_pointer, kind_value}
use Rattle.rc_translation.proofs.TypesFound.{kind_found, place_is, number_not_null, char_not_null}
use Rattle.rc_annotations.specs.Heights.{temporaries_in, temporaries_of}
use Rattle.rc_rlang.specs.RegionVariables.{step_temporaries, steps_temporaries, code_temporaries, codes_temporaries, routine_temporaries}
use Rattle.rc_along.specs.RunLaws.{AllRight}
use Rattle.rc_along.specs.Along.{CallRight, RightOperation, RightSteps, RightAct, RightCode, RightCodes, RightRoutine}

kind_result : (b : Bool) (s : Signedness) → kind_of (result_if b s) ≡ numeric
kind_result true s = refl
kind_result false s = kind_arithmetic s

pub regional_value : (t : Ty) → is_regional (value_type t) ≡ is_regional t
regional_value int = refl
regional_value unsigned = refl
regional_value char = refl
regional_value region = refl
regional_value (struct k) = refl
regional_value (pointer note target) = refl

-- types of one kind both have a variable or none
pub regional_same : (t u : Ty) → kind_of t ≡ kind_of u → is_regional t ≡ is_regional u
regional_same t u e = by (is_regional t) (is_regional u) e
  where
    by : (a b : Bool) → kind_if a ≡ kind_if b → a ≡ b
    by true true e = refl
    by true false e = cc
    by false true e = cc
    by false false e = refl

pub mapped_at : (tys : List Ty) (x : ℕ) (t : Ty) → slice_get tys x ≡ Some t → get_or (map is_regional tys) x false ≡ is_regional t
mapped_at [] x t e = cc
mapped_at (u ∷ tys) zero t e = let q : u ≡ t = cc in ap is_regional q
mapped_at (u ∷ tys) (suc x) t e = mapped_at tys x t e

-- heights

max_parts : (a b n : ℕ) → max a b ≤ n → (a ≤ n) × (b ≤ n)
max_parts a b n h = (grind (arith, h), grind (arith, h))

pub heights_both : (a b : Steps) (n : ℕ) → steps_temporaries (both a b) ≤ n → (steps_temporaries a ≤ n) × (steps_temporaries b ≤ n)
heights_both To.none b n h = (omega arith, h)
heights_both (To.more s a) b n h =
    let p = max_parts (step_temporaries s) (steps_temporaries (both a b)) n h in
    let q = heights_both a b n p.1 in
    (max_least (step_temporaries s) (steps_temporaries a) n p.0 q.0, q.1)
  where
    max_least : (i j n : ℕ) → i ≤ n → j ≤ n → max i j ≤ n
    max_least i j n a b = grind (arith, a, b)

pub height_one : (line h : ℕ) (ty : Ty) (op : Operation) (n : ℕ) → steps_temporaries (one (To.set line h ty op)) ≤ n → h < n
height_one line h ty op n le = let p = max_parts (suc h) 0 n le in p.0

module _ (program : Program) (well : IsWellTyped program) (g : ℕ) (f : Function) (there : slice_get program.functions g ≡ Some f) (n : ℕ) where
  abbrev locals : List Ty
  locals = f.locals

  abbrev r : Rlang
  r = region_of_program program

  abbrev fr : Routine
  fr = routine_of program f

  -- and the temporaries that are left are among them
  pub record Right (x : Steps) (P : Type 0) : Type 0 where
    pub steps : RightSteps r fr n x
    pub after : P

  right_both : (a b : Steps) (P Q : Type 0) → Right a P → (P → Right b Q) → Right (both a b) Q
  right_both To.none b P Q ra k = k ra.after
  right_both (To.more s a) b P Q ra k =
      let q = right_both a b P Q (record { steps = ra.steps.1; after = ra.after }) k in
      record { steps = (ra.steps.0, q.steps); after = q.after }

  right_one : (line h : ℕ) (ty : Ty) (op : Operation) → h < n → RightOperation r fr n h ty op → Right (one (To.set line h ty op)) (h < n)
  right_one line h ty op lt right = record { steps = ((lt, right), tt); after = lt }

  -- an operation behind operands
  right_set : (a : Steps) (line h : ℕ) (ty : Ty) (op : Operation) (P : Type 0) → steps_temporaries (both a (one (To.set line h ty op))) ≤ n → Right a P → (P → RightOperation r fr n h ty op) → Right (both a (one (To.set line h ty op))) (h < n)
  right_set a line h ty op P le ra k =
      let lt = height_one line h ty op n (heights_both a (one (To.set line h ty op)) n le).1 in
      right_both a (one (To.set line h ty op)) P (h < n) ra (λ p. right_one line h ty op lt (k p))

  -- one without operands
  right_first : (line h : ℕ) (ty : Ty) (op : Operation) → steps_temporaries (one (To.set line h ty op)) ≤ n → RightOperation r fr n h ty op → Right (one (To.set line h ty op)) (h < n)
  right_first line h ty op le right = right_one line h ty op (height_one line h ty op n le) right

  right_fork : (a : Steps) (line h : ℕ) (test ty : Ty) (x y : Steps) → steps_temporaries (both a (one (To.fork line h test ty x y))) ≤ n → Right a (h < n)
      → (steps_temporaries x ≤ n → Right x (h < n)) → (steps_temporaries y ≤ n → Right y (h < n)) → Right (both a (one (To.fork line h test ty x y))) (h < n)
  right_fork a line h test ty x y le ra rx ry =
      let own = (heights_both a (one (To.fork line h test ty x y)) n le).1 in
      let parts = max_parts (max (suc h) (max (steps_temporaries x) (steps_temporaries y))) 0 n own in
      let inner = max_parts (suc h) (max (steps_temporaries x) (steps_temporaries y)) n parts.0 in
      let arms = max_parts (steps_temporaries x) (steps_temporaries y) n inner.1 in
      right_both a (one (To.fork line h test ty x y)) (h < n) (h < n) ra (λ p. record { steps = ((p, (rx arms.0).steps, (ry arms.1).steps), tt); after = p })

  abbrev code : Expr → Ty → ℕ → Steps
  code e ty h = expression_code program locals e ty h

  abbrev found : Expr → Ty
  found e = expression_type program locals e

  -- the types of arguments
  arguments_same : (es : Arguments) (tys : List Ty) → AreArguments program locals es tys → argument_types program locals es tys ≡ tys
  arguments_same none [] ha = refl
  arguments_same none (ty ∷ tys) ha = absurd ha
  arguments_same (more e es) [] ha = absurd ha
  arguments_same (more e es) (ty ∷ tys) ha = ap (λ ts. ty ∷ ts) (arguments_same es tys ha.1)

  abbrev types_in : Option Function → List Ty
  types_in None = []
  types_in (Some h) = parameters_of h

  take_length : (m : ℕ) (tys : List Ty) → m ≤ length tys → length (take m tys) ≡ m
  take_length zero tys le = refl
  take_length (suc m) [] le = absurd (omega (arith, le))
  take_length (suc m) (ty ∷ tys) le = ap suc (take_length m tys (omega (arith, le)))

  -- a call of a function with these parameters
  pub call_right : (h : ℕ) (ty t : Ty) (k : ℕ) (callee : Function) → slice_get program.functions k ≡ Some callee → (is_regional ty ≡ true → (u : Ty) × (callee.result ≡ Some u) × (is_regional u ≡ true)) → h + length (parameters_of callee) ≤ n → CallRight r fr n h ty k (parameters_of callee)
  call_right h ty t k callee e gives room = record {
    callee = routine_of program callee;
    found = slice_get-map (routine_of program) program.functions k ∙ ap (option_map (routine_of program)) e;
    parameters = refl;
    room = room;
    count = take_length callee.parameters callee.locals (well.functions k callee e).parameters;
    gives_back = gives;
  }

  gives_of : (o : Option Ty) (t ty : Ty) → option_map value_type o ≡ Some t → is_regional ty ≡ is_regional t → is_regional ty ≡ true → (u : Ty) × (o ≡ Some u) × (is_regional u ≡ true)
  gives_of None t ty e q b = cc
  gives_of (Some u) t ty e q b = let s : value_type u ≡ t = cc in (u, refl, sym (regional_value u) ∙ ap is_regional s ∙ sym q ∙ b)

  abbrev Does : Expr → Type 0
  Does e = (t : Ty) → HasType program locals e t → (ty : Ty) (h : ℕ) → kind_of ty ≡ kind_of t → steps_temporaries (code e ty h) ≤ n → Right (code e ty h) (h < n)

  -- an operand and an operation
  right_operand : (e : Expr) → Does e → (u own : Ty) (line h : ℕ) (ty : Ty) (op : Operation) → HasType program locals e u → kind_of own ≡ kind_of u → steps_temporaries (both (code e own h) (one (To.set line h ty op))) ≤ n
      → RightOperation r fr n h ty op → Right (both (code e own h) (one (To.set line h ty op))) (h < n)
  right_operand e does u own line h ty op he hk le right =
      right_set (code e own h) line h ty op (h < n) le (does u he own h hk (heights_both (code e own h) (one (To.set line h ty op)) n le).0) (λ p. right)

  right_two : (a b : Expr) → Does a → Does b → (u v own other : Ty) (line h : ℕ) (ty : Ty) (op : Operation) → HasType program locals a u → HasType program locals b v → kind_of own ≡ kind_of u → kind_of other ≡ kind_of v
      → steps_temporaries (both (code a own h) (both (code b other (suc h)) (one (To.set line h ty op)))) ≤ n → (suc h < n → RightOperation r fr n h ty op) → Right (both (code a own h) (both (code b other (suc h)) (one (To.set line h ty op)))) (h < n)
  right_two a b does_a does_b u v own other line h ty op ha hb ka kb le right =
      let last = one (To.set line h ty op) in
      let p = heights_both (code a own h) (both (code b other (suc h)) last) n le in
      let q = heights_both (code b other (suc h)) last n p.1 in
      right_both (code a own h) (both (code b other (suc h)) last) (h < n) (h < n) (does_a u ha own h ka p.0) (λ first.
      right_both (code b other (suc h)) last (suc h < n) (h < n) (does_b v hb other (suc h) kb q.0) (λ second. right_one line h ty op first (right second)))

  index_kind : (i : Expr) (s : Signedness) → kind_of (index_type program locals i) ≡ kind_of (arithmetic s)
  index_kind i s = kind_arithmetic (signedness program locals (found i)) ∙ sym (kind_arithmetic s)

  right_index : (i : Expr) → Does i → (s : Signedness) → HasType program locals i (arithmetic s) → (h : ℕ) → steps_temporaries (code i (index_type program locals i) h) ≤ n → Right (code i (index_type program locals i) h) (h < n)
  right_index i does s hi h le = does (arithmetic s) hi (index_type program locals i) h (index_kind i s) le

  right_behind : (a x : Steps) (h : ℕ) → Right a (h < n) → RightSteps r fr n x → Right (both a x) (h < n)
  right_behind a x h ra rx = right_both a x (h < n) (h < n) ra (λ p. record { steps = rx; after = p })

  mutual
    pub right_expression : (e : Expr) (t : Ty) → HasType program locals e t → (ty : Ty) (h : ℕ) → kind_of ty ≡ kind_of t → steps_temporaries (code e ty h) ≤ n → Right (code e ty h) (h < n)
    right_expression (constant line s k) t he ty h hk le = right_first line h ty (To.constant s k) le (hk ∙ ap kind_of he.0 ∙ kind_arithmetic s)
    right_expression (null line) t he ty h hk le = right_first line h ty To.null le (hk ∙ kind_reference t he.0)
    right_expression (string line k) t he ty h hk le = right_first line h ty (To.static (length program.globals + k)) le (hk ∙ ap kind_of he.0)
    right_expression (local line x) t he ty h hk le =
        right_first line h ty (To.copy x) le (mapped_at locals x he.0 he.1.0 ∙ sym (regional_same ty he.0 (hk ∙ ap kind_of he.1.1 ∙ kind_value he.0)))
    right_expression (read line place) t he ty h hk le =
        right_set (place_code program locals line place h) line h ty (To.load (access program locals place)) (h < n) le
        (right_place line place he.0 he.1.0 h (heights_both (place_code program locals line place h) (one (To.set line h ty (To.load (access program locals place)))) n le).0)
        (λ below. tt)
    right_expression (address line k) t he ty h hk le = right_first line h ty (To.static k) le (hk ∙ ap kind_of he.1.1)
    right_expression (step line direction p i) t he ty h hk le =
        right_two p i (right_expression p) (right_expression i) t (arithmetic he.3.0) (pointer_type program locals p) (index_type program locals i) line h ty (To.step direction (pointer_type program locals p) (index_type program locals i)) he.2 he.3.1 (sym (kind_pointer t he.0)) (index_kind i he.3.0) le
        (λ second. (hk ∙ kind_pointer t he.0, refl))
    right_expression (step_from line i p) t he ty h hk le =
        right_two i p (right_expression i) (right_expression p) (arithmetic he.3.0) t (index_type program locals i) (pointer_type program locals p) line h ty (To.step_from (index_type program locals i) (pointer_type program locals p)) he.3.1 he.2 (index_kind i he.3.0) (sym (kind_pointer t he.0)) le
        (λ second. (hk ∙ kind_pointer t he.0, refl, second))
    right_expression (unary line Negate s e) t he ty h hk le =
        right_operand e (right_expression e) (arithmetic s) (arithmetic s) line h ty (To.unary Negate s) he.1 refl le (hk ∙ ap kind_of he.0 ∙ kind_arithmetic s)
    right_expression (unary line Plus s e) t he ty h hk le = right_expression e (arithmetic s) he.1 ty h (hk ∙ ap kind_of he.0) le
    right_expression (unary line Complement s e) t he ty h hk le =
        right_operand e (right_expression e) (arithmetic s) (arithmetic s) line h ty (To.unary Complement s) he.1 refl le (hk ∙ ap kind_of he.0 ∙ kind_arithmetic s)
    right_expression (binary line operator s a b) t he ty h hk le =
        right_two a b (right_expression a) (right_expression b) (arithmetic s) (arithmetic he.2.0) (arithmetic s) (found b) line h ty (To.binary operator s (found b)) he.1 he.2.1.1 refl (kind_found program locals b (arithmetic he.2.0) he.2.1.1) le
        (λ second. hk ∙ ap kind_of he.0 ∙ kind_result (is_comparison operator) s)
    right_expression (convert line from to e) t he ty h hk le =
        right_operand e (right_expression e) (number from) (number from) line h ty (To.convert from to) he.2 refl le (hk ∙ ap kind_of he.0 ∙ kind_number to)
    right_expression (not_zero line e) t he ty h hk le =
        right_operand e (right_expression e) (number he.1.0) (found e) line h ty (To.not_zero (found e)) he.1.1 (kind_found program locals e (number he.1.0) he.1.1) le (hk ∙ ap kind_of he.0)
    right_expression (and line a b) t he ty h hk le =
        let x = both (code b (found b) h) (one (To.set line h ty (To.truth (found b)))) in
        let y = one (To.set line h ty (To.constant Signed (pos 0))) in
        right_fork (code a (found a) h) line h (found a) ty x y le
        (right_expression a he.3.0 he.3.1 (found a) h (kind_found program locals a he.3.0 he.3.1) (heights_both (code a (found a) h) (one (To.fork line h (found a) ty x y)) n le).0)
        (λ lx. right_operand b (right_expression b) he.4.0 (found b) line h ty (To.truth (found b)) he.4.1 (kind_found program locals b he.4.0 he.4.1) lx (hk ∙ ap kind_of he.0))
        (λ ly. right_first line h ty (To.constant Signed (pos 0)) ly (hk ∙ ap kind_of he.0))
    right_expression (or line a b) t he ty h hk le =
        let x = one (To.set line h ty (To.constant Signed (pos 1))) in
        let y = both (code b (found b) h) (one (To.set line h ty (To.truth (found b)))) in
        right_fork (code a (found a) h) line h (found a) ty x y le
        (right_expression a he.3.0 he.3.1 (found a) h (kind_found program locals a he.3.0 he.3.1) (heights_both (code a (found a) h) (one (To.fork line h (found a) ty x y)) n le).0)
        (λ lx. right_first line h ty (To.constant Signed (pos 1)) lx (hk ∙ ap kind_of he.0))
        (λ ly. right_operand b (right_expression b) he.4.0 (found b) line h ty (To.truth (found b)) he.4.1 (kind_found program locals b he.4.0 he.4.1) ly (hk ∙ ap kind_of he.0))
    right_expression (choose line test a b) t he ty h hk le =
        right_fork (code test (found test) h) line h (found test) ty (code a ty h) (code b ty h) le
        (right_expression test he.1.0 he.1.1 (found test) h (kind_found program locals test he.1.0 he.1.1) (heights_both (code test (found test) h) (one (To.fork line h (found test) ty (code a ty h) (code b ty h))) n le).0)
        (λ lx. right_expression a t he.3 ty h hk lx)
        (λ ly. right_expression b t he.4 ty h hk ly)
    right_expression (is_null line wanted e) t he ty h hk le =
        right_operand e (right_expression e) he.2.0 (found e) line h ty (To.is_null wanted (found e)) he.2.1.1 (kind_found program locals e he.2.0 he.2.1.1) le (hk ∙ ap kind_of he.0)
    right_expression (same line wanted a b) t he ty h hk le =
        right_two a b (right_expression a) (right_expression b) he.3.0 he.3.0 (found a) (found a) line h ty (To.same wanted (found a)) he.3.1.1 he.3.1.2 (kind_found program locals a he.3.0 he.3.1.1) (kind_found program locals a he.3.0 he.3.1.1) le (λ second. hk ∙ ap kind_of he.0)
    right_expression (call line k es) t he ty h hk le =
        let tys : parameter_types program k ≡ parameters_of he.0 = ap types_in he.1.0 in
        let now = λ (ts us : List Ty). both (arguments_code program locals es ts h) (one (To.set line h ty (To.call k us))) in
        let us : argument_types program locals es (parameters_of he.0) ≡ parameters_of he.0 = arguments_same es (parameters_of he.0) he.1.2 in
        subst (λ ts. Right (now ts (argument_types program locals es ts)) (h < n)) (sym tys)
        (subst (λ vs. Right (now (parameters_of he.0) vs) (h < n)) (sym us)
        (let le1 : steps_temporaries (now (parameters_of he.0) (parameters_of he.0)) ≤ n = subst (λ vs. steps_temporaries (now (parameters_of he.0) vs) ≤ n) us (subst (λ ts. steps_temporaries (now ts (argument_types program locals es ts)) ≤ n) tys le) in
        let parts = heights_both (arguments_code program locals es (parameters_of he.0) h) (one (To.set line h ty (To.call k (parameters_of he.0)))) n le1 in
        let lt = height_one line h ty (To.call k (parameters_of he.0)) n parts.1 in
        right_set (arguments_code program locals es (parameters_of he.0) h) line h ty (To.call k (parameters_of he.0)) (h + length (parameters_of he.0) ≤ n) le1
        (right_arguments es (parameters_of he.0) he.1.2 h (omega (arith, lt)) parts.0)
        (λ room. call_right h ty t k he.0 he.1.0 (gives_of he.0.result t ty he.1.1 (regional_same ty t hk)) room)))
    right_expression (new_region line) t he ty h hk le = right_first line h ty To.new_region le (hk ∙ ap kind_of he)
    right_expression (new_subregion line e) t he ty h hk le = right_operand e (right_expression e) region region line h ty To.new_subregion he.1 refl le (hk ∙ ap kind_of he.0)
    right_expression (region_of line e) t he ty h hk le =
        right_operand e (right_expression e) he.2.0 (found e) line h ty (To.region_of (found e)) he.2.1.1 (kind_found program locals e he.2.0 he.2.1.1) le (hk ∙ ap kind_of he.0, kind_found program locals e he.2.0 he.2.1.1 ∙ kind_pointer he.2.0 he.2.1.0)
    right_expression (allocate line e u) t he ty h hk le = right_operand e (right_expression e) region region line h ty (To.allocate u (cells program.structs u)) he.2 refl le (hk ∙ ap kind_of he.0)
    right_expression (allocate_array line e k u) t he ty h hk le =
        right_two e k (right_expression e) (right_expression k) region int region int line h ty (To.allocate_array u (cells program.structs u)) he.2 he.3 refl refl le (λ second. hk ∙ ap kind_of he.0)
    right_expression (putchar line e) t he ty h hk le = right_operand e (right_expression e) int int line h ty To.putchar he.1 refl le (hk ∙ ap kind_of he.0)
    right_expression (getchar line) t he ty h hk le = right_first line h ty To.getchar le (hk ∙ ap kind_of he)

    pub right_arguments : (es : Arguments) (tys : List Ty) → AreArguments program locals es tys → (h : ℕ) → h ≤ n → steps_temporaries (arguments_code program locals es tys h) ≤ n → Right (arguments_code program locals es tys h) (h + length tys ≤ n)
    right_arguments none [] ha h lh le = record { steps = tt; after = omega (arith, lh) }
    right_arguments none (ty ∷ tys) ha h lh le = absurd ha
    right_arguments (more e es) [] ha h lh le = absurd ha
    right_arguments (more e es) (ty ∷ tys) ha h lh le =
        let own = value_type ty in
        let parts = heights_both (code e own h) (arguments_code program locals es tys (suc h)) n le in
        right_both (code e own h) (arguments_code program locals es tys (suc h)) (h < n) (h + length (ty ∷ tys) ≤ n) (right_expression e own ha.0 own h refl parts.0) (λ lt.
        let q = right_arguments es tys ha.1 (suc h) (omega (arith, lt)) parts.1 in
        record { steps = q.steps; after = let room = q.after in omega (arith, room) })

    pub right_place : (line : ℕ) (place : Place) (t : Ty) → IsPlace program locals place t → (h : ℕ) → steps_temporaries (place_code program locals line place h) ≤ n → Right (place_code program locals line place h) (h < n)
    right_place line (global k path) t hp h le =
        let first = one (To.set line h (pointer Plain (global_type program k)) (To.static k)) in
        let parts = heights_both first (path_code program locals path (suc h)) n le in
        right_behind first (path_code program locals path (suc h)) h (right_first line h (pointer Plain (global_type program k)) (To.static k) parts.0 refl) (right_path path hp.0.ty t hp.1.2 (suc h) parts.1)
    right_place line (pointed p path) t hp h le =
        let pt = pointer_type program locals p in
        let parts = heights_both (code p pt h) (path_code program locals path (suc h)) n le in
        right_behind (code p pt h) (path_code program locals path (suc h)) h (right_expression p (pointer Plain hp.1.0) hp.1.1.0 pt h refl parts.0) (right_path path hp.1.0 t hp.1.1.1 (suc h) parts.1)
    right_place line (indexed p i path) t hp h le =
        let pt = pointer_type program locals p in
        let it = index_type program locals i in
        let rest = path_code program locals path (suc (suc h)) in
        let a = heights_both (code p pt h) (both (code i it (suc h)) rest) n le in
        let b = heights_both (code i it (suc h)) rest n a.1 in
        right_behind (code p pt h) (both (code i it (suc h)) rest) h (right_expression p (pointer Plain hp.1.0) hp.1.1.0 pt h refl a.0)
        (right_behind (code i it (suc h)) rest (suc h) (right_index i (right_expression i) hp.1.1.1.0 hp.1.1.1.1 (suc h) b.0) (right_path path hp.1.0 t hp.1.1.2 (suc (suc h)) b.1)).steps

    right_path : (path : Path) (u t : Ty) → LeadsTo program locals path u t → (h : ℕ) → steps_temporaries (path_code program locals path h) ≤ n → RightSteps r fr n (path_code program locals path h)
    right_path here u t hl h le = tt
    right_path (field s k rest) u t hl h le = right_path rest hl.1.0.ty t hl.1.1.2 h le
    right_path (element s k i rest) u t hl h le =
        let it = index_type program locals i in
        let parts = heights_both (code i it h) (path_code program locals rest (suc h)) n le in
        (right_behind (code i it h) (path_code program locals rest (suc h)) h (right_index i (right_expression i) hl.1.1.2.0 hl.1.1.2.1 h parts.0) (right_path rest hl.1.0.ty t hl.1.1.3 (suc h) parts.1)).steps

  -- statements

  abbrev CodeIs : To.Code → Type 0
  CodeIs x = RightCode r fr n x

  right_simple : (x : Steps) (act : To.Act) (P : Type 0) → Right x P → (P → RightAct r fr n act) → CodeIs (To.simple x act)
  right_simple x act P ra k = (ra.steps, k ra.after)

  right_assign : (line x : ℕ) (t ty : Ty) (e : Expr) → slice_get locals x ≡ Some t → ty ≡ t → HasType program locals e (value_type t) → code_temporaries (To.simple (code e (value_type ty) 0) (To.assign line x ty)) ≤ n → CodeIs (To.simple (code e (value_type ty) 0) (To.assign line x ty))
  right_assign line x t ty e at alike he le =
      subst (λ u. code_temporaries (To.simple (code e (value_type u) 0) (To.assign line x u)) ≤ n → CodeIs (To.simple (code e (value_type u) 0) (To.assign line x u))) (sym alike)
      (λ le1.
      right_simple (code e (value_type t) 0) (To.assign line x t) (0 < n) (right_expression e (value_type t) he (value_type t) 0 refl (max_parts (steps_temporaries (code e (value_type t) 0)) 0 n le1).0)
      (λ lt. (mapped_at locals x t at, lt))) le

  record PlaceThen (k : ℕ) : Type 0 where
    first : 0 < n
    below : k < n

  right_place_then : (line : ℕ) (place : Place) (pt : Ty) → IsPlace program locals place pt → (e : Expr) (v own : Ty) → HasType program locals e v → kind_of own ≡ kind_of v
      → let a = access program locals place in steps_temporaries (both (place_code program locals line place 0) (code e own (width a))) ≤ n → Right (both (place_code program locals line place 0) (code e own (width a))) (PlaceThen (width a))
  right_place_then line place pt hp e v own he hk le =
      let a = access program locals place in
      let parts = heights_both (place_code program locals line place 0) (code e own (width a)) n le in
      right_both (place_code program locals line place 0) (code e own (width a)) (0 < n) (PlaceThen (width a)) (right_place line place pt hp 0 parts.0) (λ first.
      let q = right_expression e v he own (width a) hk parts.1 in
      record { steps = q.steps; after = record { first = first; below = q.after } })

  path_cell : (path : Path) (a : Access) → (path_access program locals path a).cell ≡ a.cell
  path_cell here a = refl
  path_cell (field s j rest) a = path_cell rest _
  path_cell (element s j i rest) a = path_cell rest _

  cell_is : (place : Place) (t : Ty) → IsPlace program locals place t → (access program locals place).cell ≡ t
  cell_is (global k path) t hp = path_cell path _ ∙ place_is program locals (global k path) t hp
  cell_is (pointed p path) t hp = path_cell path _ ∙ place_is program locals (pointed p path) t hp
  cell_is (indexed p i path) t hp = path_cell path _ ∙ place_is program locals (indexed p i path) t hp

  right_store : (line : ℕ) (place : Place) (pt : Ty) → IsPlace program locals place pt → IsTrue (not (is_struct pt)) → (e : Expr) → HasType program locals e (value_type pt) → code_temporaries (statement_code program f (store line place e)) ≤ n → CodeIs (statement_code program f (store line place e))
  right_store line place pt hp h e he le =
      let a = access program locals place in
      let x = both (place_code program locals line place 0) (code e (value_type a.cell) (width a)) in
      right_simple x (To.store line a) (PlaceThen (width a))
      (right_place_then line place pt hp e (value_type pt) (value_type a.cell) he (ap (λ c. kind_of (value_type c)) (cell_is place pt hp)) (max_parts (steps_temporaries x) 0 n le).0)
      (λ p. (p.first, p.below))

  pointer_regional : (t : Ty) → IsTrue (is_pointer t) → is_regional t ≡ true
  pointer_regional int h = cc
  pointer_regional unsigned h = cc
  pointer_regional char h = cc
  pointer_regional region h = cc
  pointer_regional (struct k) h = cc
  pointer_regional (pointer note target) h = refl

  right_update : (line : ℕ) (place : Place) (pt : Ty) → IsPlace program locals place pt → (change : Change) (e : Expr) → Takes program locals pt change e → code_temporaries (statement_code program f (update line place change e)) ≤ n → CodeIs (statement_code program f (update line place change e))
  right_update line place pt hp change e takes le =
      let a = access program locals place in
      let x = both (place_code program locals line place 0) (code e (found e) (width a)) in
      let has = taken_has program f pt change e takes in
      let parts = max_parts (steps_temporaries x) (suc (suc (width a))) n le in
      right_simple x (To.update line a change (found e)) (PlaceThen (width a)) (right_place_then line place pt hp e has.0 (found e) has.1 (kind_found program locals e has.0 has.1) parts.0) (λ p. act change takes parts.1 p.first)
    where
      act : (change : Change) → Takes program locals pt change e → suc (suc (width (access program locals place))) ≤ n → 0 < n → RightAct r fr n (To.update line (access program locals place) change (found e))
      act (Compute from operator s) takes room first = first
      act (Stepping direction) takes room first = (ap is_regional (cell_is place pt hp) ∙ pointer_regional pt takes.0, room)

  right_copy : (line s : ℕ) (left right : Place) → IsPlace program locals left (struct s) → IsPlace program locals right (struct s) → code_temporaries (statement_code program f (copy line s left right)) ≤ n → CodeIs (statement_code program f (copy line s left right))
  right_copy line s left right hl hr le =
      let a = access program locals left in
      let b = access program locals right in
      let x = both (place_code program locals line left 0) (place_code program locals line right (width a)) in
      let parts = max_parts (steps_temporaries x) (suc (width a + width b)) n le in
      let two = heights_both (place_code program locals line left 0) (place_code program locals line right (width a)) n parts.0 in
      let copied = right_behind (place_code program locals line left 0) (place_code program locals line right (width a)) 0 (right_place line left (struct s) hl 0 two.0) (right_place line right (struct s) hr (width a) two.1).steps in
      right_simple x (To.move line (cells program.structs (struct s)) a b) (0 < n) copied (λ first. parts.1)

  right_dropped : (e : Expr) (u : Ty) → HasType program locals e u → code_temporaries (To.simple (code e (found e) 0) To.drop) ≤ n → CodeIs (To.simple (code e (found e) 0) To.drop)
  right_dropped e u he le =
      right_simple (code e (found e) 0) To.drop (0 < n) (right_expression e u he (found e) 0 (kind_found program locals e u he) (max_parts (steps_temporaries (code e (found e) 0)) 0 n le).0) (λ lt. tt)

  right_perform : (line k : ℕ) (es : Arguments) (callee : Function) → slice_get program.functions k ≡ Some callee → AreArguments program locals es (parameters_of callee)
      → code_temporaries (To.simple (arguments_code program locals es (parameter_types program k) 0) (To.perform line k (argument_types program locals es (parameter_types program k)))) ≤ n
      → CodeIs (To.simple (arguments_code program locals es (parameter_types program k) 0) (To.perform line k (argument_types program locals es (parameter_types program k))))
  right_perform line k es callee e ha le =
      let tys = parameters_of callee in
      subst (λ ts. steps_temporaries (arguments_code program locals es ts 0) ≤ n → CodeIs (To.simple (arguments_code program locals es ts 0) (To.perform line k (argument_types program locals es ts)))) (sym (ap types_in e))
      (λ le1.
      subst (λ us. CodeIs (To.simple (arguments_code program locals es tys 0) (To.perform line k us))) (sym (arguments_same es tys ha))
      (right_simple (arguments_code program locals es tys 0) (To.perform line k tys) (0 + length tys ≤ n) (right_arguments es tys ha 0 (omega arith) le1) (λ room. call_right 0 int int k callee e (λ b. cc) room)))
      (max_parts (steps_temporaries (arguments_code program locals es (parameter_types program k) 0)) 1 n le).0

  abbrev gives_in : Option Function → Bool
  gives_in None = true
  gives_in (Some h) = is_some h.result

  right_evaluate : (line : ℕ) (e : Expr) → Runs program locals e → code_temporaries (evaluate_code program locals line e) ≤ n → CodeIs (evaluate_code program locals line e)
  right_evaluate line (call own k es) h le = by (has_result program k) refl le
    where
      typed : (o : Option Ty) → is_some o ≡ true → (u : Ty) × (option_map value_type o ≡ Some u)
      typed None e = cc
      typed (Some u) e = (value_type u, refl)

      whole_call : To.Code
      whole_call = To.simple (whole program locals (call own k es)) To.drop

      performed : To.Code
      performed = To.simple (arguments_code program locals es (parameter_types program k) 0) (To.perform own k (argument_types program locals es (parameter_types program k)))

      by : (b : Bool) → has_result program k ≡ b → code_temporaries (Rattle.rc_translation.specs.Translation.one_of b whole_call performed) ≤ n → CodeIs (Rattle.rc_translation.specs.Translation.one_of b whole_call performed)
      by true e le = let q = typed h.0.result (sym (ap gives_in h.1.0) ∙ e) in right_dropped (call own k es) q.0 (h.0, (h.1.0, q.1, h.1.1)) le
      by false e le = right_perform own k es h.0 h.1.0 h.1.1 le
  right_evaluate line (constant own s k) h le = right_dropped (constant own s k) h.1.0 h.1.1 le
  right_evaluate line (null own) h le = right_dropped (null own) h.1.0 h.1.1 le
  right_evaluate line (string own k) h le = right_dropped (string own k) h.1.0 h.1.1 le
  right_evaluate line (local own x) h le = right_dropped (local own x) h.1.0 h.1.1 le
  right_evaluate line (read own place) h le = right_dropped (read own place) h.1.0 h.1.1 le
  right_evaluate line (address own k) h le = right_dropped (address own k) h.1.0 h.1.1 le
  right_evaluate line (step own d p i) h le = right_dropped (step own d p i) h.1.0 h.1.1 le
  right_evaluate line (step_from own i p) h le = right_dropped (step_from own i p) h.1.0 h.1.1 le
  right_evaluate line (unary own o s a) h le = right_dropped (unary own o s a) h.1.0 h.1.1 le
  right_evaluate line (binary own o s a b) h le = right_dropped (binary own o s a b) h.1.0 h.1.1 le
  right_evaluate line (convert own from to a) h le = right_dropped (convert own from to a) h.1.0 h.1.1 le
  right_evaluate line (not_zero own a) h le = right_dropped (not_zero own a) h.1.0 h.1.1 le
  right_evaluate line (and own a b) h le = right_dropped (and own a b) h.1.0 h.1.1 le
  right_evaluate line (or own a b) h le = right_dropped (or own a b) h.1.0 h.1.1 le
  right_evaluate line (choose own c a b) h le = right_dropped (choose own c a b) h.1.0 h.1.1 le
  right_evaluate line (is_null own is a) h le = right_dropped (is_null own is a) h.1.0 h.1.1 le
  right_evaluate line (same own is a b) h le = right_dropped (same own is a b) h.1.0 h.1.1 le
  right_evaluate line (new_region own) h le = right_dropped (new_region own) h.1.0 h.1.1 le
  right_evaluate line (new_subregion own a) h le = right_dropped (new_subregion own a) h.1.0 h.1.1 le
  right_evaluate line (region_of own a) h le = right_dropped (region_of own a) h.1.0 h.1.1 le
  right_evaluate line (allocate own a made) h le = right_dropped (allocate own a made) h.1.0 h.1.1 le
  right_evaluate line (allocate_array own a b made) h le = right_dropped (allocate_array own a b made) h.1.0 h.1.1 le
  right_evaluate line (putchar own a) h le = right_dropped (putchar own a) h.1.0 h.1.1 le
  right_evaluate line (getchar own) h le = right_dropped (getchar own) h.1.0 h.1.1 le

  abbrev Head : Steps → Option Test → Type 0
  Head x None = x ≡ To.none
  Head x (Some test) = RightSteps r fr n x

  right_tested : (e : Expr) (u : Ty) → HasType program locals e u → (test : Test) → steps_temporaries (whole program locals e) ≤ n → Head (whole program locals e) (Some test)
  right_tested e u he test le = (right_expression e u he (found e) 0 (kind_found program locals e u he) le).steps

  right_whole : (line : ℕ) (wanted : Bool) (e : Expr) (u : Ty) → HasType program locals e u → steps_temporaries (whole program locals e) ≤ n → Head (whole program locals e) (Some (record { line = line; ty = found e; wanted = wanted }))
  right_whole line wanted e u he le = right_tested e u he (record { line = line; ty = found e; wanted = wanted }) le

  number_there : (e : Expr) (k : NumberType) → HasType program locals e (number k) → NotNull e
  number_there e Int he = number_not_null program locals e Signed _ refl he
  number_there e Unsigned he = number_not_null program locals e Wrapping _ refl he
  number_there e Char he = char_not_null program locals e he

  right_condition : (line : ℕ) (wanted : Bool) (e : Expr) → IsValue program locals e → steps_temporaries (condition_code program locals e) ≤ n → Head (condition_code program locals e) (Some (condition_test program locals line wanted e))
  right_condition line wanted (not_zero own e) v le = right_condition line (not wanted) e (number_there e v.1.1.1.0 v.1.1.1.1, (number v.1.1.1.0, v.1.1.1.1)) le
  right_condition line wanted (is_null own isnull e) v le = right_tested e v.1.1.2.0 v.1.1.2.1.1 (condition_test program locals line wanted (is_null own isnull e)) le
  right_condition line wanted (constant own s k) v le = right_whole line wanted (constant own s k) v.1.0 v.1.1 le
  right_condition line wanted (null own) v le = right_whole line wanted (null own) v.1.0 v.1.1 le
  right_condition line wanted (string own k) v le = right_whole line wanted (string own k) v.1.0 v.1.1 le
  right_condition line wanted (local own x) v le = right_whole line wanted (local own x) v.1.0 v.1.1 le
  right_condition line wanted (read own place) v le = right_whole line wanted (read own place) v.1.0 v.1.1 le
  right_condition line wanted (address own k) v le = right_whole line wanted (address own k) v.1.0 v.1.1 le
  right_condition line wanted (step own d p i) v le = right_whole line wanted (step own d p i) v.1.0 v.1.1 le
  right_condition line wanted (step_from own i p) v le = right_whole line wanted (step_from own i p) v.1.0 v.1.1 le
  right_condition line wanted (unary own o s a) v le = right_whole line wanted (unary own o s a) v.1.0 v.1.1 le
  right_condition line wanted (binary own o s a b) v le = right_whole line wanted (binary own o s a b) v.1.0 v.1.1 le
  right_condition line wanted (convert own from to a) v le = right_whole line wanted (convert own from to a) v.1.0 v.1.1 le
  right_condition line wanted (and own a b) v le = right_whole line wanted (and own a b) v.1.0 v.1.1 le
  right_condition line wanted (or own a b) v le = right_whole line wanted (or own a b) v.1.0 v.1.1 le
  right_condition line wanted (choose own c a b) v le = right_whole line wanted (choose own c a b) v.1.0 v.1.1 le
  right_condition line wanted (same own is a b) v le = right_whole line wanted (same own is a b) v.1.0 v.1.1 le
  right_condition line wanted (new_region own) v le = right_whole line wanted (new_region own) v.1.0 v.1.1 le
  right_condition line wanted (new_subregion own a) v le = right_whole line wanted (new_subregion own a) v.1.0 v.1.1 le
  right_condition line wanted (region_of own a) v le = right_whole line wanted (region_of own a) v.1.0 v.1.1 le
  right_condition line wanted (allocate own a made) v le = right_whole line wanted (allocate own a made) v.1.0 v.1.1 le
  right_condition line wanted (allocate_array own a b made) v le = right_whole line wanted (allocate_array own a b made) v.1.0 v.1.1 le
  right_condition line wanted (putchar own a) v le = right_whole line wanted (putchar own a) v.1.0 v.1.1 le
  right_condition line wanted (getchar own) v le = right_whole line wanted (getchar own) v.1.0 v.1.1 le
  right_condition line wanted (call own k es) v le = right_whole line wanted (call own k es) v.1.0 v.1.1 le

  right_loop : (line : ℕ) (x : Steps) (test : Option Test) (third a : To.Code) → Head x test → CodeIs third → CodeIs a → CodeIs (To.loop line x test third a)
  right_loop line x None third a h r3 ra = (h, r3, ra)
  right_loop line x (Some test) third a h r3 ra = (h, r3, ra)

  right_optional : (line : ℕ) (test : Option Expr) → IfSome test (IsValue program locals) → steps_temporaries (optional_condition program locals test) ≤ n → Head (optional_condition program locals test) (option_map (condition_test program locals line true) test)
  right_optional line None v le = refl
  right_optional line (Some e) v le = right_condition line true e v le

  right_returned : (line : ℕ) (e : Expr) (rt : Ty) → f.result ≡ Some rt → HasType program locals e (value_type rt) → code_temporaries (To.simple (code e (returned_type f.result) 0) (To.leave line (option_map value_type f.result))) ≤ n → CodeIs (To.simple (code e (returned_type f.result) 0) (To.leave line (option_map value_type f.result)))
  right_returned line e rt er he le =
      subst (λ ty. steps_temporaries (code e ty 0) ≤ n → CodeIs (To.simple (code e ty 0) (To.leave line (option_map value_type f.result)))) (sym (ap returned_type er))
      (λ le1.
      right_simple (code e (value_type rt) 0) (To.leave line (option_map value_type f.result)) (0 < n) (right_expression e (value_type rt) he (value_type rt) 0 refl le1) (λ lt. (
        (λ ty q reg. (value_type ty, ap (option_map value_type) q, regional_value ty ∙ reg)),
        (λ ty q. lt),
      )))
      (max_parts (steps_temporaries (code e (returned_type f.result) 0)) 0 n le).0

  mutual
    right_statement : (loop : Bool) (s : Stmt) → IsTyped program f loop s → code_temporaries (statement_code program f s) ≤ n → CodeIs (statement_code program f s)
    right_statement loop (block body) h le = right_statements loop body h le
    right_statement loop (declare line x None) h le =
        let alike = get_or_from_slice_get locals x h.0 int h.1.0 in
        subst (λ ty. CodeIs (To.clear line x ty)) (sym alike) (mapped_at locals x h.0 h.1.0)
    right_statement loop (declare line x (Some e)) h le = right_assign line x h.0 (local_type f x) e h.1.0 (get_or_from_slice_get locals x h.0 int h.1.0) h.1.1 le
    right_statement loop (assign line x e) h le = right_assign line x h.0 (local_type f x) e h.1.0 (get_or_from_slice_get locals x h.0 int h.1.0) h.1.1 le
    right_statement loop (store line place e) h le = right_store line place h.0 h.1.0 h.1.1 e h.1.2 le
    right_statement loop (update line place change e) h le = right_update line place h.0 h.1.0 change e h.1.1 le
    right_statement loop (copy line s left right) h le = right_copy line s left right h.0 h.1 le
    right_statement loop (evaluate line e) h le = right_evaluate line e h le
    right_statement loop (delete line e) h le =
        right_simple (code e region 0) (To.delete line) (0 < n) (right_expression e region h region 0 refl (max_parts (steps_temporaries (code e region 0)) 0 n le).0) (λ lt. lt)
    right_statement loop (branch line test a b) h le =
        let x = condition_code program locals test in
        let parts = max_parts (steps_temporaries x) (max (code_temporaries (statement_code program f a)) (code_temporaries (statement_code program f b))) n le in
        let arms = max_parts (code_temporaries (statement_code program f a)) (code_temporaries (statement_code program f b)) n parts.1 in
        let q = right_condition line true test h.0 parts.0 in
        (q, right_statement loop a h.1 arms.0, right_statement loop b h.2 arms.1)
    right_statement loop (while line test a) h le =
        let x = condition_code program locals test in
        let parts = max_parts (steps_temporaries x) (max (code_temporaries (statement_code program f a)) 0) n le in
        let arms = max_parts (code_temporaries (statement_code program f a)) 0 n parts.1 in
        let q = right_condition line true test h.0 parts.0 in
        (q, tt, right_statement true a h.1 arms.0)
    right_statement loop (repeat line a test) h le =
        let x = condition_code program locals test in
        let parts = max_parts (code_temporaries (statement_code program f a)) (steps_temporaries x) n le in
        let q = right_condition line true test h.1 parts.1 in
        (q, right_statement true a h.0 parts.0)
    right_statement loop (for line first test third a) h le =
        let x = optional_condition program locals test in
        let ct = option_map (condition_test program locals line true) test in
        let c3 = statement_code program f third in
        let ca = statement_code program f a in
        let p = max_parts (code_temporaries (statement_code program f first)) (max (code_temporaries (To.loop line x ct c3 ca)) 0) n le in
        let q = max_parts (code_temporaries (To.loop line x ct c3 ca)) 0 n p.1 in
        let s = max_parts (steps_temporaries x) (max (code_temporaries ca) (code_temporaries c3)) n q.0 in
        let u = max_parts (code_temporaries ca) (code_temporaries c3) n s.1 in
        (right_statement loop first h.0 p.0, (right_loop line x ct c3 ca (right_optional line test h.1 s.0) (right_statement loop third h.2 u.1) (right_statement true a h.3 u.0), tt))
    right_statement loop (break line) h le = tt
    right_statement loop (continue line) h le = tt
    right_statement loop (return line None) h le = (tt, ((λ ty q reg. let none_some : None ≡ Some ty = sym h ∙ q in cc), (λ ty q. cc)))
    right_statement loop (return line (Some e)) h le = right_returned line e h.0 h.1.0 h.1.1 le

    right_statements : (loop : Bool) (body : Stmts) → AreTyped program f loop body → codes_temporaries (body_code program f body) ≤ n → RightCodes r fr n (body_code program f body)
    right_statements loop done h le = tt
    right_statements loop (then s rest) h le =
        let p = max_parts (code_temporaries (statement_code program f s)) (codes_temporaries (body_code program f rest)) n le in
        (right_statement loop s h.0 p.0, right_statements loop rest h.1 p.1)

  pub right_routine : routine_temporaries fr ≤ n → RightRoutine r fr n
  right_routine le =
      let p = max_parts (code_temporaries (statement_code program f f.body)) (end_temporaries f.result) n le in
      record {
        parameters = (well.functions g f there).parameters;
        body = right_statement false f.body (well.functions g f there).body p.0;
        result = λ ty e. at_least f.result ty e p.1;
      }
    where
      at_least : (o : Option Ty) (ty : Ty) → o ≡ Some ty → end_temporaries o ≤ n → 0 < n
      at_least None ty e le = cc
      at_least (Some u) ty e le = le

-- of a whole program
pub all_right : (program : Program) → IsWellTyped program → AllRight (region_of_program program) (temporaries_of (region_of_program program))
all_right program well k fk e = by (slice_get program.functions k) refl
  where
    r : Rlang
    r = region_of_program program

    by : (o : Option Function) → slice_get program.functions k ≡ o → RightRoutine r fk (temporaries_of r k)
    by None q = absurd (none_some (sym (slice_get-map (routine_of program) program.functions k ∙ ap (option_map (routine_of program)) q) ∙ e))
      where
        none_some : None ≡ Some fk → ⊥
        none_some e = cc
    by (Some f) q =
        let at : slice_get r.functions k ≡ Some (routine_of program f) = slice_get-map (routine_of program) program.functions k ∙ ap (option_map (routine_of program)) q in
        let alike : routine_of program f ≡ fk = some_same (sym at ∙ e) in
        subst (λ m. RightRoutine r fk m) (sym (ap temporaries_in e))
        (subst (λ fx. RightRoutine r fx (routine_temporaries fx)) alike (right_routine program well k f q (routine_temporaries (routine_of program f)) (omega arith)))
      where
        some_same : {x y : Routine} → Some x ≡ Some y → x ≡ y
        some_same e = cc
