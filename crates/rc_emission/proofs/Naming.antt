-- The region code of a typed program reads only locals that are there.
use Rattle.std.proofs.Common.{◌≡◌, ◌<◌, ℕ, zero, suc, Bool, true, false, List, [], ◌∷◌, length, Some, None, arith}
use Rattle.std.specs.Prelude.{slice_get}
use Rattle.rc_core.specs.declared.operators.UnaryOperator.TheVariants.{Negate, Plus, Complement}
use Rattle.rc_core.specs.declared.stmt.Change.{Change}
use Rattle.rc_core.specs.declared.stmt.Change.TheVariants.{Compute, Step as Stepping}
use Rattle.rc_core.specs.Types.{Ty}
use Rattle.rc_core.specs.Typing.{HasType, AreArguments, IsPlace, LeadsTo, Runs, Takes, IsTyped, AreTyped}
use Rattle.rc_core.specs.Programs.{Expr, constant, null, string, local, read, address, step, step_from, unary, binary, convert, not_zero, and, or, choose, is_null, same, call, new_region, new_subregion, region_of, allocate, allocate_array, putchar, getchar, Arguments, none, more, Place, global, pointed, indexed, Path, here, field, element, Stmt, block, declare, assign, store, update, copy, evaluate, delete, branch, while, repeat, for, break, continue, return, Stmts, done, then, Function, Program}
use Rattle.rc_rlang.specs.RegionCode as To
use Rattle.rc_rlang.specs.RegionCode.{Steps, width, both}
use Rattle.rc_translation.specs.Translation.{expression_type, parameter_types, argument_types, expression_code, arguments_code, place_code, path_code, has_result, one_of, condition_code, evaluate_code, statement_code, body_code}
use Rattle.rc_emission.specs.Served.{StepsName, CodeNames, CodesName}

below : (xs : List Ty) (x : ℕ) (u : Ty) → slice_get xs x ≡ Some u → x < length xs
below [] x u e = absurd (cc e)
below (y ∷ ys) zero u e = omega arith
below (y ∷ ys) (suc x) u e = let r = below ys x u e in omega (arith, r)

names_both : (types : List Ty) (a b : Steps) → StepsName types a → StepsName types b → StepsName types (both a b)
names_both types To.none b na nb = nb
names_both types (To.more s a) b na nb = (na.0, names_both types a b na.1 nb)

module _ (program : Program) (locals : List Ty) where
  -- two runs of steps, and an operation that is no copy
  two : (a b : Steps) (s : To.Step) → StepsName locals a → StepsName locals b → StepsName locals (To.more s To.none) → StepsName locals (both a (both b (To.more s To.none)))
  two a b s na nb ns = names_both locals a (both b (To.more s To.none)) na (names_both locals b (To.more s To.none) nb ns)

  mutual
    pub expression_names : (e : Expr) (t : Ty) → HasType program locals e t → (ty : Ty) (h : ℕ) → StepsName locals (expression_code program locals e ty h)
    expression_names (constant own s n) t w ty h = (tt, tt)
    expression_names (null own) t w ty h = (tt, tt)
    expression_names (string own k) t w ty h = (tt, tt)
    expression_names (local own x) t w ty h = (below locals x w.0 w.1.0, tt)
    expression_names (read own place) t w ty h = names_both locals _ _ (place_names own place _ w.1.0 h) (tt, tt)
    expression_names (address own g) t w ty h = (tt, tt)
    expression_names (step own d p i) t w ty h = two _ _ _ (expression_names p _ w.2 _ _) (expression_names i _ w.3.1 _ _) (tt, tt)
    expression_names (step_from own i p) t w ty h = two _ _ _ (expression_names i _ w.3.1 _ _) (expression_names p _ w.2 _ _) (tt, tt)
    expression_names (unary own Negate s e) t w ty h = names_both locals _ _ (expression_names e _ w.1 _ _) (tt, tt)
    expression_names (unary own Plus s e) t w ty h = expression_names e _ w.1 ty h
    expression_names (unary own Complement s e) t w ty h = names_both locals _ _ (expression_names e _ w.1 _ _) (tt, tt)
    expression_names (binary own o s a b) t w ty h = two _ _ _ (expression_names a _ w.1 _ _) (expression_names b _ w.2.1.1 _ _) (tt, tt)
    expression_names (convert own from to e) t w ty h = names_both locals _ _ (expression_names e _ w.2 _ _) (tt, tt)
    expression_names (not_zero own e) t w ty h = names_both locals _ _ (expression_names e _ w.1.1 _ _) (tt, tt)
    expression_names (and own a b) t w ty h = names_both locals _ _ (expression_names a _ w.3.1 _ _) ((names_both locals _ _ (expression_names b _ w.4.1 _ _) (tt, tt), (tt, tt)), tt)
    expression_names (or own a b) t w ty h = names_both locals _ _ (expression_names a _ w.3.1 _ _) (((tt, tt), names_both locals _ _ (expression_names b _ w.4.1 _ _) (tt, tt)), tt)
    expression_names (choose own test a b) t w ty h = names_both locals _ _ (expression_names test _ w.1.1 _ _) (((expression_names a _ w.3 _ _), (expression_names b _ w.4 _ _)), tt)
    expression_names (is_null own isnull e) t w ty h = names_both locals _ _ (expression_names e _ w.2.1.1 _ _) (tt, tt)
    expression_names (same own wanted a b) t w ty h = two _ _ _ (expression_names a _ w.3.1.1 _ _) (expression_names b _ w.3.1.2 _ _) (tt, tt)
    expression_names (call own g es) t w ty h = names_both locals _ _ (arguments_name es _ w.1.2 _ h) (tt, tt)
    expression_names (new_region own) t w ty h = (tt, tt)
    expression_names (new_subregion own r) t w ty h = names_both locals _ _ (expression_names r _ w.1 _ _) (tt, tt)
    expression_names (region_of own p) t w ty h = names_both locals _ _ (expression_names p _ w.2.1.1 _ _) (tt, tt)
    expression_names (allocate own r made) t w ty h = names_both locals _ _ (expression_names r _ w.2 _ _) (tt, tt)
    expression_names (allocate_array own r size made) t w ty h = two _ _ _ (expression_names r _ w.2 _ _) (expression_names size _ w.3 _ _) (tt, tt)
    expression_names (putchar own e) t w ty h = names_both locals _ _ (expression_names e _ w.1 _ _) (tt, tt)
    expression_names (getchar own) t w ty h = (tt, tt)

    arguments_name : (es : Arguments) (ts : List Ty) → AreArguments program locals es ts → (tys : List Ty) (h : ℕ) → StepsName locals (arguments_code program locals es tys h)
    arguments_name none ts w tys h = tt
    arguments_name (more e es) [] w tys h = absurd w
    arguments_name (more e es) (t ∷ ts) w [] h = names_both locals _ _ (expression_names e _ w.0 _ _) (arguments_name es ts w.1 [] (suc h))
    arguments_name (more e es) (t ∷ ts) w (ty ∷ tys) h = names_both locals _ _ (expression_names e _ w.0 _ _) (arguments_name es ts w.1 tys (suc h))

    pub place_names : (line : ℕ) (place : Place) (t : Ty) → IsPlace program locals place t → (h : ℕ) → StepsName locals (place_code program locals line place h)
    place_names line (global g path) t w h = (tt, path_names path _ _ w.1.2 (suc h))
    place_names line (pointed p path) t w h = names_both locals _ _ (expression_names p _ w.1.1.0 _ _) (path_names path _ _ w.1.1.1 (suc h))
    place_names line (indexed p i path) t w h =
        names_both locals _ _ (expression_names p _ w.1.1.0 _ _) (names_both locals _ _ (expression_names i _ w.1.1.1.1 _ _) (path_names path _ _ w.1.1.2 (suc (suc h))))

    path_names : (path : Path) (u t : Ty) → LeadsTo program locals path u t → (h : ℕ) → StepsName locals (path_code program locals path h)
    path_names here u t w h = tt
    path_names (field s f rest) u t w h = path_names rest _ _ w.1.1.2 h
    path_names (element s f i rest) u t w h = names_both locals _ _ (expression_names i _ w.1.1.2.1 _ _) (path_names rest _ _ w.1.1.3 (suc h))

  whole_names : (e : Expr) (t : Ty) → HasType program locals e t → StepsName locals (expression_code program locals e (expression_type program locals e) 0)
  whole_names e t w = expression_names e t w (expression_type program locals e) 0

  pub condition_names : (e : Expr) (t : Ty) → HasType program locals e t → StepsName locals (condition_code program locals e)
  condition_names (constant own s n) t w = whole_names (constant own s n) t w
  condition_names (null own) t w = whole_names (null own) t w
  condition_names (string own k) t w = whole_names (string own k) t w
  condition_names (local own x) t w = whole_names (local own x) t w
  condition_names (read own place) t w = whole_names (read own place) t w
  condition_names (address own g) t w = whole_names (address own g) t w
  condition_names (step own d p i) t w = whole_names (step own d p i) t w
  condition_names (step_from own i p) t w = whole_names (step_from own i p) t w
  condition_names (unary own o s e) t w = whole_names (unary own o s e) t w
  condition_names (binary own o s a b) t w = whole_names (binary own o s a b) t w
  condition_names (convert own from to e) t w = whole_names (convert own from to e) t w
  condition_names (not_zero own e) t w = condition_names e _ w.1.1
  condition_names (and own a b) t w = whole_names (and own a b) t w
  condition_names (or own a b) t w = whole_names (or own a b) t w
  condition_names (choose own test a b) t w = whole_names (choose own test a b) t w
  condition_names (is_null own isnull e) t w = whole_names e _ w.2.1.1
  condition_names (same own wanted a b) t w = whole_names (same own wanted a b) t w
  condition_names (call own g es) t w = whole_names (call own g es) t w
  condition_names (new_region own) t w = whole_names (new_region own) t w
  condition_names (new_subregion own r) t w = whole_names (new_subregion own r) t w
  condition_names (region_of own p) t w = whole_names (region_of own p) t w
  condition_names (allocate own r made) t w = whole_names (allocate own r made) t w
  condition_names (allocate_array own r size made) t w = whole_names (allocate_array own r size made) t w
  condition_names (putchar own e) t w = whole_names (putchar own e) t w
  condition_names (getchar own) t w = whole_names (getchar own) t w

  pub evaluate_names : (line : ℕ) (e : Expr) → Runs program locals e → CodeNames locals (evaluate_code program locals line e)
  evaluate_names line (constant own s n) w = whole_names (constant own s n) w.1.0 w.1.1
  evaluate_names line (null own) w = whole_names (null own) w.1.0 w.1.1
  evaluate_names line (string own k) w = whole_names (string own k) w.1.0 w.1.1
  evaluate_names line (local own x) w = whole_names (local own x) w.1.0 w.1.1
  evaluate_names line (read own place) w = whole_names (read own place) w.1.0 w.1.1
  evaluate_names line (address own g) w = whole_names (address own g) w.1.0 w.1.1
  evaluate_names line (step own d p i) w = whole_names (step own d p i) w.1.0 w.1.1
  evaluate_names line (step_from own i p) w = whole_names (step_from own i p) w.1.0 w.1.1
  evaluate_names line (unary own o s e) w = whole_names (unary own o s e) w.1.0 w.1.1
  evaluate_names line (binary own o s a b) w = whole_names (binary own o s a b) w.1.0 w.1.1
  evaluate_names line (convert own from to e) w = whole_names (convert own from to e) w.1.0 w.1.1
  evaluate_names line (not_zero own e) w = whole_names (not_zero own e) w.1.0 w.1.1
  evaluate_names line (and own a b) w = whole_names (and own a b) w.1.0 w.1.1
  evaluate_names line (or own a b) w = whole_names (or own a b) w.1.0 w.1.1
  evaluate_names line (choose own test a b) w = whole_names (choose own test a b) w.1.0 w.1.1
  evaluate_names line (is_null own isnull e) w = whole_names (is_null own isnull e) w.1.0 w.1.1
  evaluate_names line (same own wanted a b) w = whole_names (same own wanted a b) w.1.0 w.1.1
  evaluate_names line (call own g es) w = by (has_result program g)
    where
      by : (b : Bool) → CodeNames locals (one_of b (To.simple (expression_code program locals (call own g es) (expression_type program locals (call own g es)) 0) To.drop) (To.simple (arguments_code program locals es (parameter_types program g) 0) (To.perform own g (argument_types program locals es (parameter_types program g)))))
      by true = names_both locals _ _ (arguments_name es _ w.1.1 _ 0) (tt, tt)
      by false = arguments_name es _ w.1.1 _ 0
  evaluate_names line (new_region own) w = whole_names (new_region own) w.1.0 w.1.1
  evaluate_names line (new_subregion own r) w = whole_names (new_subregion own r) w.1.0 w.1.1
  evaluate_names line (region_of own p) w = whole_names (region_of own p) w.1.0 w.1.1
  evaluate_names line (allocate own r made) w = whole_names (allocate own r made) w.1.0 w.1.1
  evaluate_names line (allocate_array own r size made) w = whole_names (allocate_array own r size made) w.1.0 w.1.1
  evaluate_names line (putchar own e) w = whole_names (putchar own e) w.1.0 w.1.1
  evaluate_names line (getchar own) w = whole_names (getchar own) w.1.0 w.1.1

module _ (program : Program) (f : Function) where
  change_names : (change : Change) (t : Ty) (e : Expr) → Takes program f.locals t change e → (ty : Ty) (h : ℕ) → StepsName f.locals (expression_code program f.locals e ty h)
  change_names (Compute from o s) t e w ty h = expression_names program f.locals e _ w.3.1.1 ty h
  change_names (Stepping direction) t e w ty h = expression_names program f.locals e _ w.1.1 ty h

  mutual
    pub statement_names : (loop : Bool) (s : Stmt) → IsTyped program f loop s → CodeNames f.locals (statement_code program f s)
    statement_names loop (block body) w = body_names loop body w
    statement_names loop (declare line x None) w = tt
    statement_names loop (declare line x (Some e)) w = expression_names program f.locals e _ w.1.1 _ _
    statement_names loop (assign line x e) w = expression_names program f.locals e _ w.1.1 _ _
    statement_names loop (store line place e) w = names_both f.locals _ _ (place_names program f.locals line place _ w.1.0 0) (expression_names program f.locals e _ w.1.2 _ _)
    statement_names loop (update line place change e) w = names_both f.locals _ _ (place_names program f.locals line place _ w.1.0 0) (change_names change _ e w.1.1 _ _)
    statement_names loop (copy line s left right) w = names_both f.locals _ _ (place_names program f.locals line left _ w.0 0) (place_names program f.locals line right _ w.1 _)
    statement_names loop (evaluate line e) w = evaluate_names program f.locals line e w
    statement_names loop (delete line e) w = expression_names program f.locals e _ w _ _
    statement_names loop (branch line test a b) w = (condition_names program f.locals test _ w.0.1.1, statement_names loop a w.1, statement_names loop b w.2)
    statement_names loop (while line test body) w = (condition_names program f.locals test _ w.0.1.1, tt, statement_names true body w.1)
    statement_names loop (repeat line body test) w = (statement_names true body w.0, condition_names program f.locals test _ w.1.1.1)
    statement_names loop (for line first None third body) w = (statement_names loop first w.0, ((tt, statement_names loop third w.2, statement_names true body w.3), tt))
    statement_names loop (for line first (Some test) third body) w = (statement_names loop first w.0, ((condition_names program f.locals test _ w.1.1.1, statement_names loop third w.2, statement_names true body w.3), tt))
    statement_names loop (break line) w = tt
    statement_names loop (continue line) w = tt
    statement_names loop (return line None) w = tt
    statement_names loop (return line (Some e)) w = expression_names program f.locals e _ w.1.1 _ _

    body_names : (loop : Bool) (body : Stmts) → AreTyped program f loop body → CodesName f.locals (body_code program f body)
    body_names loop done w = tt
    body_names loop (then s rest) w = (statement_names loop s w.0, body_names loop rest w.1)
