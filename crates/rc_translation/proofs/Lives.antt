-- The same locals are live in region code as in the source.
use Rattle.std.proofs.Common.{◌≡◌, ℕ, suc, Bool, true, false, ◌||◌, ◌&&◌, List, [], ◌∷◌, Option, Some, None, refl, ap, ◌∙◌}
use Rattle.std.specs.Prelude.{is_some, pos, option_map}
use Rattle.std.proofs.Math.Path.{fun_ext}
use Rattle.rc_core.specs.declared.ty.Signedness.TheVariants.{Signed}
use Rattle.rc_core.specs.declared.operators.UnaryOperator.TheVariants.{Negate, Plus, Complement}
use Rattle.rc_core.specs.Types.{Ty}
use Rattle.rc_core.specs.Typing.{value_type}
use Rattle.rc_core.specs.Programs.{Expr, constant, null, string, local, read, address, step, step_from, unary, binary, convert, not_zero, and, or, choose, is_null, same, call, new_region, new_subregion, region_of, allocate, allocate_array, putchar, getchar, Arguments, none, more, Place, global, pointed, indexed, Path, here, field, element, Stmt, block, declare, assign, store, update, copy, evaluate, delete, branch, while, repeat, for, break, continue, return, Stmts, done, then, Function, Program}
use Rattle.rc_core.specs.Live.{uses, arguments_use, place_uses, path_uses, optional_uses, Ways, before, before_all, then_live, round}
use Rattle.rc_rlang.specs.RegionCode as To
use Rattle.rc_rlang.specs.RegionCode.{Step, Steps, both, one, set, fork, Operation, Test}
use Rattle.rc_rlang.specs.RegionLive.{before_steps, before_code, before_codes, operation_uses}
use Rattle.rc_translation.specs.Translation.{expression_type, has_result, one_of, evaluate_code, argument_types, parameter_types, access, expression_code, arguments_code, place_code, path_code, whole, condition_code, condition_test, optional_condition, statement_code, body_code}
use Rattle.rc_translation.proofs.Temporaries.{before_both}

or_assoc : (a b c : Bool) → (a || (b || c)) ≡ ((a || b) || c)
or_assoc true b c = refl
or_assoc false b c = refl

or_false : (a : Bool) → (a || false) ≡ a
or_false true = refl
or_false false = refl

or_twice : (a b c : Bool) → (a || ((b || c) || c)) ≡ ((a || b) || c)
or_twice true b c = refl
or_twice false true c = refl
or_twice false false true = refl
or_twice false false false = refl

or_both : (a b c d : Bool) → (a || ((b || d) || (c || d))) ≡ ((a || (b || c)) || d)
or_both true b c d = refl
or_both false true c d = refl
or_both false false true true = refl
or_both false false true false = refl
or_both false false false true = refl
or_both false false false false = refl

or_end : (a c : Bool) → (a || (c || c)) ≡ (a || c)
or_end true c = refl
or_end false true = refl
or_end false false = refl

or_first : (a b c : Bool) → (a || (c || (b || c))) ≡ ((a || b) || c)
or_first true b c = refl
or_first false true true = refl
or_first false true false = refl
or_first false false true = refl
or_first false false false = refl

-- the word NULL and constants use nothing, and so the arguments that have no parameter are the only ones left out
module _ (program : Program) (locals : List Ty) where
  pub record UsesOf (steps : Steps) (used : ℕ → Bool) : Type 0 where
    pub is : (live : ℕ → Bool) (x : ℕ) → before_steps steps live x ≡ (used x || live x)

  -- one part behind another
  parts : (a b : Steps) (u v : ℕ → Bool) → UsesOf a u → UsesOf b v → UsesOf (both a b) (λ x. u x || v x)
  parts a b u v ha hb = record { is = λ live x. ap (λ l. l x) (before_both a b live) ∙ ha.is (before_steps b live) x ∙ ap (λ y. u x || y) (hb.is live x) ∙ or_assoc (u x) (v x) (live x) }

  -- an operation that uses no local behind a part
  then_op : (a : Steps) (u : ℕ → Bool) (line h : ℕ) (ty : Ty) (op : Operation) → ((x : ℕ) → operation_uses op x ≡ false) → UsesOf a u → UsesOf (both a (one (set line h ty op))) u
  then_op a u line h ty op quiet ha = record { is = λ live x. ap (λ l. l x) (before_both a (one (set line h ty op)) live) ∙ ha.is (before_steps (one (set line h ty op)) live) x ∙ ap (λ b. u x || (b || live x)) (quiet x) }

  mutual
    pub expression_lives : (e : Expr) (ty : Ty) (h : ℕ) → UsesOf (expression_code program locals e ty h) (uses e)
    expression_lives (constant line s n) ty h = record { is = λ live x. refl }
    expression_lives (null line) ty h = record { is = λ live x. refl }
    expression_lives (string line k) ty h = record { is = λ live x. refl }
    expression_lives (local line y) ty h = record { is = λ live x. refl }
    expression_lives (read line place) ty h = then_op _ (place_uses place) line h ty (To.load (access program locals place)) (λ _. refl) (place_lives line place h)
    expression_lives (address line g) ty h = record { is = λ live x. refl }
    expression_lives (step line direction p i) ty h = parts _ _ (uses p) (uses i) (expression_lives p _ h) (then_op _ (uses i) line h ty (To.step direction _ _) (λ _. refl) (expression_lives i _ (suc h)))
    expression_lives (step_from line i p) ty h = parts _ _ (uses i) (uses p) (expression_lives i _ h) (then_op _ (uses p) line h ty (To.step_from _ _) (λ _. refl) (expression_lives p _ (suc h)))
    expression_lives (unary line Negate s e) ty h = then_op _ (uses e) line h ty (To.unary Negate s) (λ _. refl) (expression_lives e _ h)
    expression_lives (unary line Plus s e) ty h = expression_lives e ty h
    expression_lives (unary line Complement s e) ty h = then_op _ (uses e) line h ty (To.unary Complement s) (λ _. refl) (expression_lives e _ h)
    expression_lives (binary line operator s a b) ty h = parts _ _ (uses a) (uses b) (expression_lives a _ h) (then_op _ (uses b) line h ty (To.binary operator s _) (λ _. refl) (expression_lives b _ (suc h)))
    expression_lives (convert line from to e) ty h = then_op _ (uses e) line h ty (To.convert from to) (λ _. refl) (expression_lives e _ h)
    expression_lives (not_zero line e) ty h = then_op _ (uses e) line h ty (To.not_zero _) (λ _. refl) (expression_lives e _ h)
    expression_lives (and line a b) ty h = record {
      is = λ live x.
          ap (λ l. l x) (before_both (expression_code program locals a (expression_type program locals a) h) (one (fork line h (expression_type program locals a) ty (both (expression_code program locals b (expression_type program locals b) h) (one (set line h ty (To.truth (expression_type program locals b))))) (one (set line h ty (To.constant Signed (pos 0)))))) live)
          ∙ (expression_lives a (expression_type program locals a) h).is _ x
          ∙ ap (λ y. uses a x || (y || live x)) ((then_op (expression_code program locals b (expression_type program locals b) h) (uses b) line h ty (To.truth (expression_type program locals b)) (λ _. refl) (expression_lives b (expression_type program locals b) h)).is live x)
          ∙ or_twice (uses a x) (uses b x) (live x);
    }
    expression_lives (or line a b) ty h = record {
      is = λ live x.
          ap (λ l. l x) (before_both (expression_code program locals a (expression_type program locals a) h) (one (fork line h (expression_type program locals a) ty (one (set line h ty (To.constant Signed (pos 1)))) (both (expression_code program locals b (expression_type program locals b) h) (one (set line h ty (To.truth (expression_type program locals b))))))) live)
          ∙ (expression_lives a (expression_type program locals a) h).is _ x
          ∙ ap (λ y. uses a x || (live x || y)) ((then_op (expression_code program locals b (expression_type program locals b) h) (uses b) line h ty (To.truth (expression_type program locals b)) (λ _. refl) (expression_lives b (expression_type program locals b) h)).is live x)
          ∙ or_first (uses a x) (uses b x) (live x);
    }
    expression_lives (choose line test a b) ty h = record {
      is = λ live x.
          ap (λ l. l x) (before_both (expression_code program locals test (expression_type program locals test) h) (one (fork line h (expression_type program locals test) ty (expression_code program locals a ty h) (expression_code program locals b ty h))) live)
          ∙ (expression_lives test (expression_type program locals test) h).is _ x
          ∙ ap (λ y. uses test x || (y || before_steps (expression_code program locals b ty h) live x)) ((expression_lives a ty h).is live x)
          ∙ ap (λ y. uses test x || ((uses a x || live x) || y)) ((expression_lives b ty h).is live x)
          ∙ or_both (uses test x) (uses a x) (uses b x) (live x);
    }
    expression_lives (is_null line wanted e) ty h = then_op _ (uses e) line h ty (To.is_null wanted _) (λ _. refl) (expression_lives e _ h)
    expression_lives (same line wanted a b) ty h = parts _ _ (uses a) (uses b) (expression_lives a _ h) (then_op _ (uses b) line h ty (To.same wanted _) (λ _. refl) (expression_lives b _ (suc h)))
    expression_lives (call line f es) ty h = then_op _ (arguments_use es) line h ty (To.call f (argument_types program locals es (parameter_types program f))) (λ _. refl) (arguments_live es (parameter_types program f) h)
    expression_lives (new_region line) ty h = record { is = λ live x. refl }
    expression_lives (new_subregion line r) ty h = then_op _ (uses r) line h ty To.new_subregion (λ _. refl) (expression_lives r _ h)
    expression_lives (region_of line p) ty h = then_op _ (uses p) line h ty (To.region_of _) (λ _. refl) (expression_lives p _ h)
    expression_lives (allocate line r made) ty h = then_op _ (uses r) line h ty (To.allocate made _) (λ _. refl) (expression_lives r _ h)
    expression_lives (allocate_array line r n made) ty h = parts _ _ (uses r) (uses n) (expression_lives r _ h) (then_op _ (uses n) line h ty (To.allocate_array made _) (λ _. refl) (expression_lives n _ (suc h)))
    expression_lives (putchar line e) ty h = then_op _ (uses e) line h ty To.putchar (λ _. refl) (expression_lives e _ h)
    expression_lives (getchar line) ty h = record { is = λ live x. refl }

    pub arguments_live : (es : Arguments) (tys : List Ty) (h : ℕ) → UsesOf (arguments_code program locals es tys h) (arguments_use es)
    arguments_live none tys h = record { is = λ live x. refl }
    arguments_live (more e es) [] h = parts _ _ (uses e) (arguments_use es) (expression_lives e _ h) (arguments_live es [] (suc h))
    arguments_live (more e es) (ty ∷ tys) h = parts _ _ (uses e) (arguments_use es) (expression_lives e (value_type ty) h) (arguments_live es tys (suc h))

    pub place_lives : (line : ℕ) (place : Place) (h : ℕ) → UsesOf (place_code program locals line place h) (place_uses place)
    place_lives line (global g path) h = record { is = (path_lives path (suc h)).is }
    place_lives line (pointed p path) h = parts _ _ (uses p) (path_uses path) (expression_lives p _ h) (path_lives path (suc h))
    place_lives line (indexed p i path) h = parts _ _ (uses p) (λ x. uses i x || path_uses path x) (expression_lives p _ h) (parts _ _ (uses i) (path_uses path) (expression_lives i _ (suc h)) (path_lives path (suc (suc h))))

    path_lives : (path : Path) (h : ℕ) → UsesOf (path_code program locals path h) (path_uses path)
    path_lives here h = record { is = λ live x. refl }
    path_lives (field s f rest) h = path_lives rest h
    path_lives (element s f i rest) h = parts _ _ (uses i) (path_uses rest) (expression_lives i _ h) (path_lives rest (suc h))

  pub condition_lives : (e : Expr) → UsesOf (condition_code program locals e) (uses e)
  condition_lives (not_zero line e) = record { is = (condition_lives e).is }
  condition_lives (is_null line wanted e) = record { is = (expression_lives e (expression_type program locals e) 0).is }
  condition_lives (constant line s n) = expression_lives (constant line s n) _ 0
  condition_lives (null line) = expression_lives (null line) _ 0
  condition_lives (string line k) = expression_lives (string line k) _ 0
  condition_lives (local line x) = expression_lives (local line x) _ 0
  condition_lives (read line place) = expression_lives (read line place) _ 0
  condition_lives (address line g) = expression_lives (address line g) _ 0
  condition_lives (step line d p i) = expression_lives (step line d p i) _ 0
  condition_lives (step_from line i p) = expression_lives (step_from line i p) _ 0
  condition_lives (unary line o s e) = expression_lives (unary line o s e) _ 0
  condition_lives (binary line o s a b) = expression_lives (binary line o s a b) _ 0
  condition_lives (convert line from to e) = expression_lives (convert line from to e) _ 0
  condition_lives (and line a b) = expression_lives (and line a b) _ 0
  condition_lives (or line a b) = expression_lives (or line a b) _ 0
  condition_lives (choose line t a b) = expression_lives (choose line t a b) _ 0
  condition_lives (same line wanted a b) = expression_lives (same line wanted a b) _ 0
  condition_lives (call line f es) = expression_lives (call line f es) _ 0
  condition_lives (new_region line) = expression_lives (new_region line) _ 0
  condition_lives (new_subregion line r) = expression_lives (new_subregion line r) _ 0
  condition_lives (region_of line p) = expression_lives (region_of line p) _ 0
  condition_lives (allocate line r u) = expression_lives (allocate line r u) _ 0
  condition_lives (allocate_array line r n u) = expression_lives (allocate_array line r n u) _ 0
  condition_lives (putchar line e) = expression_lives (putchar line e) _ 0
  condition_lives (getchar line) = expression_lives (getchar line) _ 0

module _ (program : Program) (f : Function) where
  evaluate_lives : (line : ℕ) (e : Expr) (k : Ways) (x : ℕ) → before_code (evaluate_code program f.locals line e) k x ≡ (uses e x || k.next x)
  evaluate_lives line (call own g es) k x = by (has_result program g)
    where
      by : (b : Bool) → before_code (one_of b (To.simple (whole program f.locals (call own g es)) To.drop) (To.simple (arguments_code program f.locals es (parameter_types program g) 0) (To.perform own g (argument_types program f.locals es (parameter_types program g))))) k x ≡ (arguments_use es x || k.next x)
      by true = (expression_lives program f.locals (call own g es) (expression_type program f.locals (call own g es)) 0).is k.next x
      by false = (arguments_live program f.locals es (parameter_types program g) 0).is k.next x
  evaluate_lives line (constant line' s n) k x = (expression_lives program f.locals (constant line' s n) (expression_type program f.locals (constant line' s n)) 0).is k.next x
  evaluate_lives line (null line') k x = (expression_lives program f.locals (null line') (expression_type program f.locals (null line')) 0).is k.next x
  evaluate_lives line (string line' k0) k x = (expression_lives program f.locals (string line' k0) (expression_type program f.locals (string line' k0)) 0).is k.next x
  evaluate_lives line (local line' x0) k x = (expression_lives program f.locals (local line' x0) (expression_type program f.locals (local line' x0)) 0).is k.next x
  evaluate_lives line (read line' place) k x = (expression_lives program f.locals (read line' place) (expression_type program f.locals (read line' place)) 0).is k.next x
  evaluate_lives line (address line' g) k x = (expression_lives program f.locals (address line' g) (expression_type program f.locals (address line' g)) 0).is k.next x
  evaluate_lives line (step line' d p i) k x = (expression_lives program f.locals (step line' d p i) (expression_type program f.locals (step line' d p i)) 0).is k.next x
  evaluate_lives line (step_from line' i p) k x = (expression_lives program f.locals (step_from line' i p) (expression_type program f.locals (step_from line' i p)) 0).is k.next x
  evaluate_lives line (unary line' o s e) k x = (expression_lives program f.locals (unary line' o s e) (expression_type program f.locals (unary line' o s e)) 0).is k.next x
  evaluate_lives line (binary line' o s a b) k x = (expression_lives program f.locals (binary line' o s a b) (expression_type program f.locals (binary line' o s a b)) 0).is k.next x
  evaluate_lives line (convert line' from to e) k x = (expression_lives program f.locals (convert line' from to e) (expression_type program f.locals (convert line' from to e)) 0).is k.next x
  evaluate_lives line (not_zero line' e) k x = (expression_lives program f.locals (not_zero line' e) (expression_type program f.locals (not_zero line' e)) 0).is k.next x
  evaluate_lives line (and line' a b) k x = (expression_lives program f.locals (and line' a b) (expression_type program f.locals (and line' a b)) 0).is k.next x
  evaluate_lives line (or line' a b) k x = (expression_lives program f.locals (or line' a b) (expression_type program f.locals (or line' a b)) 0).is k.next x
  evaluate_lives line (choose line' test a b) k x = (expression_lives program f.locals (choose line' test a b) (expression_type program f.locals (choose line' test a b)) 0).is k.next x
  evaluate_lives line (is_null line' wanted e) k x = (expression_lives program f.locals (is_null line' wanted e) (expression_type program f.locals (is_null line' wanted e)) 0).is k.next x
  evaluate_lives line (same line' wanted a b) k x = (expression_lives program f.locals (same line' wanted a b) (expression_type program f.locals (same line' wanted a b)) 0).is k.next x
  evaluate_lives line (new_region line') k x = (expression_lives program f.locals (new_region line') (expression_type program f.locals (new_region line')) 0).is k.next x
  evaluate_lives line (new_subregion line' r) k x = (expression_lives program f.locals (new_subregion line' r) (expression_type program f.locals (new_subregion line' r)) 0).is k.next x
  evaluate_lives line (region_of line' p) k x = (expression_lives program f.locals (region_of line' p) (expression_type program f.locals (region_of line' p)) 0).is k.next x
  evaluate_lives line (allocate line' r made) k x = (expression_lives program f.locals (allocate line' r made) (expression_type program f.locals (allocate line' r made)) 0).is k.next x
  evaluate_lives line (allocate_array line' r n made) k x = (expression_lives program f.locals (allocate_array line' r n made) (expression_type program f.locals (allocate_array line' r n made)) 0).is k.next x
  evaluate_lives line (putchar line' e) k x = (expression_lives program f.locals (putchar line' e) (expression_type program f.locals (putchar line' e)) 0).is k.next x
  evaluate_lives line (getchar line') k x = (expression_lives program f.locals (getchar line') (expression_type program f.locals (getchar line')) 0).is k.next x

  -- pieces
  act_lives : (a b : Steps) (u v : ℕ → Bool) (live : ℕ → Bool) (x : ℕ) → UsesOf program f.locals a u → UsesOf program f.locals b v → before_steps (both a b) live x ≡ (u x || (v x || live x))
  act_lives a b u v live x ha hb = ap (λ l. l x) (before_both a b live) ∙ ha.is (before_steps b live) x ∙ ap (λ y. u x || y) (hb.is live x)

  optional_lives : (test : Option Expr) → UsesOf program f.locals (optional_condition program f.locals test) (optional_uses test)
  optional_lives None = record { is = λ live x. refl }
  optional_lives (Some e) = condition_lives program f.locals e

  is_some_same : (line : ℕ) (test : Option Expr) → is_some (option_map (condition_test program f.locals line true) test) ≡ is_some test
  is_some_same line None = refl
  is_some_same line (Some e) = refl

  mutual
    pub statement_lives : (s : Stmt) (k : Ways) (x : ℕ) → before_code (statement_code program f s) k x ≡ before s k x
    statement_lives (block body) k x = body_lives body k x
    statement_lives (declare line y None) k x = refl
    statement_lives (declare line y (Some e)) k x = (expression_lives program f.locals e _ 0).is _ x
    statement_lives (assign line y e) k x = (expression_lives program f.locals e _ 0).is _ x
    statement_lives (store line place e) k x = act_lives _ _ (place_uses place) (uses e) k.next x (place_lives program f.locals line place 0) (expression_lives program f.locals e _ _)
    statement_lives (update line place change e) k x = act_lives _ _ (place_uses place) (uses e) k.next x (place_lives program f.locals line place 0) (expression_lives program f.locals e _ _)
    statement_lives (copy line s left right) k x = act_lives _ _ (place_uses left) (place_uses right) k.next x (place_lives program f.locals line left 0) (place_lives program f.locals line right _)
    statement_lives (evaluate line e) k x = evaluate_lives line e k x
    statement_lives (delete line e) k x = (expression_lives program f.locals e _ 0).is _ x
    statement_lives (branch line test a b) k x =
        (condition_lives program f.locals test).is _ x
        ∙ ap (λ v. uses test x || (v || before_code (statement_code program f b) k x)) (statement_lives a k x)
        ∙ ap (λ v. uses test x || (before a k x || v)) (statement_lives b k x)
    statement_lives (while line test a) k x =
        (condition_lives program f.locals test).is _ x
        ∙ ap (λ v. uses test x || (k.next x || v)) (statement_lives a (round (λ _. false) k) x)
    statement_lives (repeat line a test) k x =
        statement_lives a (round (before_steps (condition_code program f.locals test) k.next) k) x
        ∙ ap (λ l. before a (round l k) x) (fun_ext (λ y. (condition_lives program f.locals test).is k.next y))
    statement_lives (for line first test third a) k x =
        statement_lives first (then_live _ k) x
        ∙ ap (λ l. before first (then_live l k) x) (fun_ext (λ y.
        (optional_lives test).is _ y
        ∙ ap (λ b. optional_uses test y || ((b && k.next y) || before_code (statement_code program f a) (round (before_code (statement_code program f third) (then_live (λ _. false) k)) k) y)) (is_some_same line test)
        ∙ ap (λ v. optional_uses test y || ((is_some test && k.next y) || v)) (statement_lives a _ y ∙ ap (λ l. before a (round l k) y) (fun_ext (λ z. statement_lives third (then_live (λ _. false) k) z)))))
    statement_lives (break line) k x = refl
    statement_lives (continue line) k x = refl
    statement_lives (return line None) k x = refl
    statement_lives (return line (Some e)) k x = (expression_lives program f.locals e _ 0).is (λ _. false) x ∙ or_false (uses e x)

    body_lives : (body : Stmts) (k : Ways) (x : ℕ) → before_codes (body_code program f body) k x ≡ before_all body k x
    body_lives done k x = refl
    body_lives (then s rest) k x = statement_lives s _ x ∙ ap (λ l. before s (then_live l k) x) (fun_ext (λ y. body_lives rest k y))

  pub all_live : (s : Stmt) (k : Ways) → before_code (statement_code program f s) k ≡ before s k
  all_live s k = fun_ext (λ x. statement_lives s k x)

  pub body_all_live : (body : Stmts) (k : Ways) → before_codes (body_code program f body) k ≡ before_all body k
  body_all_live body k = fun_ext (λ x. body_lives body k x)
