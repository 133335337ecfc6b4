-- A statement's code does what the statement does.
use Rattle.std.proofs.Common.{◌≡◌, ℕ, zero, suc, ◌+◌, Bool, true, false, ◌||◌, ◌&&◌, List, Option, Some, None, refl, sym, ap, ◌∙◌, subst, arith, inr}
use Rattle.std.specs.Prelude.{slice_get, is_some, option_map}
use Rattle.std.proofs.Math.Path.{fun_ext}
use Rattle.rc_core.specs.declared.stmt.Change.{Change}
use Rattle.rc_core.specs.Types.{Ty, int, region}
use Rattle.rc_core.specs.Layout.{offset}
use Rattle.rc_core.specs.Heap.{Value}
use Rattle.rc_core.specs.Programs.{Expr, constant, null, string, local, read, address, step, step_from, unary, binary, convert, not_zero, and, or, choose, is_null, same, new_region, new_subregion, region_of, allocate, allocate_array, putchar, getchar, call, Arguments, Place, global, pointed, indexed, here, field, element, Stmt, block, declare, assign, store, update, copy, evaluate, delete, branch, while, repeat, for, break, continue, return, Stmts, done, then, Function, Program}
use Rattle.rc_core.specs.Live.{Ways, before, before_all, then_live, round, unless_set, either, while_head, while_body, repeat_test, repeat_body, repeat_head, for_head, for_third, for_body}
use Rattle.rc_core.specs.Runs.{Run, Go, Stopped, bind, branching, Target, Calls, Ops}
use Rattle.rc_core.specs.Evaluation.{is_true, eval, eval_all, target}
use Rattle.rc_core.specs.Execution.{Flow, Next, Broke, Continued, Returned, with_local, held, local_type, deletes, calling, value_of, set_local, behind, behind_body, rounds, rounds_first, test_of, exec, exec_all}
use Rattle.rc_core.specs.Typing.{HasType, AreArguments, IsPlace, value_type, IsTyped, AreTyped, IsValue, Runs}
use Rattle.rc_core.specs.Deletes.{IsQuiet, IsQuietInside, IsQuietPlace, IsPlaced, ArePlaced}
use Rattle.rc_core.specs.Laws.{IfGoes}
use Rattle.rc_rlang.specs.RegionCode as To
use Rattle.rc_rlang.specs.RegionCode.{Steps, both, one, Act, Code, Codes, Test, width, Access, kind_of}
use Rattle.rc_rlang.specs.RegionRuns as R
use Rattle.rc_rlang.specs.RegionRuns.{Way, Temporaries, pins_from, pinned, temporary, at_kind, kept, target_at, steps_run, act_run, code_run, codes_run, test_value, if_wanted}
use Rattle.rc_rlang.specs.RegionLive.{before_steps, before_act, before_code, loop_head, repeat_tail}
use Rattle.rc_translation.specs.Translation.{expression_type, has_result, one_of, evaluate_code, argument_types, arguments_code, parameter_types, access, path_access, expression_code, place_code, whole, condition_code, condition_test, optional_condition, statement_code, body_code, returned_type}
use Rattle.rc_translation.proofs.Sames.{Same, same_bind, same_with, same_self, bind_bind}
use Rattle.rc_translation.proofs.Temporaries.{Lower, target_lower, run_both}
use Rattle.rc_translation.proofs.ValueKinds.{Suits, AllSuit, kept_same, kind_value}
use Rattle.rc_translation.proofs.Lives.{all_live, body_all_live, statement_lives, condition_lives}
use Rattle.rc_translation.proofs.Holding.{Kinded, held_is}
use Rattle.rc_translation.proofs.TypesFound.{place_is}
use Rattle.std.proofs.lemmas.Option.{get_or_from_slice_get}
use Rattle.rc_translation.proofs.Expressions.{Stored, expression_does, inside_does, call_does, performs, condition_does, place_does}

abbrev pub Meets : {W : Type 0} → Flow → Way → W → Type 0
Meets (Next env) (R.Next env1 t) w = env ≡ env1
Meets (Next env) (R.Broke env1 t) w = ⊥
Meets (Next env) (R.Continued env1 t) w = ⊥
Meets (Next env) (R.Returned v) w = ⊥
Meets (Broke env) (R.Next env1 t) w = ⊥
Meets (Broke env) (R.Broke env1 t) w = env ≡ env1
Meets (Broke env) (R.Continued env1 t) w = ⊥
Meets (Broke env) (R.Returned v) w = ⊥
Meets (Continued env) (R.Next env1 t) w = ⊥
Meets (Continued env) (R.Broke env1 t) w = ⊥
Meets (Continued env) (R.Continued env1 t) w = env ≡ env1
Meets (Continued env) (R.Returned v) w = ⊥
Meets (Returned v) (R.Next env1 t) w = ⊥
Meets (Returned v) (R.Broke env1 t) w = ⊥
Meets (Returned v) (R.Continued env1 t) w = ⊥
Meets (Returned v) (R.Returned u) w = v ≡ u

abbrev pub Fine : {W : Type 0} → (List Value → W → Type 0) → Flow → W → Type 0
Fine Good (Next env) w = Good env w
Fine Good (Broke env) w = Good env w
Fine Good (Continued env) w = Good env w
Fine Good (Returned v) w = Unit {0}

abbrev pub Equal : {A W : Type 0} → A → A → W → Type 0
Equal x y w = x ≡ y

-- what is known of the source's runs: values suit their types, and what is good stays so
pub record Sound {W : Type 0} (ops : Ops W) (program : Program) (f : Function) (calls : Calls W) (Known : List Ty → List Value → W → Type 0) (Good : List Value → W → Type 0) : Type 0 where
  pub arguments : (live : ℕ → Bool) (env : List Value) (es : Arguments) (tys : List Ty) (w : W) → AreArguments program f.locals es tys → Good env w → IfGoes (λ vs w1. Good env w1 × Known tys vs w1 × Known tys vs (ops.enter (held live env) w1)) (eval_all ops program es (calling ops program calls live env) env w)
  pub value : (live : ℕ → Bool) (e : Expr) (t : Ty) (env : List Value) (w : W) → HasType program f.locals e t → Good env w → IfGoes (λ v w1. Good env w1 × Suits t v) (value_of ops program calls live e env w)
  pub flow : (loop : Bool) (s : Stmt) (k : Ways) (env : List Value) (w : W) → IsTyped program f loop s → Good env w → IfGoes (Fine Good) (exec ops program s f calls k env w)
  pub turn : (env : List Value) (w : W) → Good env w → IfGoes (λ _ w1. Good env w1) (ops.take_turn w)
  pub kinded : (env : List Value) (w : W) → Good env w → Kinded f.locals env

module _ {W : Type 0} (E : W → W → Type 0) (here_too : (w : W) → E w w) (ops : Ops W) (program : Program) (f : Function)
    (calls calls' : Calls W) (Known : List Ty → List Value → W → Type 0) (called : (g : ℕ) (xs : List Value) (w : W) → AllSuit (parameter_types program g) xs → Known (parameter_types program g) xs w → Same E Equal (calls g xs w) (calls' g xs w))
    (Good : List Value → W → Type 0) (sound : Sound ops program f calls Known Good) where
  abbrev locals : List Ty
  locals = f.locals

  abbrev run : Steps → (ℕ → Bool) → List Value → Temporaries → W → Run W Temporaries
  run steps live env t w = steps_run ops (deletes program) locals steps calls' live env t w

  abbrev does : Code → Ways → List Value → Temporaries → W → Run W Way
  does c k env t w = code_run ops (deletes program) locals c calls' k env t w

  -- of statements and their code, both with locals
  abbrev Met : Run W Flow → Run W Way → Type 0
  Met m m' = Same E Meets m m'

  abbrev GoOn : (List Value → W → Run W Flow) → (List Value → Temporaries → W → Run W Way) → Type 0
  GoOn go go' = (env : List Value) (t : Temporaries) (w : W) → Good env w → Met (go env w) (go' env t w)

  known : (live : ℕ → Bool) (env : List Value) (e : Expr) (t : Ty) (w : W) → HasType program locals e t → Good env w → IfGoes (λ v w1. Good env w1 × Suits t v) (eval ops program e (calling ops program calls live env) env w)
  known live env e t w he good = sound.value live e t env w he good

  -- what a deletion holds
  holding : (live : ℕ → Bool) (env : List Value) (w : W) → Good env w → pinned (pins_from locals 0 live) env ≡ held live env
  holding live env w good = sym (held_is f.locals env live (sound.kinded env w good))

  -- a whole value first
  value_first : (live : ℕ → Bool) (e : Expr) (u ty : Ty) (env : List Value) (t : Temporaries) (w : W) (k : Value → W → Run W Flow) (l : Temporaries → W → Run W Way) → HasType program locals e u → IsQuietInside program e → Good env w →
      ((v : Value) (t1 : Temporaries) (w1 : W) → temporary ty t1 0 ≡ v → Good env w1 → Suits u v → Met (k v w1) (l t1 w1)) → Met (bind (value_of ops program calls live e env w) k) (bind (run (expression_code program locals e ty 0) live env t w) l)
  value_first live e u ty env t w k l he q good c =
      same_bind E (λ v t1 w1. Stored ty 0 t v t1 × (Good env w1 × Suits u v)) Meets (value_of ops program calls live e env w) (run (expression_code program locals e ty 0) live env t w) k l
      (same_with E (λ v t1 w1. Stored ty 0 t v t1) (λ v w1. Good env w1 × Suits u v) (value_of ops program calls live e env w) (run (expression_code program locals e ty 0) live env t w) (sound.value live e u env w he good)
      (inside_does E here_too ops program locals calls calls' Known called (Good env) env live (sound.arguments live env) (known live env) (holding live env w good) e u he q ty 0 t w good))
      (λ v t1 w1 p. c v t1 w1 p.0.value p.1.0 p.1.1)

  condition_first : (live : ℕ → Bool) (line : ℕ) (e : Expr) (env : List Value) (t : Temporaries) (w : W) (k : Value → W → Run W Flow) (l : Temporaries → W → Run W Way) → IsValue program locals e → IsQuietInside program e → Good env w →
      ((v : Value) (t1 : Temporaries) (w1 : W) → test_value (Some (condition_test program locals line true e)) t1 ≡ is_true v → Good env w1 → Met (k v w1) (l t1 w1)) → Met (bind (value_of ops program calls live e env w) k) (bind (run (condition_code program locals e) live env t w) l)
  condition_first live line e env t w k l hv q good c =
      same_bind E (λ v t1 w1. (test_value (Some (condition_test program locals line true e)) t1 ≡ is_true v) × Good env w1) Meets (value_of ops program calls live e env w) (run (condition_code program locals e) live env t w) k l
      (condition_does E here_too ops program locals calls calls' Known called (Good env) env live (sound.arguments live env) (known live env) (holding live env w good) e hv.1.0 line true hv.0 hv.1.1 q t w good)
      (λ v t1 w1 p. c v t1 w1 p.0 p.1)

  branching_meets : (b c : Bool) (m n : W → Run W Flow) (m' n' : W → Run W Way) (w : W) → c ≡ b → Met (m w) (m' w) → Met (n w) (n' w) → Met (branching b m n w) (branching c m' n' w)
  branching_meets b c m n m' n' w e hm hn = subst (λ x. Met (branching b m n w) (branching x m' n' w)) (sym e) (by b)
    where
      by : (b : Bool) → Met (branching b m n w) (branching b m' n' w)
      by true = hm
      by false = hn

  behind_meets : (go : List Value → W → Run W Flow) (go' : List Value → Temporaries → W → Run W Way) → GoOn go go' → (x : Flow) (y : Way) (w : W) → Meets x y w × Fine Good x w → Met (behind go x w) (R.behind go' y w)
  behind_meets go go' h (Next env) (R.Next env1 t) w p = subst (λ e. Met (go env w) (go' e t w)) p.0 (h env t w p.1)
  behind_meets go go' h (Broke env) (R.Broke env1 t) w p = (refl, p.0)
  behind_meets go go' h (Continued env) (R.Continued env1 t) w p = (refl, p.0)
  behind_meets go go' h (Returned v) (R.Returned u) w p = (refl, p.0)
  behind_meets go go' h (Next env) (R.Broke env1 t) w p = absurd p.0
  behind_meets go go' h (Next env) (R.Continued env1 t) w p = absurd p.0
  behind_meets go go' h (Next env) (R.Returned u) w p = absurd p.0
  behind_meets go go' h (Broke env) (R.Next env1 t) w p = absurd p.0
  behind_meets go go' h (Broke env) (R.Continued env1 t) w p = absurd p.0
  behind_meets go go' h (Broke env) (R.Returned u) w p = absurd p.0
  behind_meets go go' h (Continued env) (R.Next env1 t) w p = absurd p.0
  behind_meets go go' h (Continued env) (R.Broke env1 t) w p = absurd p.0
  behind_meets go go' h (Continued env) (R.Returned u) w p = absurd p.0
  behind_meets go go' h (Returned v) (R.Next env1 t) w p = absurd p.0
  behind_meets go go' h (Returned v) (R.Broke env1 t) w p = absurd p.0
  behind_meets go go' h (Returned v) (R.Continued env1 t) w p = absurd p.0

  round_meets : (go : List Value → W → Run W Flow) (go' : List Value → Temporaries → W → Run W Way) → GoOn go go' → (x : Flow) (y : Way) (w : W) → Meets x y w × Fine Good x w → Met (behind_body go x w) (R.behind_body go' y w)
  round_meets go go' h (Next env) (R.Next env1 t) w p = subst (λ e. Met (go env w) (go' e t w)) p.0 (h env t w p.1)
  round_meets go go' h (Continued env) (R.Continued env1 t) w p = subst (λ e. Met (go env w) (go' e t w)) p.0 (h env t w p.1)
  round_meets go go' h (Broke env) (R.Broke env1 t) w p = (refl, p.0)
  round_meets go go' h (Returned v) (R.Returned u) w p = (refl, p.0)
  round_meets go go' h (Next env) (R.Broke env1 t) w p = absurd p.0
  round_meets go go' h (Next env) (R.Continued env1 t) w p = absurd p.0
  round_meets go go' h (Next env) (R.Returned u) w p = absurd p.0
  round_meets go go' h (Broke env) (R.Next env1 t) w p = absurd p.0
  round_meets go go' h (Broke env) (R.Continued env1 t) w p = absurd p.0
  round_meets go go' h (Broke env) (R.Returned u) w p = absurd p.0
  round_meets go go' h (Continued env) (R.Next env1 t) w p = absurd p.0
  round_meets go go' h (Continued env) (R.Broke env1 t) w p = absurd p.0
  round_meets go go' h (Continued env) (R.Returned u) w p = absurd p.0
  round_meets go go' h (Returned v) (R.Next env1 t) w p = absurd p.0
  round_meets go go' h (Returned v) (R.Broke env1 t) w p = absurd p.0
  round_meets go go' h (Returned v) (R.Continued env1 t) w p = absurd p.0

  same_refl : {A : Type 0} (m : Run W A) → Same E Equal m m
  same_refl (Go x w) = (refl, refl)
  same_refl (Stopped s w) = inr (refl, here_too w)

  abbrev Heads : (List Value → W → Run W Value) → (List Value → Temporaries → W → Run W Temporaries) → Option Test → Type 0
  Heads test head at_branch = (env : List Value) (t : Temporaries) (w : W) → Good env w → Same E (λ v t1 w1. (test_value at_branch t1 ≡ is_true v) × Good env w1) (test env w) (head env t w)

  abbrev Bodies : ((List Value → W → Run W Flow) → List Value → W → Run W Flow) → ((List Value → Temporaries → W → Run W Way) → List Value → Temporaries → W → Run W Way) → Type 0
  Bodies body body' = (go : List Value → W → Run W Flow) (go' : List Value → Temporaries → W → Run W Way) → GoOn go go' → GoOn (body go) (body' go')

  turn_meets : (go : List Value → W → Run W Flow) (go' : List Value → Temporaries → W → Run W Way) → GoOn go go' → GoOn (λ env w. bind (ops.take_turn w) (λ _ w1. go env w1)) (λ env t w. bind (ops.take_turn w) (λ _ w1. go' env t w1))
  turn_meets go go' h env t w good =
      same_bind E (λ x y w1. (x ≡ y) × Good env w1) Meets (ops.take_turn w) (ops.take_turn w) _ _ (same_with E Equal (λ _ w1. Good env w1) (ops.take_turn w) (ops.take_turn w) (sound.turn env w good) (same_refl (ops.take_turn w))) (λ x y w1 p. h env t w1 p.1)

  module _ (test : List Value → W → Run W Value) (head : List Value → Temporaries → W → Run W Temporaries) (at_branch : Option Test) (ht : Heads test head at_branch)
      (body : (List Value → W → Run W Flow) → List Value → W → Run W Flow) (body' : (List Value → Temporaries → W → Run W Way) → List Value → Temporaries → W → Run W Way) (hb : Bodies body body') where
    rounds_meet : (n : ℕ) → GoOn (rounds ops program n test body) (R.rounds ops (deletes program) locals n head at_branch body')
    rounds_meet zero env t w good = inr (refl, here_too w)
    rounds_meet (suc n) env t w good =
        same_bind E (λ v t1 w1. (test_value at_branch t1 ≡ is_true v) × Good env w1) Meets (test env w) (head env t w) _ _ (ht env t w good) (λ v t1 w1 p.
        branching_meets (is_true v) (test_value at_branch t1) _ _ _ _ w1 p.0
        (hb (λ env1 w2. bind (ops.take_turn w2) (λ _ w3. rounds ops program n test body env1 w3)) (λ env1 t2 w2. bind (ops.take_turn w2) (λ _ w3. R.rounds ops (deletes program) locals n head at_branch body' env1 t2 w3)) (turn_meets (rounds ops program n test body) (R.rounds ops (deletes program) locals n head at_branch body') (rounds_meet n)) env t1 w1 p.1)
        (refl, refl))

    rounds_first_meet : (n : ℕ) → GoOn (rounds_first ops program n test body) (R.rounds_first ops (deletes program) locals n head at_branch body')
    rounds_first_meet zero env t w good = inr (refl, here_too w)
    rounds_first_meet (suc n) env t w good =
        hb (λ env1 w1. bind (test env1 w1) (λ v. branching (is_true v) (λ w2. bind (ops.take_turn w2) (λ _ w3. rounds_first ops program n test body env1 w3)) (Go (Next env1))))
        (λ env1 t1 w1. bind (head env1 t1 w1) (λ t2. branching (test_value at_branch t2) (λ w2. bind (ops.take_turn w2) (λ _ w3. R.rounds_first ops (deletes program) locals n head at_branch body' env1 t2 w3)) (Go (R.Next env1 t2))))
        (λ env1 t1 w1 g1.
        same_bind E (λ v t2 w2. (test_value at_branch t2 ≡ is_true v) × Good env1 w2) Meets (test env1 w1) (head env1 t1 w1) _ _ (ht env1 t1 w1 g1) (λ v t2 w2 p.
        branching_meets (is_true v) (test_value at_branch t2) _ _ _ _ w2 p.0
        (turn_meets (rounds_first ops program n test body) (R.rounds_first ops (deletes program) locals n head at_branch body') (rounds_first_meet n) env1 t2 w2 p.1)
        (refl, refl)))
        env t w good

  path_cell : (path : _) (a : Access) → (path_access program locals path a).cell ≡ a.cell
  path_cell here a = refl
  path_cell (field s g rest) a = path_cell rest (record a { offset = a.offset + offset program.structs s g })
  path_cell (element s g i rest) a = path_cell rest _

  pub access_cell : (place : Place) (t : Ty) → IsPlace program locals place t → (access program locals place).cell ≡ t
  access_cell (global g path) t hp = path_cell path _ ∙ place_is program locals (global g path) t hp
  access_cell (pointed p path) t hp = path_cell path _ ∙ place_is program locals (pointed p path) t hp
  access_cell (indexed p i path) t hp = path_cell path _ ∙ place_is program locals (indexed p i path) t hp

  -- a place first, a value behind it, and then what reads both
  place_value_first : (line : ℕ) (place : Place) (pt : Ty) (e : Expr) (u ty : Ty) (live live1 : ℕ → Bool) (env : List Value) (t : Temporaries) (w : W) (k : Target → Value → W → Run W Flow) (l : Temporaries → W → Run W Way) → IsPlace program locals place pt → HasType program locals e u → IsQuietPlace program place → IsQuiet program e → Good env w →
      ((tg : Target) (v : Value) (t1 : Temporaries) (w1 : W) → target_at (access program locals place) t1 0 ≡ tg → temporary ty t1 (width (access program locals place)) ≡ v → Good env w1 → Suits u v → Met (k tg v w1) (l t1 w1)) →
      Met (bind (target ops program place (calling ops program calls live env) env w) (λ tg w1. bind (value_of ops program calls live e env w1) (λ v w2. k tg v w2)))
      (bind (run (both (place_code program locals line place 0) (expression_code program locals e ty (width (access program locals place)))) live1 env t w) l)
  place_value_first line place pt e u ty live live1 env t w k l hp he qp q good c =
      let a = access program locals place in
      let n = width a in
      subst (λ m. Met (bind (target ops program place (calling ops program calls live env) env w) (λ tg w1. bind (value_of ops program calls live e env w1) (λ v w2. k tg v w2))) m)
      (sym (ap (λ m. bind m l) (run_both ops (deletes program) locals (place_code program locals line place 0) (expression_code program locals e ty n) calls' live1 env t w) ∙ bind_bind (run (place_code program locals line place 0) (before_steps (expression_code program locals e ty n) live1) env t w) (λ t1 w1. run (expression_code program locals e ty n) live1 env t1 w1) l))
      (same_bind E (λ tg t1 w1. (target_at a t1 0 ≡ tg) × Lower 0 t t1 × Good env w1) Meets (target ops program place (calling ops program calls live env) env w) (run (place_code program locals line place 0) (before_steps (expression_code program locals e ty n) live1) env t w) _ _
      (place_does E here_too ops program locals calls calls' Known called (Good env) env live (sound.arguments live env) (known live env) (holding live env w good) line place 0 pt hp qp (before_steps (expression_code program locals e ty n) live1) t w good) (λ tg t1 w1 p.
      same_bind E (λ v t2 w2. Stored ty n t1 v t2 × (Good env w2 × Suits u v)) Meets (value_of ops program calls live e env w1) (run (expression_code program locals e ty n) live1 env t1 w1) _ l
      (same_with E (λ v t2 w2. Stored ty n t1 v t2) (λ v w2. Good env w2 × Suits u v) (value_of ops program calls live e env w1) (run (expression_code program locals e ty n) live1 env t1 w1) (sound.value live e u env w1 he p.2)
      (expression_does E here_too ops program locals calls calls' Known called (Good env) env live (sound.arguments live env) (known live env) (holding live env w1 p.2) e u he q ty n live1 t1 w1 p.2)) (λ v t2 w2 s.
      c tg v t2 w2 (target_lower a 0 n t1 t2 s.0.lower (omega arith) ∙ p.0) s.0.value s.1.0 s.1.1)))

  at_value : (ty : Ty) (t : Temporaries) (h : ℕ) (v : Value) → temporary (value_type ty) t h ≡ v → Suits (value_type ty) v → kept ty (temporary ty t h) ≡ v
  at_value ty t h v e s = ap (λ k. kept ty (at_kind k t h)) (sym (kind_value ty)) ∙ ap (kept ty) e ∙ kept_same ty v s

  behind_nothing : (m : Run W Way) → bind m (R.behind (λ env t w. Go (R.Next env t) w)) ≡ m
  behind_nothing (Go (R.Next env t) w) = refl
  behind_nothing (Go (R.Broke env t) w) = refl
  behind_nothing (Go (R.Continued env t) w) = refl
  behind_nothing (Go (R.Returned v) w) = refl
  behind_nothing (Stopped s w) = refl

  assigned : (line x : ℕ) (e : Expr) (ty : Ty) → slice_get f.locals x ≡ Some ty → HasType program locals e (value_type ty) → IsQuietInside program e → (k : Ways) (env : List Value) (t : Temporaries) (w : W) → Good env w →
      Met (set_local ops program calls k.next x e env w) (does (To.simple (expression_code program locals e (value_type (local_type f x)) 0) (To.assign line x (local_type f x))) k env t w)
  assigned line x e ty eg he q k env t w good =
      let et : local_type f x ≡ ty = get_or_from_slice_get locals x ty int eg in
      value_first (λ y. unless_set x y (k.next y)) e (value_type ty) (value_type (local_type f x)) env t w (λ v w1. Go (Next (with_local env x v)) w1) (λ t1. act_run ops (deletes program) locals (To.assign line x (local_type f x)) calls' k.next env t1) he q good (λ v t1 w1 ev g1 s1.
      (refl, ap (with_local env x) (sym (at_value (local_type f x) t1 0 v ev (subst (λ u. Suits (value_type u) v) (sym et) s1)))))

  let_go : (e : Expr) → IsValue program locals e → IsQuietInside program e → (live : ℕ → Bool) (env : List Value) (t : Temporaries) (w : W) → Good env w →
      Met (bind (value_of ops program calls live e env w) (λ _ w1. Go (Next env) w1)) (bind (run (whole program locals e) live env t w) (λ t1 w1. Go (R.Next env t1) w1))
  let_go e hr q live env t w good = value_first live e hr.1.0 (expression_type program locals e) env t w (λ _ w1. Go (Next env) w1) (λ t1 w1. Go (R.Next env t1) w1) hr.1.1 q good (λ v t1 w1 e g1 s1. (refl, refl))

  evaluated : (line : ℕ) (e : Expr) → Runs program locals e → IsQuietInside program e → (k : Ways) (env : List Value) (t : Temporaries) (w : W) → Good env w →
      Met (bind (value_of ops program calls k.next e env w) (λ _ w1. Go (Next env) w1)) (does (evaluate_code program locals line e) k env t w)
  evaluated line (call own g es) hr q k env t w good = by (has_result program g)
    where
      by : (b : Bool) → Met (bind (value_of ops program calls k.next (call own g es) env w) (λ _ w1. Go (Next env) w1)) (does (one_of b (To.simple (whole program locals (call own g es)) To.drop) (To.simple (arguments_code program locals es (parameter_types program g) 0) (To.perform own g (argument_types program locals es (parameter_types program g))))) k env t w)
      by true =
          same_bind E (λ v t1 w1. Stored (expression_type program locals (call own g es)) 0 t v t1) Meets (value_of ops program calls k.next (call own g es) env w) (run (whole program locals (call own g es)) k.next env t w) _ _
          (call_does E here_too ops program locals calls calls' Known called (Good env) env k.next (sound.arguments k.next env) (known k.next env) (holding k.next env w good) own g es hr.0 hr.1.0 hr.1.1 q (expression_type program locals (call own g es)) 0 t w good) (λ v t1 w1 p. (refl, refl))
      by false =
          performs E here_too ops program locals calls calls' Known called (Good env) env k.next (sound.arguments k.next env) (known k.next env) (holding k.next env w good) own g es hr.0 hr.1.0 hr.1.1 q t w good Meets (λ _ w1. Go (Next env) w1) (λ t1 w1. Go (R.Next env t1) w1) (λ v t1 w1. (refl, refl))
  evaluated line (constant line' s n) hr q k env t w good = let_go (constant line' s n) hr q k.next env t w good
  evaluated line (null line') hr q k env t w good = let_go (null line') hr q k.next env t w good
  evaluated line (string line' k0) hr q k env t w good = let_go (string line' k0) hr q k.next env t w good
  evaluated line (local line' x) hr q k env t w good = let_go (local line' x) hr q k.next env t w good
  evaluated line (read line' place) hr q k env t w good = let_go (read line' place) hr q k.next env t w good
  evaluated line (address line' g) hr q k env t w good = let_go (address line' g) hr q k.next env t w good
  evaluated line (step line' d p i) hr q k env t w good = let_go (step line' d p i) hr q k.next env t w good
  evaluated line (step_from line' i p) hr q k env t w good = let_go (step_from line' i p) hr q k.next env t w good
  evaluated line (unary line' o s e) hr q k env t w good = let_go (unary line' o s e) hr q k.next env t w good
  evaluated line (binary line' o s a b) hr q k env t w good = let_go (binary line' o s a b) hr q k.next env t w good
  evaluated line (convert line' from to e) hr q k env t w good = let_go (convert line' from to e) hr q k.next env t w good
  evaluated line (not_zero line' e) hr q k env t w good = let_go (not_zero line' e) hr q k.next env t w good
  evaluated line (and line' a b) hr q k env t w good = let_go (and line' a b) hr q k.next env t w good
  evaluated line (or line' a b) hr q k env t w good = let_go (or line' a b) hr q k.next env t w good
  evaluated line (choose line' test a b) hr q k env t w good = let_go (choose line' test a b) hr q k.next env t w good
  evaluated line (is_null line' wanted e) hr q k env t w good = let_go (is_null line' wanted e) hr q k.next env t w good
  evaluated line (same line' wanted a b) hr q k env t w good = let_go (same line' wanted a b) hr q k.next env t w good
  evaluated line (new_region line') hr q k env t w good = let_go (new_region line') hr q k.next env t w good
  evaluated line (new_subregion line' r) hr q k env t w good = let_go (new_subregion line' r) hr q k.next env t w good
  evaluated line (region_of line' p) hr q k env t w good = let_go (region_of line' p) hr q k.next env t w good
  evaluated line (allocate line' r made) hr q k env t w good = let_go (allocate line' r made) hr q k.next env t w good
  evaluated line (allocate_array line' r n made) hr q k env t w good = let_go (allocate_array line' r n made) hr q k.next env t w good
  evaluated line (putchar line' e) hr q k env t w good = let_go (putchar line' e) hr q k.next env t w good
  evaluated line (getchar line') hr q k env t w good = let_go (getchar line') hr q k.next env t w good

  returns : (r : Option Ty) (ty : Ty) (t : Temporaries) → r ≡ Some ty → R.returned ops (deletes program) locals (option_map value_type r) t ≡ temporary (returned_type r) t 0
  returns None ty t e = cc
  returns (Some u) ty t e = refl

  abbrev for_test : (line : ℕ) → Option Expr → Option Test
  for_test line test = option_map (condition_test program locals line true) test

  abbrev head_of : (line : ℕ) → Option Expr → (third a : Stmt) → Ways → ℕ → Bool
  head_of line test third a k = loop_head (optional_condition program locals test) (for_test line test) (statement_code program f third) (statement_code program f a) k

  for_ways : (line : ℕ) (test : Option Expr) (third a : Stmt) (k : Ways) → head_of line test third a k ≡ for_head test third a k → round (before_code (statement_code program f third) (then_live (head_of line test third a k) k)) k ≡ for_body test third a k
  for_ways line test third a k e = ap (λ h. round (before_code (statement_code program f third) (then_live h k)) k) e ∙ ap (λ h. round h k) (all_live program f third (for_third test third a k))

  for_meets : (line : ℕ) (first : Stmt) (test : Option Expr) (third a : Stmt) (loop : Bool) (k : Ways) → head_of line test third a k ≡ for_head test third a k → IsTyped program f loop first → IsTyped program f loop third → IsTyped program f true a →
      Heads (test_of ops program calls (either k.next (before a (for_body test third a k))) test) (λ env t w. run (optional_condition program locals test) (λ y. (is_some (for_test line test) && k.next y) || before_code (statement_code program f a) (round (before_code (statement_code program f third) (then_live (head_of line test third a k) k)) k) y) env t w) (for_test line test) →
      ((k1 : Ways) → GoOn (exec ops program first f calls k1) (does (statement_code program f first) k1)) → ((k1 : Ways) → GoOn (exec ops program third f calls k1) (does (statement_code program f third) k1)) → ((k1 : Ways) → GoOn (exec ops program a f calls k1) (does (statement_code program f a) k1)) →
      GoOn (exec ops program (for line first test third a) f calls k) (does (statement_code program f (for line first test third a)) k)
  for_meets line first test third a loop k e tf tt' ta ht df dt da env t w good =
      subst (λ h. Met (exec ops program (for line first test third a) f calls k env w) (bind (does (statement_code program f first) (then_live h k) env t w) (R.behind (λ env1 t1 w1. bind (does the_loop k env1 t1 w1) (R.behind (λ env2 t2 w2. Go (R.Next env2 t2) w2)))))) (sym e)
      (same_bind E (λ x y w1. Meets x y w1 × Fine Good x w1) Meets (exec ops program first f calls (then_live (for_head test third a k) k) env w) (does (statement_code program f first) (then_live (for_head test third a k) k) env t w) _ _
      (same_with E Meets (Fine Good) _ _ (sound.flow loop first (then_live (for_head test third a k) k) env w tf good) (df (then_live (for_head test third a k) k) env t w good))
      (behind_meets _ _ (λ env1 t1 w1 g1.
      subst (λ m. Met (rounds ops program (suc (ops.turns_left w1)) (test_of ops program calls (either k.next (before a (for_body test third a k))) test) source_body env1 w1) m) (sym (behind_nothing (does the_loop k env1 t1 w1)))
      (rounds_meet (test_of ops program calls (either k.next (before a (for_body test third a k))) test) _ (for_test line test) ht source_body code_body bodies (suc (ops.turns_left w1)) env1 t1 w1 g1))))
    where
      the_loop : Code
      the_loop = To.loop line (optional_condition program locals test) (for_test line test) (statement_code program f third) (statement_code program f a)

      source_body : (List Value → W → Run W Flow) → List Value → W → Run W Flow
      source_body again env2 w2 = bind (exec ops program a f calls (for_body test third a k) env2 w2) (behind_body (λ env3 w3. bind (exec ops program third f calls (for_third test third a k) env3 w3) (behind again)))

      code_body : (List Value → Temporaries → W → Run W Way) → List Value → Temporaries → W → Run W Way
      code_body again env1 t1 w1 = bind (does (statement_code program f a) (round (before_code (statement_code program f third) (then_live (head_of line test third a k) k)) k) env1 t1 w1)
          (R.behind_body (λ env2 t2 w2. bind (does (statement_code program f third) (then_live (head_of line test third a k) k) env2 t2 w2) (R.behind again)))

      bodies : Bodies source_body code_body
      bodies go go' h env1 t1 w1 g1 =
          subst (λ kb. Met (source_body go env1 w1) (bind (does (statement_code program f a) kb env1 t1 w1) (R.behind_body (λ env2 t2 w2. bind (does (statement_code program f third) (then_live (head_of line test third a k) k) env2 t2 w2) (R.behind go'))))) (sym (for_ways line test third a k e))
          (same_bind E (λ x y w2. Meets x y w2 × Fine Good x w2) Meets (exec ops program a f calls (for_body test third a k) env1 w1) (does (statement_code program f a) (for_body test third a k) env1 t1 w1) _ _
          (same_with E Meets (Fine Good) _ _ (sound.flow true a (for_body test third a k) env1 w1 ta g1) (da (for_body test third a k) env1 t1 w1 g1))
          (round_meets _ _ (λ env2 t2 w2 g2.
          subst (λ kt. Met (bind (exec ops program third f calls (for_third test third a k) env2 w2) (behind go)) (bind (does (statement_code program f third) kt env2 t2 w2) (R.behind go'))) (sym (ap (λ l. then_live l k) e))
          (same_bind E (λ x y w3. Meets x y w3 × Fine Good x w3) Meets (exec ops program third f calls (for_third test third a k) env2 w2) (does (statement_code program f third) (for_third test third a k) env2 t2 w2) _ _
          (same_with E Meets (Fine Good) _ _ (sound.flow loop third (for_third test third a k) env2 w2 tt' g2) (dt (for_third test third a k) env2 t2 w2 g2))
          (behind_meets go go' h)))))

  module _ (updates : (loop : Bool) (line : ℕ) (place : Place) (change : Change) (e : Expr) → IsTyped program f loop (update line place change e) → IsPlaced program (update line place change e) → (k : Ways) → GoOn (exec ops program (update line place change e) f calls k) (does (statement_code program f (update line place change e)) k))
      (copies : (loop : Bool) (line s : ℕ) (left right : Place) → IsTyped program f loop (copy line s left right) → IsPlaced program (copy line s left right) → (k : Ways) → GoOn (exec ops program (copy line s left right) f calls k) (does (statement_code program f (copy line s left right)) k)) where
    mutual
      pub statement_meets : (loop : Bool) (s : Stmt) → IsTyped program f loop s → IsPlaced program s → (k : Ways) → GoOn (exec ops program s f calls k) (does (statement_code program f s) k)
      statement_meets loop (block body) ht hp k env t w good = body_meets loop body ht hp k env t w good
      statement_meets loop (declare line x None) ht hp k env t w good = (refl, refl)
      statement_meets loop (declare line x (Some e)) ht hp k env t w good = assigned line x e ht.0 ht.1.0 ht.1.1 hp k env t w good
      statement_meets loop (assign line x e) ht hp k env t w good = assigned line x e ht.0 ht.1.0 ht.1.1 hp k env t w good
      statement_meets loop (store line place e) ht hp k env t w good =
          let a = access program locals place in
          let ec = access_cell place ht.0 ht.1.0 in
          place_value_first line place ht.0 e (value_type ht.0) (value_type a.cell) k.next (before_act (To.store line a) k.next) env t w (λ tg v w2. bind (ops.store line tg v w2) (λ _ w3. Go (Next env) w3)) _ ht.1.0 ht.1.2 hp.0 hp.1 good (λ tg v t1 w1 e1 e2 g1 s1.
          let ev = at_value a.cell t1 (width a) v e2 (subst (λ u. Suits (value_type u) v) (sym ec) s1) in
          subst (λ x. Met (bind (ops.store line tg v w1) (λ _ w3. Go (Next env) w3)) (bind (ops.store line x (kept a.cell (temporary a.cell t1 (width a))) w1) (λ _ w3. Go (R.Next env t1) w3))) (sym e1)
          (subst (λ x. Met (bind (ops.store line tg v w1) (λ _ w3. Go (Next env) w3)) (bind (ops.store line tg x w1) (λ _ w3. Go (R.Next env t1) w3))) (sym ev)
          (same_self E here_too Meets (ops.store line tg v w1) _ _ (λ _ w3. (refl, refl)))))
      statement_meets loop (update line place change e) ht hp k env t w good = updates loop line place change e ht hp k env t w good
      statement_meets loop (copy line s left right) ht hp k env t w good = copies loop line s left right ht hp k env t w good
      statement_meets loop (evaluate line e) ht hp k env t w good = evaluated line e ht hp k env t w good
      statement_meets loop (delete line e) ht hp k env t w good =
          same_bind E (λ v t1 w1. Stored region 0 t v t1) Meets (value_of ops program calls k.next e env w) (run (expression_code program locals e region 0) k.next env t w) _ _
          (expression_does E here_too ops program locals calls calls' Known called (Good env) env k.next (sound.arguments k.next env) (known k.next env) (holding k.next env w good) e region ht hp region 0 k.next t w good) (λ v t1 w1 p.
          subst (λ x. Met (bind (ops.delete line (held k.next env) v w1) (λ _ w2. Go (Next env) w2)) (bind (ops.delete line (pinned (pins_from locals 0 k.next) env) x w1) (λ _ w2. Go (R.Next env t1) w2))) (sym p.value)
          (subst (λ vs. Met (bind (ops.delete line (held k.next env) v w1) (λ _ w2. Go (Next env) w2)) (bind (ops.delete line vs v w1) (λ _ w2. Go (R.Next env t1) w2))) (sym (holding k.next env w good))
          (same_self E here_too Meets (ops.delete line (held k.next env) v w1) _ _ (λ _ w2. (refl, refl)))))
      statement_meets loop (branch line test a b) ht hp k env t w good =
          let l : either (before a k) (before b k) ≡ (λ y. before_code (statement_code program f a) k y || before_code (statement_code program f b) k y) = fun_ext (λ y. sym (ap (λ v. v || before_code (statement_code program f b) k y) (statement_lives program f a k y) ∙ ap (λ v. before a k y || v) (statement_lives program f b k y))) in
          subst (λ live. Met (exec ops program (branch line test a b) f calls k env w) (bind (run (condition_code program locals test) live env t w) (λ t1. branching (test_value (Some (condition_test program locals line true test)) t1) (does (statement_code program f a) k env t1) (does (statement_code program f b) k env t1)))) l
          (condition_first (either (before a k) (before b k)) line test env t w (λ v. branching (is_true v) (exec ops program a f calls k env) (exec ops program b f calls k env)) (λ t1. branching (test_value (Some (condition_test program locals line true test)) t1) (does (statement_code program f a) k env t1) (does (statement_code program f b) k env t1)) ht.0 hp.0 good (λ v t1 w1 e g1.
          branching_meets (is_true v) (test_value (Some (condition_test program locals line true test)) t1) (exec ops program a f calls k env) (exec ops program b f calls k env) (does (statement_code program f a) k env t1) (does (statement_code program f b) k env t1) w1 e (statement_meets loop a ht.1 hp.1 k env t1 w1 g1) (statement_meets loop b ht.2 hp.2 k env t1 w1 g1)))
      statement_meets loop (while line test a) ht hp k env t w good =
          let head : before_code (To.loop 0 (condition_code program locals test) (Some (condition_test program locals line true test)) (To.block To.done) (statement_code program f a)) k ≡ while_head test a k = fun_ext (λ y. statement_lives program f (while 0 test a) k y) in
          rounds_meet (value_of ops program calls (either k.next (before a (while_body test a k))) test) _ (Some (condition_test program locals line true test))
          (λ env1 t1 w1 g1.
          subst (λ live. Same E (λ v t2 w2. (test_value (Some (condition_test program locals line true test)) t2 ≡ is_true v) × Good env1 w2) (value_of ops program calls (either k.next (before a (while_body test a k))) test env1 w1) (run (condition_code program locals test) live env1 t1 w1))
          (fun_ext (λ y. ap (λ v. k.next y || v) (sym (statement_lives program f a (round _ k) y ∙ ap (λ h. before a (round h k) y) head))))
          (condition_does E here_too ops program locals calls calls' Known called (Good env1) env1 (either k.next (before a (while_body test a k))) (sound.arguments (either k.next (before a (while_body test a k))) env1) (known _ env1) (holding (either k.next (before a (while_body test a k))) env1 w1 g1) test ht.0.1.0 line true ht.0.0 ht.0.1.1 hp.0 t1 w1 g1))
          (λ again env1 w1. bind (exec ops program a f calls (while_body test a k) env1 w1) (behind_body again)) _
          (λ go go' h env1 t1 w1 g1.
          subst (λ h0. Met (bind (exec ops program a f calls (while_body test a k) env1 w1) (behind_body go)) (bind (does (statement_code program f a) (round h0 k) env1 t1 w1) (R.behind_body go'))) (sym head)
          (same_bind E (λ x y w2. Meets x y w2 × Fine Good x w2) Meets (exec ops program a f calls (while_body test a k) env1 w1) (does (statement_code program f a) (while_body test a k) env1 t1 w1) _ _
          (same_with E Meets (Fine Good) _ _ (sound.flow true a (while_body test a k) env1 w1 ht.1 g1) (statement_meets true a ht.1 hp.1 (while_body test a k) env1 t1 w1 g1)) (round_meets go go' h)))
          (suc (ops.turns_left w)) env t w good
      statement_meets loop (break line) ht hp k env t w good = (refl, refl)
      statement_meets loop (continue line) ht hp k env t w good = (refl, refl)
      statement_meets loop (return line None) ht hp k env t w good = (refl, refl)
      statement_meets loop (return line (Some e)) ht hp k env t w good =
          value_first (λ _. false) e (value_type ht.0) (returned_type f.result) env t w (λ v w1. Go (Returned v) w1) (λ t1. act_run ops (deletes program) locals (To.leave line (option_map value_type f.result)) calls' k.next env t1) ht.1.1 hp good (λ v t1 w1 ev g1 s1.
          (refl, sym (returns f.result ht.0 t1 ht.1.0 ∙ ev)))
      statement_meets loop (repeat line a test) ht hp k env t w good =
          let head : (λ y. k.next y || before_code (To.repeat 0 (statement_code program f a) (condition_code program locals test) (condition_test program locals line true test)) k y) ≡ either k.next (repeat_head a test k) = fun_ext (λ y. ap (λ v. k.next y || v) (statement_lives program f (repeat 0 a test) k y)) in
          let tail : repeat_tail (statement_code program f a) (condition_code program locals test) (condition_test program locals line true test) k ≡ repeat_test a test k = ap (before_steps (condition_code program locals test)) head ∙ fun_ext (λ y. (condition_lives program locals test).is (either k.next (repeat_head a test k)) y) in
          rounds_first_meet (value_of ops program calls (either k.next (repeat_head a test k)) test) (λ env1 t1 w1. run (condition_code program locals test) (λ y. k.next y || before_code (To.repeat 0 (statement_code program f a) (condition_code program locals test) (condition_test program locals line true test)) k y) env1 t1 w1) (Some (condition_test program locals line true test))
          (λ env1 t1 w1 g1.
          subst (λ live. Same E (λ v t2 w2. (test_value (Some (condition_test program locals line true test)) t2 ≡ is_true v) × Good env1 w2) (value_of ops program calls (either k.next (repeat_head a test k)) test env1 w1) (run (condition_code program locals test) live env1 t1 w1)) (sym head)
          (condition_does E here_too ops program locals calls calls' Known called (Good env1) env1 (either k.next (repeat_head a test k)) (sound.arguments (either k.next (repeat_head a test k)) env1) (known (either k.next (repeat_head a test k)) env1) (holding (either k.next (repeat_head a test k)) env1 w1 g1) test ht.1.1.0 line true ht.1.0 ht.1.1.1 hp.1 t1 w1 g1))
          (λ again env1 w1. bind (exec ops program a f calls (repeat_body a test k) env1 w1) (behind_body again)) (λ again env1 t1 w1. bind (does (statement_code program f a) (round (repeat_tail (statement_code program f a) (condition_code program locals test) (condition_test program locals line true test) k) k) env1 t1 w1) (R.behind_body again))
          (λ go go' h env1 t1 w1 g1.
          subst (λ h0. Met (bind (exec ops program a f calls (repeat_body a test k) env1 w1) (behind_body go)) (bind (does (statement_code program f a) (round h0 k) env1 t1 w1) (R.behind_body go'))) (sym tail)
          (same_bind E (λ x y w2. Meets x y w2 × Fine Good x w2) Meets (exec ops program a f calls (repeat_body a test k) env1 w1) (does (statement_code program f a) (repeat_body a test k) env1 t1 w1) _ _
          (same_with E Meets (Fine Good) _ _ (sound.flow true a (repeat_body a test k) env1 w1 ht.0 g1) (statement_meets true a ht.0 hp.0 (repeat_body a test k) env1 t1 w1 g1)) (round_meets go go' h)))
          (suc (ops.turns_left w)) env t w good
      statement_meets loop (for line first None third a) ht hp k env t w good =
          for_meets line first None third a loop k (fun_ext (λ y. statement_lives program f (for 0 (block done) None third a) k y)) ht.0 ht.2 ht.3
          (λ env1 t1 w1 g1. (refl, (refl, g1)))
          (statement_meets loop first ht.0 hp.0) (statement_meets loop third ht.2 hp.2) (statement_meets true a ht.3 hp.3) env t w good
      statement_meets loop (for line first (Some e) third a) ht hp k env t w good =
          for_meets line first (Some e) third a loop k (fun_ext (λ y. statement_lives program f (for 0 (block done) (Some e) third a) k y)) ht.0 ht.2 ht.3
          (λ env1 t1 w1 g1.
          subst (λ live. Same E (λ v t2 w2. (test_value (Some (condition_test program locals line true e)) t2 ≡ is_true v) × Good env1 w2) (value_of ops program calls (either k.next (before a (for_body (Some e) third a k))) e env1 w1) (run (condition_code program locals e) live env1 t1 w1))
          (fun_ext (λ y. ap (λ v. k.next y || v) (sym (ap (λ q. before_code (statement_code program f a) q y) (for_ways line (Some e) third a k (fun_ext (λ z. statement_lives program f (for 0 (block done) (Some e) third a) k z))) ∙ statement_lives program f a (for_body (Some e) third a k) y))))
          (condition_does E here_too ops program locals calls calls' Known called (Good env1) env1 (either k.next (before a (for_body (Some e) third a k))) (sound.arguments (either k.next (before a (for_body (Some e) third a k))) env1) (known (either k.next (before a (for_body (Some e) third a k))) env1) (holding (either k.next (before a (for_body (Some e) third a k))) env1 w1 g1) e ht.1.1.0 line true ht.1.0 ht.1.1.1 hp.1 t1 w1 g1))
          (statement_meets loop first ht.0 hp.0) (statement_meets loop third ht.2 hp.2) (statement_meets true a ht.3 hp.3) env t w good

      body_meets : (loop : Bool) (body : Stmts) → AreTyped program f loop body → ArePlaced program body → (k : Ways) → GoOn (exec_all ops program body f calls k) (λ env t w. codes_run ops (deletes program) locals (body_code program f body) calls' k env t w)
      body_meets loop done ht hp k env t w good = (refl, refl)
      body_meets loop (then s rest) ht hp k env t w good =
          subst (λ l. Met (exec_all ops program (then s rest) f calls k env w) (bind (does (statement_code program f s) (then_live l k) env t w) (R.behind (λ env1 t1 w1. codes_run ops (deletes program) locals (body_code program f rest) calls' k env1 t1 w1)))) (sym (body_all_live program f rest k))
          (same_bind E (λ x y w1. Meets x y w1 × Fine Good x w1) Meets (exec ops program s f calls (then_live (before_all rest k) k) env w) (does (statement_code program f s) (then_live (before_all rest k) k) env t w) _ _
          (same_with E Meets (Fine Good) _ _ (sound.flow loop s (then_live (before_all rest k) k) env w ht.0 good) (statement_meets loop s ht.0 hp.0 (then_live (before_all rest k) k) env t w good))
          (behind_meets (exec_all ops program rest f calls k) (λ env1 t1 w1. codes_run ops (deletes program) locals (body_code program f rest) calls' k env1 t1 w1) (body_meets loop rest ht.1 hp.1 k)))
