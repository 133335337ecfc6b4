-- What the appended items are as typed, where the names in them stand for what they should.
use Rattle.rc_task_items.proofs.Common.{◌≡◌, ℕ, ◌+◌, ◌<◌, ◌≤◌, pos, nat_lt, Bool, true, false, List, [], ◌∷◌, ◌++◌, codes, length, map, Option, Some, None, append-nil, refl, ap, ◌∙◌, arith, Spot, Ty, int, unsigned, char, pointer, Plain, Judged, Holds, Faulty, with_part, with_parts, both, ruled, number_or, Context, Scope, Meaning, a_local, a_global, a_function, a_builtin, meaning_in, the_function, callee_rule, call_statement, call_refusals, fitted_arguments, parameters, arguments_listed, Compute, Increment, Here, stmt, stmts, simple, local, condition, behind_local, behind_stmts, Held, held_part, held_parts, held_ruled, Tasks, yield_of}
use Rattle.rc_syntax.specs.Tree as t
use Rattle.rc_core.specs.Programs as p
use Rattle.rc_core.specs.declared.operators.Operator.TheVariants as Operator
use Rattle.rc_core.specs.declared.ty.NumberType.TheVariants as NumberType
use Rattle.rc_core.specs.declared.ty.Signedness.TheVariants as Signedness
use Rattle.rc_deletes.specs.Statements.{new_name}
use Rattle.rc_tasks.specs.Appended as typed
use Rattle.rc_task_items.specs.Items as tree

abbrev pub Is : {A : Type 0} → A → A → Type 0
Is b a = a ≡ b

-- it is a function with this number, if it is anything that may be called
abbrev pub Calls : ℕ → Option Meaning → Type 0
Calls k None = Unit {0}
Calls k (Some (a_local x u)) = Unit {0}
Calls k (Some (a_global g u c)) = Unit {0}
Calls k (Some (a_function n s)) = number_or n 0 ≡ k
Calls k (Some (a_builtin b)) = ⊥

cons_held : (x : Judged p.Stmt) (y : Judged p.Stmts) (a : p.Stmt) (b : p.Stmts) → Held (Is a) x → Held (Is b) y → Held (Is (p.then a b)) (with_parts x y (λ u v. Holds (p.then u v)))
cons_held x y a b h k = held_parts (Is a) (Is b) (Is (p.then a b)) x y _ h k (λ u v e f. ap (λ z. p.then z v) e ∙ ap (p.then a) f)

branch_held : (at : ℕ) (x : Judged p.Expr) (y : Judged p.Stmt) (a : p.Expr) (b : p.Stmt) → Held (Is a) x → Held (Is b) y → Held (Is (p.branch at a b (p.block p.done))) (with_parts x y (λ u v. Holds (p.branch at u v (p.block p.done))))
branch_held at x y a b h k = held_parts (Is a) (Is b) (Is (p.branch at a b (p.block p.done))) x y _ h k (λ u v e f. ap (λ z. p.branch at z v (p.block p.done)) e ∙ ap (λ z. p.branch at a z (p.block p.done)) f)

called_held : (at : Spot) (k : ℕ) (m : Option Meaning) → Calls k m → Held (Is (p.evaluate at.line (p.call at.line k p.none))) (with_parts (callee_rule at m) (Holds []) (call_statement at))
called_held at k None h = tt
called_held at k (Some (a_local x u)) h = tt
called_held at k (Some (a_global g u c)) h = tt
called_held at k (Some (a_function n s)) h =
    held_part (λ es. es ≡ []) (Is (p.evaluate at.line (p.call at.line k p.none))) (ruled at (call_refusals false (the_function n s) (fitted_arguments (parameters (the_function n s)) []) 0) []) _
    (held_ruled (λ es. es ≡ []) at (call_refusals false (the_function n s) (fitted_arguments (parameters (the_function n s)) []) 0) [] (λ e. refl))
    (λ es e. ap (λ xs. p.evaluate at.line (p.call at.line (number_or n 0) (arguments_listed xs))) e ∙ ap (λ j. p.evaluate at.line (p.call at.line j p.none)) h)
called_held at k (Some (a_builtin b)) h = absurd h

-- a name that is new, beside what is known
new_held : {B C : Type 0} (P : C → Type 0) (x : Judged (Unit {0})) (b : B) (rule : Unit {0} × B → Judged C) → ((u : Unit {0}) → Held P (rule (u, b))) → Held P (with_part (both x (Holds b)) rule)
new_held P (Holds u) b rule h = h u
new_held P (Faulty f fs) b rule h = tt

module _ (tk : Tasks) (choices : List ℕ) (place : ℕ → ℕ) (line : ℕ) (few : length choices ≤ 1000) (context : Context) (names : Scope) (strings : List (List ℕ))
    (count : length strings ≡ length tk.program.strings)
    (at : meaning_in names tree.counter_name ≡ Some (a_global (length tk.program.globals) unsigned None))
    (tasks : (d : ℕ) → Calls (tk.task d) (meaning_in names (tree.task_name d))) where
  small : nat_lt (length choices) 2147483648 ≡ true
  small = below (length choices) (omega (arith, few))
    where
      below : (n : ℕ) → n < 2147483648 → nat_lt n 2147483648 ≡ true
      below n lt = grind (arith, lt)

  abbrev start : Here
  start = record { names = names; locals = []; first = 0; strings = strings }

  abbrev behind_text : Here
  behind_text = behind_local context start (tree.text_local choices place line)

  abbrev in_body : Here
  in_body = behind_local context behind_text (tree.choice_local choices place line)

  text_held : Held (Is (p.declare line 0 (Some (p.string line (length tk.program.strings))))) (local context start (tree.text_local choices place line))
  text_held = new_held (Is (p.declare line 0 (Some (p.string line (length tk.program.strings))))) (new_name 0 names (tree.named choices place line 6 (codes "s"))) _ _ (λ u. ap (λ n. p.declare line 0 (Some (p.string line n))) count)

  choice_held : Held (Is (p.declare line 1 None)) (local context behind_text (tree.choice_local choices place line))
  choice_held = new_held (Is (p.declare line 1 None)) (new_name 0 behind_text.names (tree.named choices place line 10 (codes "c"))) _ _ (λ u. refl)

  test_held : (before : List (List ℕ)) (k : ℕ) → Held (Is (typed.any_left tk choices line)) (condition context in_body.names before (tree.any_left choices place line k))
  test_held before k = rw (at, small) refl

  assign_held : (here : Here) → here.names ≡ in_body.names → Held (Is (p.assign line 1 (p.read line (p.indexed (p.local line 0) (typed.at_value tk choices line) p.here)))) (simple context in_body.names here.strings (t.assign (tree.spot choices place line 21) (t.variable (tree.named choices place line 22 (codes "c"))) (t.index (tree.spot choices place line 23) (t.variable (tree.named choices place line 24 (codes "s"))) (tree.at choices place line 25))))
  assign_held here e = rw at refl

  step_held : (before : List (List ℕ)) → Held (Is (p.update line (typed.at tk choices line) (Compute NumberType.Unsigned Operator.Add Signedness.Unsigned) (p.convert line NumberType.Int NumberType.Unsigned (p.constant line Signedness.Signed (pos 1))))) (simple context in_body.names before (t.step_after (tree.spot choices place line 27) Increment (tree.at choices place line 28)))
  step_held before = rw at refl

  call_held : (here : Here) (k d : ℕ) → Held (Is (p.branch line (p.binary line Operator.Equal Signedness.Signed (p.convert line NumberType.Char NumberType.Int (p.local line 1)) (p.constant line Signedness.Signed (pos (typed.digit d)))) (p.evaluate line (p.call line (tk.task d) p.none)) (p.block p.done)))
      (stmt context None false (record here { names = in_body.names }) (tree.task_of choices place line k d))
  call_held here k d =
      held_part (Is (p.evaluate line (p.call line (tk.task d) p.none))) (Is (typed.call_of tk choices line d)) (with_parts (callee_rule (tree.spot choices place line (k + 4 + 1)) (meaning_in names (tree.task_name d))) (Holds []) (call_statement (tree.spot choices place line (k + 4 + 1)))) _
      (called_held (tree.spot choices place line (k + 4 + 1)) (tk.task d) (meaning_in names (tree.task_name d)) (tasks d))
      (λ y e. ap (λ z. p.branch line (p.binary line Operator.Equal Signedness.Signed (p.convert line NumberType.Char NumberType.Int (p.local line 1)) (p.constant line Signedness.Signed (pos (typed.digit d)))) z (p.block p.done)) e)

  abbrev placed_at : List Ty → ℕ → List (List ℕ) → Here
  placed_at ls fi ss = record { names = in_body.names; locals = ls; first = fi; strings = ss }

  chain_held : (ls : List Ty) (fi : ℕ) (ss : List (List ℕ)) (k : ℕ) (ds : List ℕ) → Held (Is (typed.calls_of tk choices line ds)) (stmts context None false (placed_at ls fi ss) (tree.tasks_of choices place line k ds))
  chain_held ls fi ss k [] = refl
  chain_held ls fi ss k (d ∷ ds) = by (λ ss k. chain_held ls fi ss k ds) (typed.occurs d choices)
    where
      by : ((ss : List (List ℕ)) (k : ℕ) → Held (Is (typed.calls_of tk choices line ds)) (stmts context None false (placed_at ls fi ss) (tree.tasks_of choices place line k ds))) →
          (b : Bool) → Held (Is (typed.also b (typed.call_of tk choices line d) (typed.calls_of tk choices line ds))) (stmts context None false (placed_at ls fi ss) (tree.also choices place line b (tree.task_of choices place line k d) (tree.tasks_of choices place line (k + 6) ds)))
      by rest false = rest ss (k + 6)
      by rest true = cons_held _ _ (typed.call_of tk choices line d) (typed.calls_of tk choices line ds) (call_held (placed_at ls fi ss) k d) (rest ((ss ++ []) ++ []) (k + 6))

  block_held : (x : Judged p.Stmts) (b : p.Stmts) → Held (Is b) x → Held (Is (p.block b)) (with_part x (λ c. Holds (p.block c)))
  block_held x b h = held_part (Is b) (Is (p.block b)) x _ h (λ c e. ap p.block e)

  taking_held : (ls : List Ty) (fi : ℕ) (ss : List (List ℕ)) → Held (Is (typed.taking tk choices line)) (stmts context None false (placed_at ls fi ss) (tree.taking choices place line))
  taking_held ls fi ss =
      cons_held _ _ _ _ (assign_held (placed_at ls fi ss) refl) (cons_held _ _ _ _ (step_held (ss ++ [])) (chain_held ls fi ((ss ++ []) ++ []) 30 (typed.every_task tk choices line)))

  pub yield_held : Held (Is (p.then (p.declare line 0 (Some (p.string line (length tk.program.strings)))) (p.then (p.declare line 1 None) (p.then (p.branch line (typed.any_left tk choices line) (p.block (typed.taking tk choices line)) (p.block p.done)) p.done))))
      (stmts context None false start (tree.yield_body choices place line))
  yield_held =
      cons_held _ _ _ _ text_held (cons_held _ _ _ _ choice_held (cons_held _ _ _ _
      (branch_held line _ _ _ _ (test_held in_body.strings 12) (block_held _ _ (taking_held in_body.locals (length in_body.locals) (in_body.strings ++ [])))) refl))

  -- the names of functions in `main`
  module _ (start_known : Calls tk.start (meaning_in names tree.start_name)) (yield_known : Calls (yield_of tk) (meaning_in names tree.yield_name)) where
    own_test_held : (before : List (List ℕ)) (k : ℕ) → Held (Is (typed.any_left tk choices line)) (condition context names before (tree.any_left choices place line k))
    own_test_held before k = rw (at, small) refl

    while_held : (x : Judged p.Expr) (y : Judged p.Stmt) (a : p.Expr) (b : p.Stmt) → Held (Is a) x → Held (Is b) y → Held (Is (p.while line a b)) (with_parts x y (λ u v. Holds (p.while line u v)))
    while_held x y a b h k = held_parts (Is a) (Is b) (Is (p.while line a b)) x y _ h k (λ u v e f. ap (λ z. p.while line z v) e ∙ ap (p.while line a) f)

    pub main_held : Held (Is (p.then (p.evaluate line (p.call line tk.start p.none)) (p.then (p.while line (typed.any_left tk choices line) (p.evaluate line (p.call line (yield_of tk) p.none))) (p.then (p.return line (Some (p.constant line Signedness.Signed (pos 0)))) p.done))))
        (stmts context (Some int) false start (tree.main_body choices place line))
    main_held =
        cons_held _ _ _ _ (called_held (tree.spot choices place line 13) tk.start (meaning_in names tree.start_name) start_known)
        (cons_held _ _ _ _ (while_held _ _ _ _ (own_test_held (strings ++ []) 5) (called_held (tree.spot choices place line 9) (yield_of tk) (meaning_in names tree.yield_name) yield_known)) refl)

  -- what stands behind the calls is as before them
  behind_tasks : (ls : List Ty) (fi : ℕ) (ss : List (List ℕ)) (k : ℕ) (ds : List ℕ) → behind_stmts context (placed_at ls fi ss) (tree.tasks_of choices place line k ds) ≡ placed_at ls fi ss
  behind_tasks ls fi ss k [] = refl
  behind_tasks ls fi ss k (d ∷ ds) = by (λ ss k. behind_tasks ls fi ss k ds) (typed.occurs d choices)
    where
      by : ((ss : List (List ℕ)) (k : ℕ) → behind_stmts context (placed_at ls fi ss) (tree.tasks_of choices place line k ds) ≡ placed_at ls fi ss) →
          (b : Bool) → behind_stmts context (placed_at ls fi ss) (tree.also choices place line b (tree.task_of choices place line k d) (tree.tasks_of choices place line (k + 6) ds)) ≡ placed_at ls fi ss
      by rest false = rest ss (k + 6)
      by rest true = rest ((ss ++ []) ++ []) (k + 6) ∙ ap (placed_at ls fi) (append-nil (ss ++ []) ∙ append-nil ss)

  pub behind_yield : behind_stmts context start (tree.yield_body choices place line) ≡ record { names = in_body.names; locals = pointer Plain char ∷ char ∷ []; first = 0; strings = strings ++ map typed.digit choices ∷ [] }
  behind_yield =
      let x : List (List ℕ) = strings ++ map typed.digit choices ∷ [] in
      let some : List Ty = pointer Plain char ∷ char ∷ [] in
      ap (λ h. record { names = in_body.names; locals = h.locals; first = 0; strings = h.strings }) (behind_tasks some 2 ((((x ++ []) ++ []) ++ []) ++ []) 30 (typed.every_task tk choices line))
      ∙ ap (λ ss. record { names = in_body.names; locals = some; first = 0; strings = ss }) (append-nil (((x ++ []) ++ []) ++ []) ∙ append-nil ((x ++ []) ++ []) ∙ append-nil (x ++ []) ∙ append-nil x)

  pub behind_main : behind_stmts context start (tree.main_body choices place line) ≡ record { names = names; locals = []; first = 0; strings = strings }
  behind_main = ap (λ ss. record { names = names; locals = []; first = 0; strings = ss }) (append-nil (((strings ++ []) ++ []) ++ []) ∙ append-nil ((strings ++ []) ++ []) ∙ append-nil (strings ++ []) ∙ append-nil strings)
