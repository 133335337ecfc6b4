-- Execution: statements and calls, in any world. A statement goes on, breaks, continues, or returns a value, with the locals
-- as they are then; a step back to a loop's head takes one turn, and so does a call.
use Rattle.std.specs.Prelude.{ℕ, zero, suc, pos, Bool, true, false, List, [], ◌∷◌, ◌++◌, map, drop, get_or, slice_get, Option, Some, None}
use Rattle.rc_core.specs.declared.stmt.Change.{Change}
use Rattle.rc_core.specs.declared.stmt.Change.TheVariants.{Compute, Step}
use Rattle.rc_core.specs.Arithmetic.{converted, type_of, calculate}
use Rattle.rc_core.specs.Types.{Ty, int, struct}
use Rattle.rc_core.specs.Programs.{Expr, Stmt, block, declare, assign, store, update, copy, evaluate, delete, branch, while, repeat, for, break, continue, return, Stmts, done, then, Function, Program}
use Rattle.rc_core.specs.Layout.{size}
use Rattle.rc_core.specs.Heap.{Value, Number, Null, Handle, Pointer, zero_of, update as changed_at}
use Rattle.rc_core.specs.Live.{Ways, before, before_all, then_live, unless_set, either, while_body, repeat_body, repeat_head, for_head, for_third, for_body, at_end}
use Rattle.rc_core.specs.Runs.{Run, Go, bind, spent, branching, computed, Calls, Ops}
use Rattle.rc_core.specs.Evaluation.{number_in, is_true, toward, eval, target}

pub data Flow : Type 0 where
  Next : (locals : List Value) → Flow
  Broke : (locals : List Value) → Flow
  Continued : (locals : List Value) → Flow
  Returned : Value → Flow

abbrev pub with_local : List Value → ℕ → Value → List Value
with_local env x v = changed_at env x (λ _. v)

-- the values of the live locals that are regions, pointers or null
abbrev pub held_value : Bool → Value → List Value → List Value
held_value false v rest = rest
held_value true (Number n) rest = rest
held_value true Null rest = Null ∷ rest
held_value true (Handle r) rest = Handle r ∷ rest
held_value true (Pointer a) rest = Pointer a ∷ rest

abbrev pub held : (live : ℕ → Bool) → List Value → List Value
held live [] = []
held live (v ∷ env) = held_value (live 0) v (held (λ x. live (suc x)) env)

-- a call has its own locals: the arguments, and behind them zeros and nulls
abbrev pub first_locals : Function → (arguments : List Value) → List Value
first_locals f arguments = arguments ++ map zero_of (drop f.parameters f.locals)

abbrev pub local_type : Function → ℕ → Ty
local_type f x = get_or f.locals x int

abbrev pub zero_result : Option Ty → Value
zero_result None = Null
zero_result (Some ty) = zero_of ty

abbrev pub function_deletes : Option Function → Bool
function_deletes None = false
function_deletes (Some f) = f.deletes

-- does function number f delete?
abbrev pub deletes : Program → ℕ → Bool
deletes program f = function_deletes (slice_get program.functions f)

abbrev pub result_of : {W : Type 0} → Option Ty → Flow → W → Run W Value
result_of result (Next env) w = Go (zero_result result) w
result_of result (Broke env) w = Go (zero_result result) w
result_of result (Continued env) w = Go (zero_result result) w
result_of result (Returned v) w = Go v w

-- a body that went on or continued is followed by this
abbrev pub behind_body : {W : Type 0} → (List Value → W → Run W Flow) → Flow → W → Run W Flow
behind_body go (Next env) w = go env w
behind_body go (Continued env) w = go env w
behind_body go (Broke env) w = Go (Next env) w
behind_body go (Returned v) w = Go (Returned v) w

-- a statement that went on is followed by this
abbrev pub behind : {W : Type 0} → (List Value → W → Run W Flow) → Flow → W → Run W Flow
behind go (Next env) w = go env w
behind go (Broke env) w = Go (Broke env) w
behind go (Continued env) w = Go (Continued env) w
behind go (Returned v) w = Go (Returned v) w

module _ {W : Type 0} (ops : Ops W) (program : Program) where
  -- a call while these locals are live behind it: where the function deletes, their values wait until it returns
  abbrev pub calling : Calls W → (live : ℕ → Bool) → List Value → Calls W
  calling calls live env f arguments w =
      branching (deletes program f)
      (λ w1. bind (calls f arguments (ops.enter (held live env) w1)) (λ v w2. Go v (ops.leave w1 w2)))
      (calls f arguments) w

  abbrev pub value_of : Calls W → (live : ℕ → Bool) → Expr → List Value → W → Run W Value
  value_of calls live e env w = eval ops program e (calling calls live env) env w

  -- x = e; the value, and then the local is set. It is not held in the value's calls: what was in it is not used again.
  abbrev pub set_local : Calls W → (live : ℕ → Bool) → ℕ → Expr → List Value → W → Run W Flow
  set_local calls live x e env w = bind (value_of calls (λ y. unless_set x y (live y)) e env w) (λ v w1. Go (Next (with_local env x v)) w1)

  -- the new value of a place
  abbrev pub changed : (line : ℕ) → Change → (old value : Value) → W → Run W Value
  changed line (Compute from operator s) old v w =
      bind (computed line (calculate operator s (converted (type_of s) (number_in old)) (number_in v)) w) (λ n w1. Go (Number (converted from n)) w1)
  changed line (Step direction) old v w = ops.step line old (toward direction (number_in v)) w

  -- a loop whose condition stands before its body; behind a round it takes a turn. The number only makes this a function: it is one
  -- more than the turns that are left, and each round takes one of them, so they end first (laws `spent` and `enough`).
  abbrev pub rounds : ℕ → (test : List Value → W → Run W Value) → (body : (List Value → W → Run W Flow) → List Value → W → Run W Flow) → List Value → W → Run W Flow
  rounds zero test body env w = spent w
  rounds (suc n) test body env w =
      bind (test env w) (λ v. branching (is_true v)
      (body (λ env1 w1. bind (ops.take_turn w1) (λ _ w2. rounds n test body env1 w2)) env)
      (Go (Next env)))

  -- a loop whose condition stands behind its body; a step back takes a turn. The number is as in `rounds`.
  abbrev pub rounds_first : ℕ → (test : List Value → W → Run W Value) → (body : (List Value → W → Run W Flow) → List Value → W → Run W Flow) → List Value → W → Run W Flow
  rounds_first zero test body env w = spent w
  rounds_first (suc n) test body env w =
      body (λ env1 w1. bind (test env1 w1) (λ v. branching (is_true v)
      (λ w2. bind (ops.take_turn w2) (λ _ w3. rounds_first n test body env1 w3))
      (Go (Next env1)))) env w

  abbrev pub test_of : Calls W → (live : ℕ → Bool) → Option Expr → List Value → W → Run W Value
  test_of calls live None env w = Go (Number (pos 1)) w
  test_of calls live (Some e) env w = value_of calls live e env w

  -- the ways say which locals are live where the statement ends, and where its breaks and continues lead
  abbrev mutual
    pub exec : Stmt → Function → Calls W → Ways → List Value → W → Run W Flow
    exec (block body) f calls k env w = exec_all body f calls k env w
    -- int x; zero or null, each time that it is come to
    exec (declare line x None) f calls k env w = Go (Next (with_local env x (zero_of (local_type f x)))) w
    exec (declare line x (Some e)) f calls k env w = set_local calls k.next x e env w
    exec (assign line x e) f calls k env w = set_local calls k.next x e env w
    -- p->f = e; the operands of the place, the value, and then the place's tests and the store
    exec (store line place e) f calls k env w =
        bind (target ops program place (calling calls k.next env) env w) (λ t w1.
        bind (value_of calls k.next e env w1) (λ v w2.
        bind (ops.store line t v w2) (λ _ w3. Go (Next env) w3)))
    -- p->f += e; the operands of the place, the right side, the place's tests and its old value, the new value, and the store
    exec (update line place change e) f calls k env w =
        bind (target ops program place (calling calls k.next env) env w) (λ t w1.
        bind (value_of calls k.next e env w1) (λ v w2.
        bind (ops.load line t w2) (λ old w3.
        bind (changed line change old v w3) (λ new w4.
        bind (ops.store line t new w4) (λ _ w5. Go (Next env) w5)))))
    -- *p = *q; the operands of the left place, those of the right, all cells of the right, and then those of the left are tested
    -- and set
    exec (copy line s left right) f calls k env w =
        bind (target ops program left (calling calls k.next env) env w) (λ to w1.
        bind (target ops program right (calling calls k.next env) env w1) (λ from w2.
        bind (ops.load_all line from (size program.structs (struct s)) w2) (λ vs w3.
        bind (ops.store_all line to vs w3) (λ _ w4. Go (Next env) w4))))
    exec (evaluate line e) f calls k env w = bind (value_of calls k.next e env w) (λ _ w1. Go (Next env) w1)
    -- deleteregion(e); the region, and then the deletion, with the values of what is live behind it
    exec (delete line e) f calls k env w =
        bind (value_of calls k.next e env w) (λ v w1. bind (ops.delete line (held k.next env) v w1) (λ _ w2. Go (Next env) w2))
    -- if (test) a else b; in the condition's calls what is live on either way is held
    exec (branch line test a b) f calls k env w =
        bind (value_of calls (either (before a k) (before b k)) test env w) (λ v. branching (is_true v) (exec a f calls k env) (exec b f calls k env))
    -- while (test) body
    exec (while line test body) f calls k env w =
        rounds (suc (ops.turns_left w))
        (value_of calls (either k.next (before body (while_body test body k))) test)
        (λ again env1 w1. bind (exec body f calls (while_body test body k) env1 w1) (behind_body again))
        env w
    -- do body while (test);
    exec (repeat line body test) f calls k env w =
        rounds_first (suc (ops.turns_left w))
        (value_of calls (either k.next (repeat_head body test k)) test)
        (λ again env1 w1. bind (exec body f calls (repeat_body body test k) env1 w1) (behind_body again))
        env w
    -- for (first; test; third) body; behind a round the third part, and then the turn. A `continue` leads to the third part.
    exec (for line first test third body) f calls k env w =
        bind (exec first f calls (then_live (for_head test third body k) k) env w) (behind (λ env1 w1.
        rounds (suc (ops.turns_left w1))
        (test_of calls (either k.next (before body (for_body test third body k))) test)
        (λ again env2 w2. bind (exec body f calls (for_body test third body k) env2 w2)
        (behind_body (λ env3 w3. bind (exec third f calls (for_third test third body k) env3 w3) (behind again))))
        env1 w1))
    exec (break line) f calls k env w = Go (Broke env) w
    exec (continue line) f calls k env w = Go (Continued env) w
    exec (return line None) f calls k env w = Go (Returned Null) w
    -- return e; no local is live behind it
    exec (return line (Some e)) f calls k env w = bind (value_of calls (λ _. false) e env w) (λ v w1. Go (Returned v) w1)

    pub exec_all : Stmts → Function → Calls W → Ways → List Value → W → Run W Flow
    exec_all done f calls k env w = Go (Next env) w
    exec_all (then s rest) f calls k env w =
        bind (exec s f calls (then_live (before_all rest k) k) env w) (behind (exec_all rest f calls k))

  abbrev pub run_function : Calls W → Option Function → List Value → W → Run W Value
  run_function calls None arguments w = Go Null w
  run_function calls (Some f) arguments w = bind (exec f.body f calls at_end (first_locals f arguments) w) (result_of f.result)

  -- a call takes its turn, behind its arguments. At most so many calls stand inside one another. The number only makes this a
  -- function: each call takes a turn, so where it is more than the turns that are left, they end first.
  abbrev pub calls_within : ℕ → Calls W
  calls_within zero f arguments w = spent w
  calls_within (suc n) f arguments w =
      bind (ops.take_turn w) (λ _ w1. run_function (calls_within n) (slice_get program.functions f) arguments w1)

  -- a call of `main`
  abbrev pub run_main : W → Run W Value
  run_main w = calls_within (suc (ops.turns_left w)) program.main [] w
