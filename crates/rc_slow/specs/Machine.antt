-- The machine: a step at a time, it does what the meaning does at once.
use Rattle.std.specs.Prelude.{ℕ, suc, pos, true, false, not, List, [], ◌∷◌, ◌++◌, Option}
use Rattle.rc_core.specs.Numbers.{byte_of}
use Rattle.rc_core.specs.Arithmetic.{converted, calculate, calculate_one}
use Rattle.rc_core.specs.Types.{struct}
use Rattle.rc_core.specs.Programs.{Expr, step, step_from, unary, binary, convert, not_zero, and, or, choose, is_null, same, new_subregion, region_of, allocate, allocate_array, putchar, Place, global, pointed, indexed, Stmt, declare, assign, store, update, copy, delete, branch, while, repeat, for, return, Function, Program}
use Rattle.rc_core.specs.Layout.{cells, size, stride}
use Rattle.rc_core.specs.Heap.{Value, Number}
use Rattle.rc_core.specs.Live.{Ways, before, while_body, repeat_body, repeat_head, for_third, for_body, either}
use Rattle.rc_core.specs.Runs.{Run, Go, bind, branching, computed, Target, Calls}
use Rattle.rc_core.specs.Evaluation.{number_in, is_true, toward, aimed, choosing, region_named, give_number, as_wanted, same_value, eval, eval_all, target, along}
use Rattle.rc_core.specs.Execution.{Flow, Next, Broke, Continued, Returned, held, with_local, zero_result, result_of, behind, behind_body as behind_round, calling, value_of, changed, rounds, rounds_first, test_of, exec, exec_all}
use Rattle.rc_memory.specs.KeptWorld.{KeptWorld, kept}
use Rattle.rc_frames.specs.Frames.{Frame, first, second, argument, pointer, index, element as element_frame, load, inside, Stage, placed, sourced, valued, stored, within, tested, bodied, headed, thirded, ways}
use Rattle.rc_nodes.specs.Stepping.{Control, evaluating, executing, going_along, gives, aims, goes, breaks, continues, returns, Doing, after_second}

module _ (program : Program) (f : Function) (calls : Calls KeptWorld) where
  -- an expression whose first part has a value
  abbrev pub after_first : Expr → Calls KeptWorld → Value → List Value → KeptWorld → Run KeptWorld Value
  after_first (step line direction p i) c v env w = bind (eval kept program i c env w) (λ u w1. kept.step line v (toward direction (number_in u)) w1)
  after_first (step_from line i p) c v env w = bind (eval kept program p c env w) (λ u w1. kept.step line u (number_in v) w1)
  after_first (unary line operator s e) c v env w = bind (computed line (calculate_one operator s (number_in v)) w) give_number
  after_first (binary line operator s a b) c v env w = bind (eval kept program b c env w) (λ u w1. bind (computed line (calculate operator s (number_in v) (number_in u)) w1) give_number)
  after_first (convert line from to e) c v env w = Go (Number (converted to (number_in v))) w
  after_first (not_zero line e) c v env w = Go (as_wanted false (is_true v)) w
  after_first (and line a b) c v env w = branching (is_true v) (λ w1. bind (eval kept program b c env w1) (λ u w2. Go (as_wanted true (is_true u)) w2)) (Go (Number (pos 0))) w
  after_first (or line a b) c v env w = branching (is_true v) (Go (Number (pos 1))) (λ w1. bind (eval kept program b c env w1) (λ u w2. Go (as_wanted true (is_true u)) w2)) w
  after_first (choose line test a b) c v env w = branching (is_true v) (eval kept program a c env) (eval kept program b c env) w
  after_first (is_null line wanted e) c v env w = Go (as_wanted wanted (not (is_true v))) w
  after_first (same line wanted a b) c v env w = bind (eval kept program b c env w) (λ u w1. Go (as_wanted wanted (same_value v u)) w1)
  after_first (new_subregion line r) c v env w = kept.new_subregion line v w
  after_first (region_of line p) c v env w = region_named line v w
  after_first (allocate line r ty) c v env w = kept.allocate line v (pos 1) (cells program.structs ty) w
  after_first (allocate_array line r n ty) c v env w = bind (eval kept program n c env w) (λ u w1. kept.allocate line v (number_in u) (cells program.structs ty) w1)
  after_first (putchar line e) c v env w = bind (kept.put_byte (byte_of (number_in v)) w) (λ _ w1. Go (Number (pos (byte_of (number_in v)))) w1)
  after_first _ c v env w = Go v w

  abbrev pub after_pointer : Place → Calls KeptWorld → Value → List Value → KeptWorld → Run KeptWorld Target
  after_pointer (global g path) c v env w = Go (aimed v (pos 0)) w
  after_pointer (pointed p path) c v env w = along kept program path (aimed v (pos 0)) c env w
  after_pointer (indexed p i path) c v env w = bind (eval kept program i c env w) (λ n w1. along kept program path (aimed v (number_in n)) c env w1)

  abbrev pub after_index : Place → Calls KeptWorld → (pointer index : Value) → List Value → KeptWorld → Run KeptWorld Target
  after_index (global g path) c v n env w = Go (aimed v (pos 0)) w
  after_index (pointed p path) c v n env w = Go (aimed v (pos 0)) w
  after_index (indexed p i path) c v n env w = along kept program path (aimed v (number_in n)) c env w

  -- a loop, from the end of a round on
  abbrev pub while_rounds : ℕ → Expr → Stmt → Ways → List Value → KeptWorld → Run KeptWorld Flow
  while_rounds n test body k env w =
      rounds kept program n (value_of kept program calls (either k.next (before body (while_body test body k))) test)
      (λ again env1 w1. bind (exec kept program body f calls (while_body test body k) env1 w1) (behind_round again)) env w

  abbrev pub repeat_rounds : ℕ → Stmt → Expr → Ways → List Value → KeptWorld → Run KeptWorld Flow
  repeat_rounds n body test k env w =
      rounds_first kept program n (value_of kept program calls (either k.next (repeat_head body test k)) test)
      (λ again env1 w1. bind (exec kept program body f calls (repeat_body body test k) env1 w1) (behind_round again)) env w

  abbrev pub for_rounds : ℕ → Option Expr → (third body : Stmt) → Ways → List Value → KeptWorld → Run KeptWorld Flow
  for_rounds n test third body k env w =
      rounds kept program n (test_of kept program calls (either k.next (before body (for_body test third body k))) test)
      (λ again env1 w1. bind (exec kept program body f calls (for_body test third body k) env1 w1)
      (behind_round (λ env2 w2. bind (exec kept program third f calls (for_third test third body k) env2 w2) (behind again)))) env w

  abbrev pub turning : (List Value → KeptWorld → Run KeptWorld Flow) → List Value → KeptWorld → Run KeptWorld Flow
  turning go env w = bind (kept.take_turn w) (λ _ w1. go env w1)

  abbrev pub value_given : Stmt → Ways → Value → List Value → KeptWorld → Run KeptWorld Flow
  value_given (declare line x e) k v env w = Go (Next (with_local env x v)) w
  value_given (assign line x e) k v env w = Go (Next (with_local env x v)) w
  value_given (delete line e) k v env w = bind (kept.delete line (held k.next env) v w) (λ _ w1. Go (Next env) w1)
  value_given (branch line test a b) k v env w = branching (is_true v) (exec kept program a f calls k env) (exec kept program b f calls k env) w
  value_given (return line e) k v env w = Go (Returned v) w
  value_given _ k v env w = Go (Next env) w

  abbrev pub stored_given : Stmt → Target → Value → List Value → KeptWorld → Run KeptWorld Flow
  stored_given (store line place e) t v env w = bind (kept.store line t v w) (λ _ w1. Go (Next env) w1)
  stored_given (update line place change e) t v env w =
      bind (kept.load line t w) (λ old w1.
      bind (changed kept program line change old v w1) (λ new w2.
      bind (kept.store line t new w2) (λ _ w3. Go (Next env) w3)))
  stored_given _ t v env w = Go (Next env) w

  abbrev pub test_given : Stmt → ℕ → Ways → Value → List Value → KeptWorld → Run KeptWorld Flow
  test_given (while line test body) n k v env w =
      branching (is_true v) (λ w1. bind (exec kept program body f calls (while_body test body k) env w1) (behind_round (turning (while_rounds n test body k)))) (Go (Next env)) w
  test_given (repeat line body test) n k v env w =
      branching (is_true v) (turning (repeat_rounds n body test k) env) (Go (Next env)) w
  test_given (for line head test third body) n k v env w =
      branching (is_true v) (λ w1. bind (exec kept program body f calls (for_body test third body k) env w1)
      (behind_round (λ env2 w2. bind (exec kept program third f calls (for_third test third body k) env2 w2) (behind (turning (for_rounds n test third body k)))))) (Go (Next env)) w
  test_given _ n k v env w = Go (Next env) w

  abbrev pub given : Stmt → Stage → Ways → Value → List Value → KeptWorld → Run KeptWorld Flow
  given s valued k v env w = value_given s k v env w
  given s (stored t) k v env w = stored_given s t v env w
  given s (tested n) k v env w = test_given s n k v env w
  given s _ k v env w = Go (Next env) w

  abbrev pub copied : (line structure : ℕ) → (to from : Target) → List Value → KeptWorld → Run KeptWorld Flow
  copied line s to from env w =
      bind (kept.load_all line from (size program.structs (struct s)) w) (λ vs w1.
      bind (kept.store_all line to vs w1) (λ _ w2. Go (Next env) w2))

  abbrev pub place_given : Stmt → Ways → Target → List Value → KeptWorld → Run KeptWorld Flow
  place_given (store line place e) k t env w = bind (value_of kept program calls k.next e env w) (λ v w1. stored_given (store line place e) t v env w1)
  place_given (update line place change e) k t env w = bind (value_of kept program calls k.next e env w) (λ v w1. stored_given (update line place change e) t v env w1)
  place_given (copy line s left right) k to env w = bind (target kept program right (calling kept program calls k.next env) env w) (λ from w1. copied line s to from env w1)
  place_given _ k t env w = Go (Next env) w

  abbrev pub source_given : Stmt → (to from : Target) → List Value → KeptWorld → Run KeptWorld Flow
  source_given (copy line s left right) to from env w = copied line s to from env w
  source_given _ to from env w = Go (Next env) w

  abbrev pub aimed_at : Stmt → Stage → Ways → Target → List Value → KeptWorld → Run KeptWorld Flow
  aimed_at s placed k t env w = place_given s k t env w
  aimed_at s (sourced to) k t env w = source_given s to t env w
  aimed_at s _ k t env w = Go (Next env) w

  abbrev pub body_done : Stmt → ℕ → Ways → Flow → KeptWorld → Run KeptWorld Flow
  body_done (while line test body) n k flow w = behind_round (turning (while_rounds n test body k)) flow w
  body_done (repeat line body test) n k flow w =
      behind_round (λ env1 w1. bind (value_of kept program calls (either k.next (repeat_head body test k)) test env1 w1) (λ v.
      branching (is_true v) (turning (repeat_rounds n body test k) env1) (Go (Next env1)))) flow w
  body_done (for line head test third body) n k flow w =
      behind_round (λ env2 w2. bind (exec kept program third f calls (for_third test third body k) env2 w2) (behind (turning (for_rounds n test third body k)))) flow w
  body_done _ n k flow w = Go flow w

  abbrev pub third_done : Stmt → ℕ → Ways → Flow → KeptWorld → Run KeptWorld Flow
  third_done (for line head test third body) n k flow w = behind (turning (for_rounds n test third body k)) flow w
  third_done _ n k flow w = Go flow w

  abbrev pub head_done : Stmt → Ways → Flow → KeptWorld → Run KeptWorld Flow
  head_done (for line head test third body) k flow w = behind (λ env1 w1. for_rounds (suc w1.turns) test third body k env1 w1) flow w
  head_done _ k flow w = Go flow w

  abbrev pub finished : Stmt → Stage → Ways → Flow → KeptWorld → Run KeptWorld Flow
  finished s (within rest) k flow w = behind (exec_all kept program rest f calls k) flow w
  finished s (bodied n) k flow w = body_done s n k flow w
  finished s headed k flow w = head_done s k flow w
  finished s (thirded n) k flow w = third_done s n k flow w
  finished s _ k flow w = Go flow w

  abbrev pub calls_at : List Frame → List Value → Calls KeptWorld
  calls_at fs env = calling kept program calls (ways fs).next env

  -- how a function goes on where a flow, a place or a value comes out
  abbrev pub flow_on : List Frame → Flow → KeptWorld → Run KeptWorld Value
  flow_on [] flow w = result_of f.result flow w
  flow_on (inside s stage ∷ fs) flow w = bind (finished s stage (ways fs) flow w) (flow_on fs)
  flow_on (first e ∷ fs) flow w = flow_on fs flow w
  flow_on (second e u ∷ fs) flow w = flow_on fs flow w
  flow_on (argument g vs es ∷ fs) flow w = flow_on fs flow w
  flow_on (pointer p ∷ fs) flow w = flow_on fs flow w
  flow_on (index p u ∷ fs) flow w = flow_on fs flow w
  flow_on (element_frame t count stride path ∷ fs) flow w = flow_on fs flow w
  flow_on (load line ∷ fs) flow w = flow_on fs flow w

  abbrev mutual
    pub give_on : List Frame → Value → List Value → KeptWorld → Run KeptWorld Value
    give_on [] v env w = Go v w
    give_on (first e ∷ fs) v env w = bind (after_first e (calls_at fs env) v env w) (λ u. give_on fs u env)
    give_on (second e u ∷ fs) v env w = bind (after_second program f calls e u v w) (λ x. give_on fs x env)
    give_on (argument g vs es ∷ fs) v env w = bind (eval_all kept program es (calls_at fs env) env w) (λ us w1. bind (calls_at fs env g (vs ++ v ∷ us) w1) (λ x. give_on fs x env))
    give_on (pointer p ∷ fs) v env w = bind (after_pointer p (calls_at fs env) v env w) (λ t. aim_on fs t env)
    give_on (index p u ∷ fs) v env w = bind (after_index p (calls_at fs env) u v env w) (λ t. aim_on fs t env)
    give_on (element_frame t count stride path ∷ fs) v env w = bind (along kept program path (choosing (record { index = number_in v; count = count; stride = stride }) t) (calls_at fs env) env w) (λ t. aim_on fs t env)
    give_on (load line ∷ fs) v env w = give_on fs v env w
    give_on (inside s stage ∷ fs) v env w = bind (given s stage (ways fs) v env w) (flow_on fs)

    pub aim_on : List Frame → Target → List Value → KeptWorld → Run KeptWorld Value
    aim_on [] t env w = Go (zero_result f.result) w
    aim_on (load line ∷ fs) t env w = bind (kept.load line t w) (λ v. give_on fs v env)
    aim_on (inside s stage ∷ fs) t env w = bind (aimed_at s stage (ways fs) t env w) (flow_on fs)
    aim_on (first e ∷ fs) t env w = aim_on fs t env w
    aim_on (second e u ∷ fs) t env w = aim_on fs t env w
    aim_on (argument g vs es ∷ fs) t env w = aim_on fs t env w
    aim_on (pointer p ∷ fs) t env w = aim_on fs t env w
    aim_on (index p u ∷ fs) t env w = aim_on fs t env w
    aim_on (element_frame x count stride path ∷ fs) t env w = aim_on fs t env w

-- the function from there on
abbrev pub control_on : (program : Program) → Function → Calls KeptWorld → Control → List Frame → List Value → KeptWorld → Run KeptWorld Value
control_on program f calls (evaluating e) fs env w = bind (eval kept program e (calls_at program f calls fs env) env w) (λ v. give_on program f calls fs v env)
control_on program f calls (executing s) fs env w = bind (exec kept program s f calls (ways fs) env w) (flow_on program f calls fs)
control_on program f calls (going_along t path) fs env w = bind (along kept program path t (calls_at program f calls fs env) env w) (λ x. aim_on program f calls fs x env)
control_on program f calls (gives v) fs env w = give_on program f calls fs v env w
control_on program f calls (aims t) fs env w = aim_on program f calls fs t env w
control_on program f calls goes fs env w = flow_on program f calls fs (Next env) w
control_on program f calls breaks fs env w = flow_on program f calls fs (Broke env) w
control_on program f calls continues fs env w = flow_on program f calls fs (Continued env) w
control_on program f calls (returns v) fs env w = flow_on program f calls fs (Returned v) w

abbrev pub going_on : (program : Program) → Function → Calls KeptWorld → Doing → KeptWorld → Run KeptWorld Value
going_on program f calls d w = control_on program f calls d.control d.frames d.locals w
