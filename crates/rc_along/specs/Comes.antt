-- What a run of region code comes to, over the source's world: each call, each statement, act and step with the locals, the temporaries and
-- the world where it does, and each point, with the values of the function's region variables and the heap before what stands there is
-- done. It follows the equations of runs: what stands behind something is come to where that goes on, an arm or a body where the test says
-- so, and a function's body behind the turn of its call. A next round of a loop is the loop again. Within an update and a struct copy the
-- old value, the new one and a cell's value stand in the temporary behind the operands.
use Rattle.std.specs.Prelude.{◌≡◌, ℕ, suc, ◌+◌, ◌<◌, ◌≤◌, Bool, true, false, ◌||◌, ◌&&◌, List, [], ◌∷◌, Option, Some, is_some, slice_get}
use Rattle.rc_core.specs.declared.stmt.Change.{Change}
use Rattle.rc_core.specs.declared.stmt.Change.TheVariants.{Compute, Step as Stepping_by}
use Rattle.rc_core.specs.Arithmetic.{type_of}
use Rattle.rc_core.specs.Types.{Ty, CellKind}
use Rattle.rc_core.specs.Layout.{Layout}
use Rattle.rc_core.specs.Heap.{Value, Heap, zero_of}
use Rattle.rc_core.specs.Live.{Ways, then_live, round, at_end}
use Rattle.rc_core.specs.Runs.{Run, Go, Target}
use Rattle.rc_core.specs.Source.{World, source}
use Rattle.rc_rlang.specs.Points.{conversion_points}
use Rattle.rc_rlang.specs.RegionCode.{Access, width, call, Step, set, fork, Steps, more, Act, perform, update, move, Test, Code, simple, clear, block, branch, loop, repeat, break, continue, Codes, then, Routine, Rlang}
use Rattle.rc_rlang.specs.RegionFlow.{one_of}
use Rattle.rc_rlang.specs.RegionLive.{before_steps, before_act, before_code, before_codes, loop_head, repeat_tail}
use Rattle.rc_rlang.specs.RegionPoints.{step_points, steps_points, act_points, branch_points, code_points}
use Rattle.rc_rlang.specs.RegionRuns.{Temporaries, temporary, temporaries_from, with_temporary, set_kind, change_kind, with_cell, blank_temporaries, kept_all, kept_cell, holds, target_at, held, sized, test_value, Way, Next, Continued, step_run, steps_run, new_value, code_run, deletes, calls_within}
use Rattle.rc_annotations.specs.Variables.{values_of}
use Rattle.rc_along.specs.Along.{given_to}
use Rattle.rc_along.specs.MarkedRuns.{before_store}

-- a call under way: how many more may stand inside it, its function and the hidden copies of its regions and pointers
pub record Activation : Type 0 where
  pub depth : ℕ
  pub function : ℕ
  pub routine : Routine
  pub copied : List Value

abbrev pub activation : (depth function : ℕ) → Routine → (arguments : List Value) → Activation
activation n k f arguments = record { depth = n; function = k; routine = f; copied = given_to f arguments }

-- the values of its region variables
abbrev pub seen : Activation → (locals : List Value) → Temporaries → ℕ → Value
seen c env t = values_of c.routine c.copied env t.regions

pub data Part : Type 0 where
  At : (function point : ℕ) → (values : ℕ → Value) → Heap → Part
  Calling : (depth function : ℕ) → (arguments : List Value) → World → Part
  -- from a point on, while these locals are live behind it
  Stepping : Activation → Steps → (here : ℕ) → (live : ℕ → Bool) → (locals : List Value) → Temporaries → World → Part
  Acting : Activation → Act → (here : ℕ) → (live : ℕ → Bool) → (locals : List Value) → Temporaries → World → Part
  -- cells of a struct, through a temporary
  Moving : Activation → (line temporary : ℕ) → Layout → (from to : Target) → (here : ℕ) → (locals : List Value) → Temporaries → World → Part
  Running : Activation → Code → (here : ℕ) → Ways → (locals : List Value) → Temporaries → World → Part
  RunningAll : Activation → Codes → (here : ℕ) → Ways → (locals : List Value) → Temporaries → World → Part

-- the point of an update's operation, behind its first
abbrev pub operation_place : Change → ℕ
operation_place (Compute from operator s) = 1 + conversion_points from (type_of s)
operation_place (Stepping_by direction) = 1

-- what is live behind a loop's condition, in its body and behind its third part
abbrev pub loop_third : Steps → Option Test → (third body : Code) → Ways → Ways
loop_third steps test third body k = then_live (loop_head steps test third body k) k

abbrev pub loop_body : Steps → Option Test → (third body : Code) → Ways → Ways
loop_body steps test third body k = round (before_code third (loop_third steps test third body k)) k

abbrev pub loop_live : Steps → Option Test → (third body : Code) → Ways → ℕ → Bool
loop_live steps test third body k y = (is_some test && k.next y) || before_code body (loop_body steps test third body k) y

abbrev pub repeat_body : (body : Code) → Steps → Test → Ways → Ways
repeat_body body steps test k = round (repeat_tail body steps test k) k

abbrev pub repeat_live : (body : Code) → Steps → Test → Ways → ℕ → Bool
repeat_live body steps test k y = k.next y || before_code (repeat 0 body steps test) k y

-- the points of a loop's branch, its body and its third part, and of a `do`'s condition
abbrev pub loop_at_test : (here : ℕ) → Steps → ℕ
loop_at_test here steps = suc here + steps_points steps

abbrev pub loop_at_body : (here : ℕ) → Steps → Option Test → ℕ
loop_at_body here steps test = loop_at_test here steps + branch_points test

abbrev pub loop_at_third : (here : ℕ) → Steps → Option Test → (body : Code) → ℕ
loop_at_third here steps test body = loop_at_body here steps test + code_points body

abbrev pub repeat_at_tail : (here : ℕ) → (body : Code) → ℕ
repeat_at_tail here body = suc here + code_points body

-- where a body goes on: to what stands behind a loop's body, or to its function's end
pub data GoesOn : Way → (locals : List Value) → Temporaries → Type 0 where
  on : (env : List Value) (t : Temporaries) → GoesOn (Next env t) env t
  on_again : (env : List Value) (t : Temporaries) → GoesOn (Continued env t) env t

module _ (r : Rlang) where
  abbrev pub step_in : Activation → Step → (live : ℕ → Bool) → List Value → Temporaries → World → Run World Temporaries
  step_in c s live env t w = step_run source (deletes r) c.routine.locals s (calls_within source r c.depth) live env t w

  abbrev pub steps_in : Activation → Steps → (live : ℕ → Bool) → List Value → Temporaries → World → Run World Temporaries
  steps_in c steps live env t w = steps_run source (deletes r) c.routine.locals steps (calls_within source r c.depth) live env t w

  abbrev pub code_in : Activation → Code → Ways → List Value → Temporaries → World → Run World Way
  code_in c x k env t w = code_run source (deletes r) c.routine.locals x (calls_within source r c.depth) k env t w

  abbrev pub changed_in : Activation → (line : ℕ) → Change → Ty → (old operand : Value) → World → Run World Value
  changed_in c line change ty old v w = new_value source (deletes r) c.routine.locals line change ty old v w

  -- where the called function deletes, the live locals are held
  abbrev pub entered : Activation → (function : ℕ) → (live : ℕ → Bool) → List Value → World → World
  entered c k live env w = one_of (deletes r k) (source.enter (held source (deletes r) c.routine.locals live env) w) w

  -- the run of `main` from a world comes to the part
  module _ (first : World) where
    pub data Comes : Part → Type 0 where
      -- calls; at a function's entry its locals are zero and null
      at_main : Comes (Calling (suc (source.turns_left first)) r.main [] first)
      at_entry : (n k : ℕ) (f : Routine) (xs : List Value) (w w1 : World) → Comes (Calling (suc n) k xs w) → slice_get r.functions k ≡ Some f → source.take_turn w ≡ Go tt w1
          → Comes (At k 0 (seen (activation n k f xs) (sized f.locals []) blank_temporaries) w1.heap)
      at_body : (n k : ℕ) (f : Routine) (xs : List Value) (w w1 : World) → Comes (Calling (suc n) k xs w) → slice_get r.functions k ≡ Some f → source.take_turn w ≡ Go tt w1
          → Comes (Running (activation n k f xs) f.body 1 at_end (sized f.locals xs) blank_temporaries w1)
      behind_body : (n k : ℕ) (f : Routine) (xs : List Value) (w w1 w2 : World) (env : List Value) (t : Temporaries) → Comes (Calling (suc n) k xs w) → slice_get r.functions k ≡ Some f → source.take_turn w ≡ Go tt w1
          → code_in (activation n k f xs) f.body at_end (sized f.locals xs) blank_temporaries w1 ≡ Go (Next env t) w2
          → Comes (At k (suc (code_points f.body)) (seen (activation n k f xs) env t) w2.heap)
      at_zero_return : (n k : ℕ) (f : Routine) (xs : List Value) (w w1 w2 : World) (env : List Value) (t : Temporaries) (ty : Ty) → Comes (Calling (suc n) k xs w) → slice_get r.functions k ≡ Some f → source.take_turn w ≡ Go tt w1
          → code_in (activation n k f xs) f.body at_end (sized f.locals xs) blank_temporaries w1 ≡ Go (Next env t) w2 → f.result ≡ Some ty
          → Comes (At k (suc (suc (code_points f.body))) (seen (activation n k f xs) env (with_temporary ty t 0 (zero_of ty))) w2.heap)
      -- steps
      at_step : (c : Activation) (s : Step) (rest : Steps) (here : ℕ) (live : ℕ → Bool) (env : List Value) (t : Temporaries) (w : World) → Comes (Stepping c (more s rest) here live env t w) → Comes (At c.function here (seen c env t) w.heap)
      at_yes : (c : Activation) (line h : ℕ) (ty to : Ty) (a b rest : Steps) (here : ℕ) (live : ℕ → Bool) (env : List Value) (t : Temporaries) (w : World) → Comes (Stepping c (more (fork line h ty to a b) rest) here live env t w) → holds ty (temporary ty t h) ≡ true
          → Comes (Stepping c a (suc here) (before_steps rest live) env t w)
      at_no : (c : Activation) (line h : ℕ) (ty to : Ty) (a b rest : Steps) (here : ℕ) (live : ℕ → Bool) (env : List Value) (t : Temporaries) (w : World) → Comes (Stepping c (more (fork line h ty to a b) rest) here live env t w) → holds ty (temporary ty t h) ≡ false
          → Comes (Stepping c b (suc here + steps_points a) (before_steps rest live) env t w)
      at_call : (c : Activation) (line h : ℕ) (ty : Ty) (k : ℕ) (tys : List Ty) (rest : Steps) (here : ℕ) (live : ℕ → Bool) (env : List Value) (t : Temporaries) (w : World) → Comes (Stepping c (more (set line h ty (call k tys)) rest) here live env t w)
          → Comes (Calling c.depth k (kept_all tys (temporaries_from tys t h)) (entered c k (before_steps rest live) env w))
      at_next_step : (c : Activation) (s : Step) (rest : Steps) (here : ℕ) (live : ℕ → Bool) (env : List Value) (t t1 : Temporaries) (w w1 : World) → Comes (Stepping c (more s rest) here live env t w) → step_in c s (before_steps rest live) env t w ≡ Go t1 w1
          → Comes (Stepping c rest (here + step_points s) live env t1 w1)
      -- acts
      at_act : (c : Activation) (act : Act) (here : ℕ) (live : ℕ → Bool) (env : List Value) (t : Temporaries) (w : World) → Comes (Acting c act here live env t w) → 0 < act_points act → Comes (At c.function here (seen c env t) w.heap)
      at_performed : (c : Activation) (line k : ℕ) (tys : List Ty) (here : ℕ) (live : ℕ → Bool) (env : List Value) (t : Temporaries) (w : World) → Comes (Acting c (perform line k tys) here live env t w)
          → Comes (Calling c.depth k (kept_all tys (temporaries_from tys t 0)) (entered c k live env w))
      in_update : (c : Activation) (line : ℕ) (a : Access) (change : Change) (ty : Ty) (here : ℕ) (live : ℕ → Bool) (env : List Value) (t : Temporaries) (w : World) (old : Value) (w1 : World) (i : ℕ) → Comes (Acting c (update line a change ty) here live env t w)
          → source.load line (target_at a t 0) w ≡ Go old w1 → 0 < i → i ≤ operation_place change → Comes (At c.function (here + i) (seen c env (set_kind (change_kind change) t (suc (width a)) old)) w1.heap)
      behind_operation : (c : Activation) (line : ℕ) (a : Access) (change : Change) (ty : Ty) (here : ℕ) (live : ℕ → Bool) (env : List Value) (t : Temporaries) (w : World) (old : Value) (w1 : World) (new : Value) (w2 : World) (i : ℕ) → Comes (Acting c (update line a change ty) here live env t w)
          → source.load line (target_at a t 0) w ≡ Go old w1 → changed_in c line change ty old (temporary ty t (width a)) w1 ≡ Go new w2 → operation_place change < i → i ≤ before_store change
          → Comes (At c.function (here + i) (seen c env (set_kind (change_kind change) t (suc (width a)) new)) w2.heap)
      at_cells : (c : Activation) (line : ℕ) (cells : Layout) (left right : Access) (here : ℕ) (live : ℕ → Bool) (env : List Value) (t : Temporaries) (w : World) → Comes (Acting c (move line cells left right) here live env t w)
          → Comes (Moving c line (width left + width right) cells (target_at right t (width left)) (target_at left t 0) here env t w)
      at_cell : (c : Activation) (line h : ℕ) (kind : CellKind) (kinds : Layout) (from to : Target) (here : ℕ) (env : List Value) (t : Temporaries) (w : World) → Comes (Moving c line h (kind ∷ kinds) from to here env t w) → Comes (At c.function here (seen c env t) w.heap)
      at_loaded_cell : (c : Activation) (line h : ℕ) (kind : CellKind) (kinds : Layout) (from to : Target) (here : ℕ) (env : List Value) (t : Temporaries) (w : World) (v : Value) (w1 : World) → Comes (Moving c line h (kind ∷ kinds) from to here env t w) → source.load line from w ≡ Go v w1
          → Comes (At c.function (suc here) (seen c env (with_cell kind t h v)) w1.heap)
      at_next_cell : (c : Activation) (line h : ℕ) (kind : CellKind) (kinds : Layout) (from to : Target) (here : ℕ) (env : List Value) (t : Temporaries) (w : World) (v : Value) (w1 w2 : World) → Comes (Moving c line h (kind ∷ kinds) from to here env t w) → source.load line from w ≡ Go v w1
          → source.store line to (kept_cell kind v) w1 ≡ Go tt w2 → Comes (Moving c line h kinds (record from { offset = suc from.offset }) (record to { offset = suc to.offset }) (suc (suc here)) env (with_cell kind t h v) w2)
      -- statements
      at_steps : (c : Activation) (steps : Steps) (act : Act) (here : ℕ) (k : Ways) (env : List Value) (t : Temporaries) (w : World) → Comes (Running c (simple steps act) here k env t w) → Comes (Stepping c steps here (before_act act k.next) env t w)
      behind_steps : (c : Activation) (steps : Steps) (act : Act) (here : ℕ) (k : Ways) (env : List Value) (t : Temporaries) (w : World) (t1 : Temporaries) (w1 : World) → Comes (Running c (simple steps act) here k env t w) → steps_in c steps (before_act act k.next) env t w ≡ Go t1 w1
          → Comes (Acting c act (here + steps_points steps) k.next env t1 w1)
      at_clear : (c : Activation) (line x : ℕ) (ty : Ty) (here : ℕ) (k : Ways) (env : List Value) (t : Temporaries) (w : World) → Comes (Running c (clear line x ty) here k env t w) → Comes (At c.function here (seen c env t) w.heap)
      at_break : (c : Activation) (line here : ℕ) (k : Ways) (env : List Value) (t : Temporaries) (w : World) → Comes (Running c (break line) here k env t w) → Comes (At c.function here (seen c env t) w.heap)
      at_continue : (c : Activation) (line here : ℕ) (k : Ways) (env : List Value) (t : Temporaries) (w : World) → Comes (Running c (continue line) here k env t w) → Comes (At c.function here (seen c env t) w.heap)
      at_block : (c : Activation) (codes : Codes) (here : ℕ) (k : Ways) (env : List Value) (t : Temporaries) (w : World) → Comes (Running c (block codes) here k env t w) → Comes (RunningAll c codes here k env t w)
      at_first : (c : Activation) (x : Code) (rest : Codes) (here : ℕ) (k : Ways) (env : List Value) (t : Temporaries) (w : World) → Comes (RunningAll c (then x rest) here k env t w) → Comes (Running c x here (then_live (before_codes rest k) k) env t w)
      at_rest : (c : Activation) (x : Code) (rest : Codes) (here : ℕ) (k : Ways) (env : List Value) (t : Temporaries) (w : World) (env1 : List Value) (t1 : Temporaries) (w1 : World) → Comes (RunningAll c (then x rest) here k env t w) → code_in c x (then_live (before_codes rest k) k) env t w ≡ Go (Next env1 t1) w1
          → Comes (RunningAll c rest (here + code_points x) k env1 t1 w1)
      at_condition : (c : Activation) (steps : Steps) (test : Test) (a b : Code) (here : ℕ) (k : Ways) (env : List Value) (t : Temporaries) (w : World) → Comes (Running c (branch steps test a b) here k env t w) → Comes (Stepping c steps here (λ y. before_code a k y || before_code b k y) env t w)
      at_branch : (c : Activation) (steps : Steps) (test : Test) (a b : Code) (here : ℕ) (k : Ways) (env : List Value) (t : Temporaries) (w : World) (t1 : Temporaries) (w1 : World) → Comes (Running c (branch steps test a b) here k env t w)
          → steps_in c steps (λ y. before_code a k y || before_code b k y) env t w ≡ Go t1 w1 → Comes (At c.function (here + steps_points steps) (seen c env t1) w1.heap)
      at_true : (c : Activation) (steps : Steps) (test : Test) (a b : Code) (here : ℕ) (k : Ways) (env : List Value) (t : Temporaries) (w : World) (t1 : Temporaries) (w1 : World) → Comes (Running c (branch steps test a b) here k env t w)
          → steps_in c steps (λ y. before_code a k y || before_code b k y) env t w ≡ Go t1 w1 → test_value (Some test) t1 ≡ true → Comes (Running c a (suc (here + steps_points steps)) k env t1 w1)
      at_false : (c : Activation) (steps : Steps) (test : Test) (a b : Code) (here : ℕ) (k : Ways) (env : List Value) (t : Temporaries) (w : World) (t1 : Temporaries) (w1 : World) → Comes (Running c (branch steps test a b) here k env t w)
          → steps_in c steps (λ y. before_code a k y || before_code b k y) env t w ≡ Go t1 w1 → test_value (Some test) t1 ≡ false → Comes (Running c b (suc (here + steps_points steps) + code_points a) k env t1 w1)
      -- loops
      at_loop : (c : Activation) (line : ℕ) (steps : Steps) (test : Option Test) (third a : Code) (here : ℕ) (k : Ways) (env : List Value) (t : Temporaries) (w : World) → Comes (Running c (loop line steps test third a) here k env t w) → Comes (At c.function here (seen c env t) w.heap)
      at_loop_condition : (c : Activation) (line : ℕ) (steps : Steps) (test : Option Test) (third a : Code) (here : ℕ) (k : Ways) (env : List Value) (t : Temporaries) (w : World) → Comes (Running c (loop line steps test third a) here k env t w)
          → Comes (Stepping c steps (suc here) (loop_live steps test third a k) env t w)
      at_loop_branch : (c : Activation) (line : ℕ) (steps : Steps) (test : Test) (third a : Code) (here : ℕ) (k : Ways) (env : List Value) (t : Temporaries) (w : World) (t1 : Temporaries) (w1 : World) → Comes (Running c (loop line steps (Some test) third a) here k env t w)
          → steps_in c steps (loop_live steps (Some test) third a k) env t w ≡ Go t1 w1 → Comes (At c.function (loop_at_test here steps) (seen c env t1) w1.heap)
      at_loop_body : (c : Activation) (line : ℕ) (steps : Steps) (test : Option Test) (third a : Code) (here : ℕ) (k : Ways) (env : List Value) (t : Temporaries) (w : World) (t1 : Temporaries) (w1 : World) → Comes (Running c (loop line steps test third a) here k env t w)
          → steps_in c steps (loop_live steps test third a k) env t w ≡ Go t1 w1 → test_value test t1 ≡ true → Comes (Running c a (loop_at_body here steps test) (loop_body steps test third a k) env t1 w1)
      at_third : (c : Activation) (line : ℕ) (steps : Steps) (test : Option Test) (third a : Code) (here : ℕ) (k : Ways) (env : List Value) (t : Temporaries) (w : World) (t1 : Temporaries) (w1 : World) (way : Way) (env2 : List Value) (t2 : Temporaries) (w2 : World) → Comes (Running c (loop line steps test third a) here k env t w)
          → steps_in c steps (loop_live steps test third a k) env t w ≡ Go t1 w1 → test_value test t1 ≡ true → code_in c a (loop_body steps test third a k) env t1 w1 ≡ Go way w2 → GoesOn way env2 t2
          → Comes (Running c third (loop_at_third here steps test a) (loop_third steps test third a k) env2 t2 w2)
      at_next_round : (c : Activation) (line : ℕ) (steps : Steps) (test : Option Test) (third a : Code) (here : ℕ) (k : Ways) (env : List Value) (t : Temporaries) (w : World) (t1 : Temporaries) (w1 : World) (way : Way) (env2 : List Value) (t2 : Temporaries) (w2 : World) (env3 : List Value) (t3 : Temporaries) (w3 w4 : World)
          → Comes (Running c (loop line steps test third a) here k env t w) → steps_in c steps (loop_live steps test third a k) env t w ≡ Go t1 w1 → test_value test t1 ≡ true → code_in c a (loop_body steps test third a k) env t1 w1 ≡ Go way w2 → GoesOn way env2 t2
          → code_in c third (loop_third steps test third a k) env2 t2 w2 ≡ Go (Next env3 t3) w3 → source.take_turn w3 ≡ Go tt w4 → Comes (Running c (loop line steps test third a) here k env3 t3 w4)
      at_repeat : (c : Activation) (line : ℕ) (a : Code) (steps : Steps) (test : Test) (here : ℕ) (k : Ways) (env : List Value) (t : Temporaries) (w : World) → Comes (Running c (repeat line a steps test) here k env t w) → Comes (At c.function here (seen c env t) w.heap)
      at_repeat_body : (c : Activation) (line : ℕ) (a : Code) (steps : Steps) (test : Test) (here : ℕ) (k : Ways) (env : List Value) (t : Temporaries) (w : World) → Comes (Running c (repeat line a steps test) here k env t w) → Comes (Running c a (suc here) (repeat_body a steps test k) env t w)
      at_repeat_condition : (c : Activation) (line : ℕ) (a : Code) (steps : Steps) (test : Test) (here : ℕ) (k : Ways) (env : List Value) (t : Temporaries) (w : World) (way : Way) (env1 : List Value) (t1 : Temporaries) (w1 : World) → Comes (Running c (repeat line a steps test) here k env t w)
          → code_in c a (repeat_body a steps test k) env t w ≡ Go way w1 → GoesOn way env1 t1 → Comes (Stepping c steps (repeat_at_tail here a) (repeat_live a steps test k) env1 t1 w1)
      at_repeat_branch : (c : Activation) (line : ℕ) (a : Code) (steps : Steps) (test : Test) (here : ℕ) (k : Ways) (env : List Value) (t : Temporaries) (w : World) (way : Way) (env1 : List Value) (t1 : Temporaries) (w1 : World) (t2 : Temporaries) (w2 : World) → Comes (Running c (repeat line a steps test) here k env t w)
          → code_in c a (repeat_body a steps test k) env t w ≡ Go way w1 → GoesOn way env1 t1 → steps_in c steps (repeat_live a steps test k) env1 t1 w1 ≡ Go t2 w2 → Comes (At c.function (repeat_at_tail here a + steps_points steps) (seen c env1 t2) w2.heap)
      at_repeat_round : (c : Activation) (line : ℕ) (a : Code) (steps : Steps) (test : Test) (here : ℕ) (k : Ways) (env : List Value) (t : Temporaries) (w : World) (way : Way) (env1 : List Value) (t1 : Temporaries) (w1 : World) (t2 : Temporaries) (w2 w3 : World) → Comes (Running c (repeat line a steps test) here k env t w)
          → code_in c a (repeat_body a steps test k) env t w ≡ Go way w1 → GoesOn way env1 t1 → steps_in c steps (repeat_live a steps test k) env1 t1 w1 ≡ Go t2 w2 → test_value (Some test) t2 ≡ true → source.take_turn w2 ≡ Go tt w3 → Comes (Running c (repeat line a steps test) here k env1 t2 w3)
