-- A whole run: the call that runs, those that wait, and a step of it.
use Rattle.std.specs.Prelude.{ℕ, zero, suc, Bool, true, false, List, [], ◌∷◌, ◌++◌, slice_get, Option, Some, None, if◌then◌else◌}
use Rattle.rc_core.specs.Programs.{Expr, call, Arguments, none, more, Function, Program}
use Rattle.rc_core.specs.Heap.{Value, Null}
use Rattle.rc_core.specs.Runs.{Run, Go, bind, spent, Target}
use Rattle.rc_core.specs.Evaluation.{number_in, choosing}
use Rattle.rc_core.specs.Execution.{held, first_locals, function_deletes, zero_result, calls_within}
use Rattle.rc_memory.specs.KeptWorld.{KeptWorld, kept}
use Rattle.rc_frames.specs.Frames.{Frame, first, second, argument, pointer, index, element, load, inside, ways}
use Rattle.rc_slow.specs.Machine.{give_on, control_on}
use Rattle.rc_nodes.specs.Stepping.{Control, evaluating, executing, going_along, gives, aims, goes, breaks, continues, returns, Doing, doing, begin, giving_next, first_step, second_step, pointer_step, index_step, along_step, execute, given_step, aimed_step, go_step, continue_step, break_step}

-- a call that runs or waits: its function, what waits in it, its locals, and how many calls may stand inside one another in
-- it; while it waits, whether the called function deletes, and which values waited before the call, else neither
pub record Activation : Type 0 where
  pub function : Function
  pub frames : List Frame
  pub locals : List Value
  pub calls : ℕ
  pub deletes : Bool
  pub waits : List Value

pub record State : Type 0 where
  pub control : Control
  pub now : Activation
  pub below : List Activation

-- a step leads to a state, or `main` has its value
pub data Progress : Type 0 where
  onward : State → Progress
  ended : Value → Progress

abbrev pub left : Activation → KeptWorld → KeptWorld
left a w = if a.deletes then record w { waiting = a.waits } else w

abbrev pub with_doing : State → Doing → State
with_doing s d = record { control = d.control; now = record s.now { frames = d.frames; locals = d.locals }; below = s.below }

module _ (program : Program) where
  -- the calls that wait go on with a value
  abbrev pub resume : List Activation → Value → KeptWorld → Run KeptWorld Value
  resume [] v w = Go v w
  resume (a ∷ below) v w = bind (give_on program a.function (calls_within kept program a.calls) a.frames v a.locals (left a w)) (resume below)

  -- the run from a state on
  abbrev pub whole : State → KeptWorld → Run KeptWorld Value
  whole s w = bind (control_on program s.now.function (calls_within kept program s.now.calls) s.control s.now.frames s.now.locals w) (resume s.below)

  abbrev pub finally : Progress → KeptWorld → Run KeptWorld Value
  finally (onward s) w = whole s w
  finally (ended v) w = Go v w

  abbrev pub staying : State → Run KeptWorld Doing → Run KeptWorld Progress
  staying s m = bind m (λ d. Go (onward (with_doing s d)))

  abbrev pub called : Option Function → (waiting : List Value) → State → List Value → State
  called None waiting s vs = record s { control = gives Null }
  called (Some f) waiting s vs = record {
    control = executing f.body;
    now = record { function = f; frames = []; locals = first_locals f vs; calls = 0; deletes = false; waits = [] };
    below = record s.now { deletes = f.deletes; waits = waiting } ∷ s.below;
  }

  abbrev pub with_calls : ℕ → Option Function → State → State
  with_calls n None s = s
  with_calls n (Some f) s = record s { now = record s.now { calls = n } }

  abbrev pub call_from : ℕ → Option Function → (waiting : List Value) → State → List Value → KeptWorld → Run KeptWorld Progress
  call_from zero f waiting s vs w = spent w
  call_from (suc n) f waiting s vs w = bind (kept.take_turn w) (λ _ w1. Go (onward (with_calls n f (called f waiting s vs))) w1)

  abbrev pub entered : Bool → State → KeptWorld → KeptWorld
  entered true s w = kept.enter (held (ways s.now.frames).next s.now.locals) w
  entered false s w = w

  -- a call, where its arguments have these values
  abbrev pub call_step : (function : ℕ) → State → List Value → KeptWorld → Run KeptWorld Progress
  call_step g s vs w = call_from s.now.calls (slice_get program.functions g) w.waiting s vs (entered (function_deletes (slice_get program.functions g)) s w)

  abbrev pub evaluate_step : Expr → State → KeptWorld → Run KeptWorld Progress
  evaluate_step (call line g none) s w = call_step g s [] w
  evaluate_step (call line g (more e rest)) s w = staying s (Go (doing (evaluating e) (argument g [] rest ∷ s.now.frames) s.now.locals) w)
  evaluate_step e s w = staying s (begin program e s.now.frames s.now.locals w)

  abbrev pub argument_step : (function : ℕ) → List Value → Arguments → State → Value → List Frame → KeptWorld → Run KeptWorld Progress
  argument_step g vs none s v fs w = call_step g (record s { now = record s.now { frames = fs } }) (vs ++ v ∷ []) w
  argument_step g vs (more e rest) s v fs w = staying s (Go (doing (evaluating e) (argument g (vs ++ v ∷ []) rest ∷ fs) s.now.locals) w)

  -- a call has its value; what its caller waited with counts no more
  abbrev pub leave_step : Value → List Activation → KeptWorld → Run KeptWorld Progress
  leave_step v [] w = Go (ended v) w
  leave_step v (a ∷ below) w = Go (onward (record { control = gives v; now = record a { deletes = false; waits = [] }; below = below })) (left a w)

  abbrev pub give_step : List Frame → Value → State → KeptWorld → Run KeptWorld Progress
  give_step [] v s w = leave_step v s.below w
  give_step (first e ∷ fs) v s w = staying s (first_step program e v fs s.now.locals w)
  give_step (second e u ∷ fs) v s w = staying s (second_step program s.now.function (calls_within kept program s.now.calls) e u v fs s.now.locals w)
  give_step (argument g vs es ∷ fs) v s w = argument_step g vs es s v fs w
  give_step (pointer p ∷ fs) v s w = staying s (Go (pointer_step program p v fs s.now.locals) w)
  give_step (index p u ∷ fs) v s w = staying s (Go (index_step program p u v fs s.now.locals) w)
  give_step (element t count stride path ∷ fs) v s w = staying s (Go (doing (going_along (choosing (record { index = number_in v; count = count; stride = stride }) t) path) fs s.now.locals) w)
  give_step (load line ∷ fs) v s w = staying s (Go (doing (gives v) fs s.now.locals) w)
  give_step (inside x stage ∷ fs) v s w = staying s (given_step program x stage v fs s.now.locals w)

  abbrev pub aim_step : List Frame → Target → State → KeptWorld → Run KeptWorld Progress
  aim_step [] t s w = leave_step (zero_result s.now.function.result) s.below w
  aim_step (load line ∷ fs) t s w = staying s (bind (kept.load line t w) (giving_next program fs s.now.locals))
  aim_step (inside x stage ∷ fs) t s w = staying s (aimed_step program x stage t fs s.now.locals w)
  aim_step (frame ∷ fs) t s w = staying s (Go (doing (aims t) fs s.now.locals) w)

  abbrev pub goes_step : List Frame → State → KeptWorld → Run KeptWorld Progress
  goes_step [] s w = leave_step (zero_result s.now.function.result) s.below w
  goes_step (inside x stage ∷ fs) s w = staying s (go_step program x stage fs s.now.locals w)
  goes_step (frame ∷ fs) s w = staying s (Go (doing goes fs s.now.locals) w)

  abbrev pub breaks_step : List Frame → State → KeptWorld → Run KeptWorld Progress
  breaks_step [] s w = leave_step (zero_result s.now.function.result) s.below w
  breaks_step (inside x stage ∷ fs) s w = staying s (Go (break_step program x stage fs s.now.locals) w)
  breaks_step (frame ∷ fs) s w = staying s (Go (doing breaks fs s.now.locals) w)

  abbrev pub continues_step : List Frame → State → KeptWorld → Run KeptWorld Progress
  continues_step [] s w = leave_step (zero_result s.now.function.result) s.below w
  continues_step (inside x stage ∷ fs) s w = staying s (continue_step program x stage fs s.now.locals w)
  continues_step (frame ∷ fs) s w = staying s (Go (doing continues fs s.now.locals) w)

  abbrev pub returns_step : List Frame → Value → State → KeptWorld → Run KeptWorld Progress
  returns_step [] v s w = leave_step v s.below w
  returns_step (frame ∷ fs) v s w = staying s (Go (doing (returns v) fs s.now.locals) w)

  abbrev pub control_step : Control → State → KeptWorld → Run KeptWorld Progress
  control_step (evaluating e) s w = evaluate_step e s w
  control_step (executing x) s w = staying s (Go (execute program s.now.function x s.now.frames s.now.locals w) w)
  control_step (going_along t path) s w = staying s (Go (along_step program t path s.now.frames s.now.locals) w)
  control_step (gives v) s w = give_step s.now.frames v s w
  control_step (aims t) s w = aim_step s.now.frames t s w
  control_step goes s w = goes_step s.now.frames s w
  control_step breaks s w = breaks_step s.now.frames s w
  control_step continues s w = continues_step s.now.frames s w
  control_step (returns v) s w = returns_step s.now.frames v s w

  -- where `main` begins, after its turn
  abbrev pub first_state : ℕ → Function → State
  first_state calls f = record {
    control = executing f.body;
    now = record { function = f; frames = []; locals = first_locals f []; calls = calls; deletes = false; waits = [] };
    below = [];
  }

  abbrev pub started : Option Function → ℕ → KeptWorld → Run KeptWorld Progress
  started None calls w = bind (kept.take_turn w) (λ _ w1. Go (ended Null) w1)
  started (Some f) calls w = bind (kept.take_turn w) (λ _ w1. Go (onward (first_state calls f)) w1)

  -- n steps, and then the rest at once
  abbrev pub steps : ℕ → Progress → KeptWorld → Run KeptWorld Progress
  steps n (ended v) w = Go (ended v) w
  steps zero (onward s) w = Go (onward s) w
  steps (suc n) (onward s) w = bind (control_step s.control s w) (steps n)
