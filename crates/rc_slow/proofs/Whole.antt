-- Each step leaves what the whole run comes to.
use Rattle.std.proofs.Common.{◌≡◌, ℕ, zero, suc, Bool, true, false, List, [], ◌∷◌, ◌++◌, Option, Some, None, refl, sym, ap, ◌∙◌, append_assoc}
use Rattle.std.specs.Prelude.{slice_get, if◌then◌else◌}
use Rattle.rc_core.specs.Programs.{Expr, constant, null, string, local, read, address, step, step_from, unary, binary, convert, not_zero, and, or, choose, is_null, same, call, new_region, new_subregion, region_of, allocate, allocate_array, putchar, getchar, Arguments, none, more, Function, Program}
use Rattle.rc_core.specs.Heap.{Value, Null}
use Rattle.rc_core.specs.Runs.{Run, Go, Stopped, bind, spent, branching, Target, Calls}
use Rattle.rc_core.specs.Evaluation.{eval, eval_all, number_in, choosing}
use Rattle.rc_core.specs.Execution.{held, function_deletes, zero_result, run_function, calls_within, run_main}
use Rattle.rc_memory.specs.KeptWorld.{KeptWorld, kept}
use Rattle.rc_frames.specs.Frames.{Frame, first, second, argument, pointer, index, element, load, inside, ways}
use Rattle.rc_slow.specs.Machine.{calls_at, give_on, going_on, control_on}
use Rattle.rc_nodes.specs.Stepping.{Control, evaluating, executing, going_along, gives, aims, goes, breaks, continues, returns, Doing, doing, begin, giving_next, first_step, second_step, pointer_step, index_step, along_step, execute, given_step, aimed_step, go_step, continue_step, break_step}
use Rattle.rc_slow.specs.Whole.{Activation, State, Progress, onward, ended, resume, whole, finally, staying, called, with_calls, call_from, entered, call_step, evaluate_step, leave_step, give_step, aim_step, goes_step, breaks_step, continues_step, returns_step, control_step, first_state, started, steps}
use Rattle.rc_slow.proofs.Steps.{assoc, begin_right, first_right, second_right, pointer_right, index_right, along_right, execute_right, given_step_right, load_right, aimed_right, go_right, continue_right, break_right, returned_right}

same_behind : {W A B : Type 0} (m : Run W A) (k k' : A → W → Run W B) → ((x : A) (w : W) → k x w ≡ k' x w) → bind m k ≡ bind m k'
same_behind (Go x w) k k' h = h x w
same_behind (Stopped stop w) k k' h = refl

same_end : {W A : Type 0} (m : Run W A) → bind m (λ x w. Go x w) ≡ m
same_end (Go x w) = refl
same_end (Stopped stop w) = refl

module _ (program : Program) where
  abbrev calls_of : State → Calls KeptWorld
  calls_of s = calls_within kept program s.now.calls

  stays_by : (s : State) (m : Run KeptWorld Doing) → bind (bind m (λ d w. going_on program s.now.function (calls_of s) d w)) (resume program s.below) ≡ bind (staying program s m) (finally program)
  stays_by s (Go d w) = refl
  stays_by s (Stopped stop w) = refl

  -- a step inside the running function
  stays : (s : State) (m : Run KeptWorld Doing) (w : KeptWorld) → control_on program s.now.function (calls_of s) s.control s.now.frames s.now.locals w ≡ bind m (λ d w1. going_on program s.now.function (calls_of s) d w1) → whole program s w ≡ bind (staying program s m) (finally program)
  stays s m w on = ap (λ r. bind r (resume program s.below)) on ∙ stays_by s m

  -- a call

  abbrev body_of : ℕ → Option Function → List Value → KeptWorld → Run KeptWorld Value
  body_of n f vs w = bind (kept.take_turn w) (λ _ w1. run_function kept program (calls_within kept program n) f vs w1)

  call_none : (m : Run KeptWorld (Unit {0})) (n : ℕ) (s : State) (waiting : List Value) (vs : List Value) → bind (bind (bind m (λ _ w1. run_function kept program (calls_within kept program n) None vs w1)) (λ v. give_on program s.now.function (calls_of s) s.now.frames v s.now.locals)) (resume program s.below) ≡ bind (bind m (λ _ w1. Go (onward (with_calls program n None (called program None waiting s vs))) w1)) (finally program)
  call_none (Go u w) n s waiting vs = refl
  call_none (Stopped stop w) n s waiting vs = refl

  -- a called function, and then its caller
  behind_body : (f : Function) (n : ℕ) (s : State) (waiting vs : List Value) (w : KeptWorld) → whole program (with_calls program n (Some f) (called program (Some f) waiting s vs)) w ≡ bind (run_function kept program (calls_within kept program n) (Some f) vs w) (λ v w1. bind (give_on program s.now.function (calls_of s) s.now.frames v s.now.locals (if f.deletes then record w1 { waiting = waiting } else w1)) (resume program s.below))
  behind_body f n s waiting vs w = refl

  call_plain : (m : Run KeptWorld (Unit {0})) (n : ℕ) (f : Function) (s : State) (waiting : List Value) (vs : List Value) → f.deletes ≡ false → bind (bind (bind m (λ _ w1. run_function kept program (calls_within kept program n) (Some f) vs w1)) (λ v. give_on program s.now.function (calls_of s) s.now.frames v s.now.locals)) (resume program s.below) ≡ bind (bind m (λ _ w1. Go (onward (with_calls program n (Some f) (called program (Some f) waiting s vs))) w1)) (finally program)
  call_plain (Go u w) n f s waiting vs is =
      let body : Run KeptWorld Value = run_function kept program (calls_within kept program n) (Some f) vs w in
      assoc body (λ v. give_on program s.now.function (calls_of s) s.now.frames v s.now.locals) (resume program s.below)
      ∙ same_behind body _ _ (λ v w1. ap (λ b. bind (give_on program s.now.function (calls_of s) s.now.frames v s.now.locals (if b then record w1 { waiting = waiting } else w1)) (resume program s.below)) (sym is))
      ∙ sym (behind_body f n s waiting vs w)
  call_plain (Stopped stop w) n f s waiting vs is = refl

  call_deleting : (m : Run KeptWorld (Unit {0})) (n : ℕ) (f : Function) (s : State) (before : KeptWorld) (vs : List Value) → f.deletes ≡ true → bind (bind (bind (bind m (λ _ w1. run_function kept program (calls_within kept program n) (Some f) vs w1)) (λ v w2. Go v (kept.leave before w2))) (λ v. give_on program s.now.function (calls_of s) s.now.frames v s.now.locals)) (resume program s.below) ≡ bind (bind m (λ _ w1. Go (onward (with_calls program n (Some f) (called program (Some f) before.waiting s vs))) w1)) (finally program)
  call_deleting (Go u w) n f s before vs is =
      let body : Run KeptWorld Value = run_function kept program (calls_within kept program n) (Some f) vs w in
      let go : Value → KeptWorld → Run KeptWorld Value = λ v. give_on program s.now.function (calls_of s) s.now.frames v s.now.locals in
      ap (λ r. bind r (resume program s.below)) (assoc body (λ v w2. Go v (kept.leave before w2)) go)
      ∙ assoc body (λ v w2. go v (kept.leave before w2)) (resume program s.below)
      ∙ same_behind body _ _ (λ v w1. ap (λ b. bind (go v (if b then record w1 { waiting = before.waiting } else w1)) (resume program s.below)) (sym is))
      ∙ sym (behind_body f n s before.waiting vs w)
  call_deleting (Stopped stop w) n f s before vs is = refl

  abbrev giving : State → Value → KeptWorld → Run KeptWorld Value
  giving s v w = give_on program s.now.function (calls_of s) s.now.frames v s.now.locals w

  abbrev held_in : State → List Value
  held_in s = held (ways s.now.frames).next s.now.locals

  zero_by : (b : Bool) (o : Option Function) (s : State) (vs : List Value) (w : KeptWorld) → bind (bind (branching b (λ w1. bind (spent (kept.enter (held_in s) w1)) (λ (v : Value) w2. Go v (kept.leave w1 w2))) (λ w1. spent w1) w) (giving s)) (resume program s.below) ≡ bind (call_from program 0 o w.waiting s vs (entered program b s w)) (finally program)
  zero_by true o s vs w = refl
  zero_by false o s vs w = refl

  some_by : (b : Bool) (n : ℕ) (f : Function) (s : State) (vs : List Value) (w : KeptWorld) → f.deletes ≡ b → bind (bind (branching b (λ w1. bind (body_of n (Some f) vs (kept.enter (held_in s) w1)) (λ v w2. Go v (kept.leave w1 w2))) (body_of n (Some f) vs) w) (giving s)) (resume program s.below) ≡ bind (call_from program (suc n) (Some f) w.waiting s vs (entered program b s w)) (finally program)
  some_by true n f s vs w is = call_deleting (kept.take_turn (kept.enter (held_in s) w)) n f s w vs is
  some_by false n f s vs w is = call_plain (kept.take_turn w) n f s w.waiting vs is

  suc_by : (o : Option Function) (n : ℕ) (s : State) (vs : List Value) (w : KeptWorld) → bind (bind (branching (function_deletes o) (λ w1. bind (body_of n o vs (kept.enter (held_in s) w1)) (λ v w2. Go v (kept.leave w1 w2))) (body_of n o vs) w) (giving s)) (resume program s.below) ≡ bind (call_from program (suc n) o w.waiting s vs (entered program (function_deletes o) s w)) (finally program)
  suc_by None n s vs w = call_none (kept.take_turn w) n s w.waiting vs
  suc_by (Some f) n s vs w = some_by f.deletes n f s vs w refl

  call_by : (c g : ℕ) (s : State) (vs : List Value) (w : KeptWorld) → bind (bind (branching (function_deletes (slice_get program.functions g)) (λ w1. bind (calls_within kept program c g vs (kept.enter (held_in s) w1)) (λ v w2. Go v (kept.leave w1 w2))) (calls_within kept program c g vs) w) (giving s)) (resume program s.below) ≡ bind (call_from program c (slice_get program.functions g) w.waiting s vs (entered program (function_deletes (slice_get program.functions g)) s w)) (finally program)
  call_by zero g s vs w = zero_by (function_deletes (slice_get program.functions g)) (slice_get program.functions g) s vs w
  call_by (suc n) g s vs w = suc_by (slice_get program.functions g) n s vs w

  call_right : (g : ℕ) (s : State) (vs : List Value) (w : KeptWorld) → bind (bind (calls_at program s.now.function (calls_of s) s.now.frames s.now.locals g vs w) (giving s)) (resume program s.below) ≡ bind (call_step program g s vs w) (finally program)
  call_right g s vs w = call_by s.now.calls g s vs w

  -- the state with these frames
  abbrev at : Control → Activation → List Frame → List Activation → State
  at c a fs below = record { control = c; now = record a { frames = fs }; below = below }

  leave_right : (v : Value) (below : List Activation) (w : KeptWorld) → resume program below v w ≡ bind (leave_step program v below w) (finally program)
  leave_right v [] w = refl
  leave_right v (a ∷ below) w = refl

  argued : (f : Function) (calls : Calls KeptWorld) (g : ℕ) (vs : List Value) (v : Value) (e : Expr) (rest : Arguments) (fs : List Frame) (env : List Value) (w : KeptWorld) → control_on program f calls (gives v) (argument g vs (more e rest) ∷ fs) env w ≡ control_on program f calls (evaluating e) (argument g (vs ++ v ∷ []) rest ∷ fs) env w
  argued f calls g vs v e rest fs env w =
      assoc (eval kept program e (calls_at program f calls fs env) env w) (λ u w1. bind (eval_all kept program rest (calls_at program f calls fs env) env w1) (λ us w2. Go (u ∷ us) w2)) (λ us w1. bind (calls_at program f calls fs env g (vs ++ v ∷ us) w1) (λ x. give_on program f calls fs x env))
      ∙ same_behind (eval kept program e (calls_at program f calls fs env) env w) _ _ (λ u w1.
      assoc (eval_all kept program rest (calls_at program f calls fs env) env w1) (λ us w2. Go (u ∷ us) w2) (λ us w2. bind (calls_at program f calls fs env g (vs ++ v ∷ us) w2) (λ x. give_on program f calls fs x env))
      ∙ same_behind (eval_all kept program rest (calls_at program f calls fs env) env w1) _ _ (λ us w2. ap (λ all. bind (calls_at program f calls fs env g all w2) (λ x. give_on program f calls fs x env)) (sym (append_assoc vs (v ∷ []) (u ∷ us)))))

  begun : (f : Function) (calls : Calls KeptWorld) (line g : ℕ) (e : Expr) (rest : Arguments) (fs : List Frame) (env : List Value) (w : KeptWorld) → control_on program f calls (evaluating (call line g (more e rest))) fs env w ≡ control_on program f calls (evaluating e) (argument g [] rest ∷ fs) env w
  begun f calls line g e rest fs env w =
      assoc (bind (eval kept program e (calls_at program f calls fs env) env w) (λ u w1. bind (eval_all kept program rest (calls_at program f calls fs env) env w1) (λ us w2. Go (u ∷ us) w2))) (calls_at program f calls fs env g) (λ v. give_on program f calls fs v env)
      ∙ assoc (eval kept program e (calls_at program f calls fs env) env w) (λ u w1. bind (eval_all kept program rest (calls_at program f calls fs env) env w1) (λ us w2. Go (u ∷ us) w2)) (λ us w1. bind (calls_at program f calls fs env g us w1) (λ x. give_on program f calls fs x env))
      ∙ same_behind (eval kept program e (calls_at program f calls fs env) env w) _ _ (λ u w1.
      assoc (eval_all kept program rest (calls_at program f calls fs env) env w1) (λ us w2. Go (u ∷ us) w2) (λ us w2. bind (calls_at program f calls fs env g us w2) (λ x. give_on program f calls fs x env)))

  evaluate_right : (e : Expr) (a : Activation) (fs : List Frame) (below : List Activation) (w : KeptWorld) → whole program (at (evaluating e) a fs below) w ≡ bind (evaluate_step program e (at (evaluating e) a fs below) w) (finally program)
  evaluate_right (constant line s n) a fs below w = stays (at (evaluating (constant line s n)) a fs below) (begin program (constant line s n) fs a.locals w) w (begin_right program a.function (calls_within kept program a.calls) (constant line s n) fs a.locals w)
  evaluate_right (null line) a fs below w = stays (at (evaluating (null line)) a fs below) (begin program (null line) fs a.locals w) w (begin_right program a.function (calls_within kept program a.calls) (null line) fs a.locals w)
  evaluate_right (string line k) a fs below w = stays (at (evaluating (string line k)) a fs below) (begin program (string line k) fs a.locals w) w (begin_right program a.function (calls_within kept program a.calls) (string line k) fs a.locals w)
  evaluate_right (local line x) a fs below w = stays (at (evaluating (local line x)) a fs below) (begin program (local line x) fs a.locals w) w (begin_right program a.function (calls_within kept program a.calls) (local line x) fs a.locals w)
  evaluate_right (read line place) a fs below w = stays (at (evaluating (read line place)) a fs below) (begin program (read line place) fs a.locals w) w (begin_right program a.function (calls_within kept program a.calls) (read line place) fs a.locals w)
  evaluate_right (address line g) a fs below w = stays (at (evaluating (address line g)) a fs below) (begin program (address line g) fs a.locals w) w (begin_right program a.function (calls_within kept program a.calls) (address line g) fs a.locals w)
  evaluate_right (step line direction p i) a fs below w = stays (at (evaluating (step line direction p i)) a fs below) (begin program (step line direction p i) fs a.locals w) w (begin_right program a.function (calls_within kept program a.calls) (step line direction p i) fs a.locals w)
  evaluate_right (step_from line i p) a fs below w = stays (at (evaluating (step_from line i p)) a fs below) (begin program (step_from line i p) fs a.locals w) w (begin_right program a.function (calls_within kept program a.calls) (step_from line i p) fs a.locals w)
  evaluate_right (unary line operator s e) a fs below w = stays (at (evaluating (unary line operator s e)) a fs below) (begin program (unary line operator s e) fs a.locals w) w (begin_right program a.function (calls_within kept program a.calls) (unary line operator s e) fs a.locals w)
  evaluate_right (binary line operator s x y) a fs below w = stays (at (evaluating (binary line operator s x y)) a fs below) (begin program (binary line operator s x y) fs a.locals w) w (begin_right program a.function (calls_within kept program a.calls) (binary line operator s x y) fs a.locals w)
  evaluate_right (convert line from to e) a fs below w = stays (at (evaluating (convert line from to e)) a fs below) (begin program (convert line from to e) fs a.locals w) w (begin_right program a.function (calls_within kept program a.calls) (convert line from to e) fs a.locals w)
  evaluate_right (not_zero line e) a fs below w = stays (at (evaluating (not_zero line e)) a fs below) (begin program (not_zero line e) fs a.locals w) w (begin_right program a.function (calls_within kept program a.calls) (not_zero line e) fs a.locals w)
  evaluate_right (and line x y) a fs below w = stays (at (evaluating (and line x y)) a fs below) (begin program (and line x y) fs a.locals w) w (begin_right program a.function (calls_within kept program a.calls) (and line x y) fs a.locals w)
  evaluate_right (or line x y) a fs below w = stays (at (evaluating (or line x y)) a fs below) (begin program (or line x y) fs a.locals w) w (begin_right program a.function (calls_within kept program a.calls) (or line x y) fs a.locals w)
  evaluate_right (choose line test x y) a fs below w = stays (at (evaluating (choose line test x y)) a fs below) (begin program (choose line test x y) fs a.locals w) w (begin_right program a.function (calls_within kept program a.calls) (choose line test x y) fs a.locals w)
  evaluate_right (is_null line wanted e) a fs below w = stays (at (evaluating (is_null line wanted e)) a fs below) (begin program (is_null line wanted e) fs a.locals w) w (begin_right program a.function (calls_within kept program a.calls) (is_null line wanted e) fs a.locals w)
  evaluate_right (same line wanted x y) a fs below w = stays (at (evaluating (same line wanted x y)) a fs below) (begin program (same line wanted x y) fs a.locals w) w (begin_right program a.function (calls_within kept program a.calls) (same line wanted x y) fs a.locals w)
  evaluate_right (new_region line) a fs below w = stays (at (evaluating (new_region line)) a fs below) (begin program (new_region line) fs a.locals w) w (begin_right program a.function (calls_within kept program a.calls) (new_region line) fs a.locals w)
  evaluate_right (new_subregion line r) a fs below w = stays (at (evaluating (new_subregion line r)) a fs below) (begin program (new_subregion line r) fs a.locals w) w (begin_right program a.function (calls_within kept program a.calls) (new_subregion line r) fs a.locals w)
  evaluate_right (region_of line p) a fs below w = stays (at (evaluating (region_of line p)) a fs below) (begin program (region_of line p) fs a.locals w) w (begin_right program a.function (calls_within kept program a.calls) (region_of line p) fs a.locals w)
  evaluate_right (allocate line r ty) a fs below w = stays (at (evaluating (allocate line r ty)) a fs below) (begin program (allocate line r ty) fs a.locals w) w (begin_right program a.function (calls_within kept program a.calls) (allocate line r ty) fs a.locals w)
  evaluate_right (allocate_array line r n ty) a fs below w = stays (at (evaluating (allocate_array line r n ty)) a fs below) (begin program (allocate_array line r n ty) fs a.locals w) w (begin_right program a.function (calls_within kept program a.calls) (allocate_array line r n ty) fs a.locals w)
  evaluate_right (putchar line e) a fs below w = stays (at (evaluating (putchar line e)) a fs below) (begin program (putchar line e) fs a.locals w) w (begin_right program a.function (calls_within kept program a.calls) (putchar line e) fs a.locals w)
  evaluate_right (getchar line) a fs below w = stays (at (evaluating (getchar line)) a fs below) (begin program (getchar line) fs a.locals w) w (begin_right program a.function (calls_within kept program a.calls) (getchar line) fs a.locals w)
  evaluate_right (call line g none) a fs below w = call_right g (at (evaluating (call line g none)) a fs below) [] w
  evaluate_right (call line g (more e rest)) a fs below w = stays (at (evaluating (call line g (more e rest))) a fs below) (Go (doing (evaluating e) (argument g [] rest ∷ fs) a.locals) w) w (begun a.function (calls_within kept program a.calls) line g e rest fs a.locals w)

  give_right : (fs : List Frame) (v : Value) (a : Activation) (below : List Activation) (w : KeptWorld) → whole program (at (gives v) a fs below) w ≡ bind (give_step program fs v (at (gives v) a fs below) w) (finally program)
  give_right [] v a below w = leave_right v below w
  give_right (first e ∷ fs) v a below w = stays (at (gives v) a (first e ∷ fs) below) (first_step program e v fs a.locals w) w (first_right program a.function (calls_within kept program a.calls) e v fs a.locals w)
  give_right (second e u ∷ fs) v a below w = stays (at (gives v) a (second e u ∷ fs) below) (second_step program a.function (calls_within kept program a.calls) e u v fs a.locals w) w (second_right program a.function (calls_within kept program a.calls) e u v fs a.locals w)
  give_right (argument g vs none ∷ fs) v a below w = call_right g (at (gives v) a fs below) (vs ++ v ∷ []) w
  give_right (argument g vs (more e rest) ∷ fs) v a below w = stays (at (gives v) a (argument g vs (more e rest) ∷ fs) below) (Go (doing (evaluating e) (argument g (vs ++ v ∷ []) rest ∷ fs) a.locals) w) w (argued a.function (calls_within kept program a.calls) g vs v e rest fs a.locals w)
  give_right (pointer p ∷ fs) v a below w = stays (at (gives v) a (pointer p ∷ fs) below) (Go (pointer_step program p v fs a.locals) w) w (pointer_right program a.function (calls_within kept program a.calls) p v fs a.locals w)
  give_right (index p u ∷ fs) v a below w = stays (at (gives v) a (index p u ∷ fs) below) (Go (index_step program p u v fs a.locals) w) w (index_right program a.function (calls_within kept program a.calls) p u v fs a.locals w)
  give_right (element t count stride path ∷ fs) v a below w = stays (at (gives v) a (element t count stride path ∷ fs) below) (Go (doing (going_along (choosing (record { index = number_in v; count = count; stride = stride }) t) path) fs a.locals) w) w refl
  give_right (load line ∷ fs) v a below w = stays (at (gives v) a (load line ∷ fs) below) (Go (doing (gives v) fs a.locals) w) w refl
  give_right (inside x stage ∷ fs) v a below w = stays (at (gives v) a (inside x stage ∷ fs) below) (given_step program x stage v fs a.locals w) w (given_step_right program a.function (calls_within kept program a.calls) x stage v fs a.locals w)

  aim_right : (fs : List Frame) (t : Target) (a : Activation) (below : List Activation) (w : KeptWorld) → whole program (at (aims t) a fs below) w ≡ bind (aim_step program fs t (at (aims t) a fs below) w) (finally program)
  aim_right [] t a below w = leave_right (zero_result a.function.result) below w
  aim_right (first e ∷ fs) t a below w = stays (at (aims t) a (first e ∷ fs) below) (Go (doing (aims t) fs a.locals) w) w refl
  aim_right (second e u ∷ fs) t a below w = stays (at (aims t) a (second e u ∷ fs) below) (Go (doing (aims t) fs a.locals) w) w refl
  aim_right (argument g vs es ∷ fs) t a below w = stays (at (aims t) a (argument g vs es ∷ fs) below) (Go (doing (aims t) fs a.locals) w) w refl
  aim_right (pointer p ∷ fs) t a below w = stays (at (aims t) a (pointer p ∷ fs) below) (Go (doing (aims t) fs a.locals) w) w refl
  aim_right (index p u ∷ fs) t a below w = stays (at (aims t) a (index p u ∷ fs) below) (Go (doing (aims t) fs a.locals) w) w refl
  aim_right (element z count stride path ∷ fs) t a below w = stays (at (aims t) a (element z count stride path ∷ fs) below) (Go (doing (aims t) fs a.locals) w) w refl
  aim_right (load line ∷ fs) t a below w = stays (at (aims t) a (load line ∷ fs) below) (bind (kept.load line t w) (giving_next program fs a.locals)) w (load_right program a.function (calls_within kept program a.calls) line t fs a.locals w)
  aim_right (inside x stage ∷ fs) t a below w = stays (at (aims t) a (inside x stage ∷ fs) below) (aimed_step program x stage t fs a.locals w) w (aimed_right program a.function (calls_within kept program a.calls) x stage t fs a.locals w)

  goes_right : (fs : List Frame) (a : Activation) (below : List Activation) (w : KeptWorld) → whole program (at goes a fs below) w ≡ bind (goes_step program fs (at goes a fs below) w) (finally program)
  goes_right [] a below w = leave_right (zero_result a.function.result) below w
  goes_right (first e ∷ fs) a below w = stays (at goes a (first e ∷ fs) below) (Go (doing goes fs a.locals) w) w refl
  goes_right (second e u ∷ fs) a below w = stays (at goes a (second e u ∷ fs) below) (Go (doing goes fs a.locals) w) w refl
  goes_right (argument g vs es ∷ fs) a below w = stays (at goes a (argument g vs es ∷ fs) below) (Go (doing goes fs a.locals) w) w refl
  goes_right (pointer p ∷ fs) a below w = stays (at goes a (pointer p ∷ fs) below) (Go (doing goes fs a.locals) w) w refl
  goes_right (index p u ∷ fs) a below w = stays (at goes a (index p u ∷ fs) below) (Go (doing goes fs a.locals) w) w refl
  goes_right (element z count stride path ∷ fs) a below w = stays (at goes a (element z count stride path ∷ fs) below) (Go (doing goes fs a.locals) w) w refl
  goes_right (load line ∷ fs) a below w = stays (at goes a (load line ∷ fs) below) (Go (doing goes fs a.locals) w) w refl
  goes_right (inside x stage ∷ fs) a below w = stays (at goes a (inside x stage ∷ fs) below) (go_step program x stage fs a.locals w) w (go_right program a.function (calls_within kept program a.calls) x stage fs a.locals w)

  breaks_right : (fs : List Frame) (a : Activation) (below : List Activation) (w : KeptWorld) → whole program (at breaks a fs below) w ≡ bind (breaks_step program fs (at breaks a fs below) w) (finally program)
  breaks_right [] a below w = leave_right (zero_result a.function.result) below w
  breaks_right (first e ∷ fs) a below w = stays (at breaks a (first e ∷ fs) below) (Go (doing breaks fs a.locals) w) w refl
  breaks_right (second e u ∷ fs) a below w = stays (at breaks a (second e u ∷ fs) below) (Go (doing breaks fs a.locals) w) w refl
  breaks_right (argument g vs es ∷ fs) a below w = stays (at breaks a (argument g vs es ∷ fs) below) (Go (doing breaks fs a.locals) w) w refl
  breaks_right (pointer p ∷ fs) a below w = stays (at breaks a (pointer p ∷ fs) below) (Go (doing breaks fs a.locals) w) w refl
  breaks_right (index p u ∷ fs) a below w = stays (at breaks a (index p u ∷ fs) below) (Go (doing breaks fs a.locals) w) w refl
  breaks_right (element z count stride path ∷ fs) a below w = stays (at breaks a (element z count stride path ∷ fs) below) (Go (doing breaks fs a.locals) w) w refl
  breaks_right (load line ∷ fs) a below w = stays (at breaks a (load line ∷ fs) below) (Go (doing breaks fs a.locals) w) w refl
  breaks_right (inside x stage ∷ fs) a below w = stays (at breaks a (inside x stage ∷ fs) below) (Go (break_step program x stage fs a.locals) w) w (break_right program a.function (calls_within kept program a.calls) x stage fs a.locals w)

  continues_right : (fs : List Frame) (a : Activation) (below : List Activation) (w : KeptWorld) → whole program (at continues a fs below) w ≡ bind (continues_step program fs (at continues a fs below) w) (finally program)
  continues_right [] a below w = leave_right (zero_result a.function.result) below w
  continues_right (first e ∷ fs) a below w = stays (at continues a (first e ∷ fs) below) (Go (doing continues fs a.locals) w) w refl
  continues_right (second e u ∷ fs) a below w = stays (at continues a (second e u ∷ fs) below) (Go (doing continues fs a.locals) w) w refl
  continues_right (argument g vs es ∷ fs) a below w = stays (at continues a (argument g vs es ∷ fs) below) (Go (doing continues fs a.locals) w) w refl
  continues_right (pointer p ∷ fs) a below w = stays (at continues a (pointer p ∷ fs) below) (Go (doing continues fs a.locals) w) w refl
  continues_right (index p u ∷ fs) a below w = stays (at continues a (index p u ∷ fs) below) (Go (doing continues fs a.locals) w) w refl
  continues_right (element z count stride path ∷ fs) a below w = stays (at continues a (element z count stride path ∷ fs) below) (Go (doing continues fs a.locals) w) w refl
  continues_right (load line ∷ fs) a below w = stays (at continues a (load line ∷ fs) below) (Go (doing continues fs a.locals) w) w refl
  continues_right (inside x stage ∷ fs) a below w = stays (at continues a (inside x stage ∷ fs) below) (continue_step program x stage fs a.locals w) w (continue_right program a.function (calls_within kept program a.calls) x stage fs a.locals w)

  returns_right : (fs : List Frame) (v : Value) (a : Activation) (below : List Activation) (w : KeptWorld) → whole program (at (returns v) a fs below) w ≡ bind (returns_step program fs v (at (returns v) a fs below) w) (finally program)
  returns_right [] v a below w = leave_right v below w
  returns_right (frame ∷ fs) v a below w = stays (at (returns v) a (frame ∷ fs) below) (Go (doing (returns v) fs a.locals) w) w (returned_right program a.function (calls_within kept program a.calls) frame fs v a.locals w)

  control_right : (c : Control) (a : Activation) (below : List Activation) (w : KeptWorld) → whole program (at c a a.frames below) w ≡ bind (control_step program c (at c a a.frames below) w) (finally program)
  control_right (evaluating e) a below w = evaluate_right e a a.frames below w
  control_right (executing x) a below w = stays (at (executing x) a a.frames below) (Go (execute program a.function x a.frames a.locals w) w) w (execute_right program a.function (calls_within kept program a.calls) x a.frames a.locals w)
  control_right (going_along t path) a below w = stays (at (going_along t path) a a.frames below) (Go (along_step program t path a.frames a.locals) w) w (along_right program a.function (calls_within kept program a.calls) t path a.frames a.locals w)
  control_right (gives v) a below w = give_right a.frames v a below w
  control_right (aims t) a below w = aim_right a.frames t a below w
  control_right goes a below w = goes_right a.frames a below w
  control_right breaks a below w = breaks_right a.frames a below w
  control_right continues a below w = continues_right a.frames a below w
  control_right (returns v) a below w = returns_right a.frames v a below w

  -- a step leaves what the run comes to
  pub step_right : (s : State) (w : KeptWorld) → whole program s w ≡ bind (control_step program s.control s w) (finally program)
  step_right s w = control_right s.control s.now s.below w

  started_by : (o : Option Function) (n : ℕ) (w : KeptWorld) → bind (kept.take_turn w) (λ _ w1. run_function kept program (calls_within kept program n) o [] w1) ≡ bind (started program o n w) (finally program)
  started_by None n w = nothing (kept.take_turn w) where
    nothing : (m : Run KeptWorld (Unit {0})) → bind m (λ _ w1. run_function kept program (calls_within kept program n) None [] w1) ≡ bind (bind m (λ _ w1. Go (ended Null) w1)) (finally program)
    nothing (Go u w) = refl
    nothing (Stopped stop w) = refl
  started_by (Some f) n w = something (kept.take_turn w) where
    something : (m : Run KeptWorld (Unit {0})) → bind m (λ _ w1. run_function kept program (calls_within kept program n) (Some f) [] w1) ≡ bind (bind m (λ _ w1. Go (onward (first_state program n f)) w1)) (finally program)
    something (Go u w) = sym (same_end (run_function kept program (calls_within kept program n) (Some f) [] w))
    something (Stopped stop w) = refl

  -- a run of `main` is that of its first state
  pub started_right : (w : KeptWorld) → run_main kept program w ≡ bind (started program (slice_get program.functions program.main) w.turns w) (finally program)
  started_right w = started_by (slice_get program.functions program.main) w.turns w

  -- so does any number of steps
  pub steps_right : (n : ℕ) (p : Progress) (w : KeptWorld) → finally program p w ≡ bind (steps program n p w) (finally program)
  steps_right zero (ended v) w = refl
  steps_right (suc n) (ended v) w = refl
  steps_right zero (onward s) w = refl
  steps_right (suc n) (onward s) w =
      step_right s w
      ∙ same_behind (control_step program s.control s w) (finally program) (λ p w1. bind (steps program n p w1) (finally program)) (λ p w1. steps_right n p w1)
      ∙ sym (assoc (control_step program s.control s w) (steps program n) (finally program))
