-- Each step of the machine leaves what the run comes to.
use Rattle.std.proofs.Common.{◌≡◌, ℕ, zero, suc, Bool, true, false, List, ◌∷◌, Option, Some, None, refl, sym, ap, ◌∙◌}
use Rattle.rc_core.specs.Programs.{Expr, constant, null, string, local, read, address, step, step_from, unary, binary, convert, not_zero, and, or, choose, is_null, same, call, new_region, new_subregion, region_of, allocate, allocate_array, putchar, getchar, Place, global, pointed, indexed, Path, here, field, element, Stmt, block, declare, assign, store, update, copy, evaluate, delete, branch, while, repeat, for, break, continue, return, Stmts, done, then, Function, Program}
use Rattle.rc_core.specs.Heap.{Value}
use Rattle.rc_core.specs.Types.{struct}
use Rattle.rc_core.specs.Layout.{size}
use Rattle.rc_core.specs.Live.{Ways}
use Rattle.rc_core.specs.Runs.{Run, Go, Stopped, bind, spent, branching, Target, Calls}
use Rattle.rc_core.specs.Evaluation.{is_true, target}
use Rattle.rc_core.specs.Execution.{Flow, Next, Broke, Continued, Returned, held, changed}
use Rattle.rc_memory.specs.KeptWorld.{KeptWorld, kept}
use Rattle.rc_frames.specs.Frames.{Frame, first, second, argument, pointer, index, element as element_frame, load, inside, Stage, placed, sourced, valued, stored, within, tested, bodied, headed, thirded, ways}
use Rattle.rc_slow.specs.Machine.{calls_at, give_on, aim_on, flow_on, value_given, stored_given, test_given, place_given, source_given, body_done, third_done, head_done, while_rounds, repeat_rounds, for_rounds, going_on}
use Rattle.rc_nodes.specs.Stepping.{Doing, doing, evaluating, executing, going_along, gives, aims, goes, breaks, continues, returns, start, begin, giving_next, first_step, second_step, pointer_step, index_step, along_step, execute, going_next, value_step, stored_step, turning_to, test_step, given_step, place_step, source_step, aimed_step, head_step, body_step, within_step, headed_step, third_step, go_step, continue_step, broken, break_step}

pub assoc : {W A B C : Type 0} (m : Run W A) (f : A → W → Run W B) (g : B → W → Run W C) → bind (bind m f) g ≡ bind m (λ x w. bind (f x w) g)
assoc (Go x w) f g = refl
assoc (Stopped stop w) f g = refl

module _ (program : Program) (f : Function) (calls : Calls KeptWorld) where
  abbrev pub on : Doing → KeptWorld → Run KeptWorld Value
  on d w = going_on program f calls d w

  pub start_right : (place : Place) (fs : List Frame) (env : List Value) (w : KeptWorld) → bind (target kept program place (calls_at program f calls fs env) env w) (λ t. aim_on program f calls fs t env) ≡ on (start program place fs env) w
  start_right (global g path) fs env w = refl
  start_right (pointed p path) fs env w = (search assoc)
  start_right (indexed p i path) fs env w = (search assoc)

  -- giving a value that came out of something
  given_right : (m : Run KeptWorld Value) (fs : List Frame) (env : List Value) → bind m (λ v. give_on program f calls fs v env) ≡ bind (bind m (giving_next program fs env)) on
  given_right (Go v w) fs env = refl
  given_right (Stopped stop w) fs env = refl

  pub begin_right : (e : Expr) (fs : List Frame) (env : List Value) (w : KeptWorld) → on (doing (evaluating e) fs env) w ≡ bind (begin program e fs env w) on
  begin_right (constant line s n) fs env w = refl
  begin_right (null line) fs env w = refl
  begin_right (string line k) fs env w = refl
  begin_right (local line x) fs env w = refl
  begin_right (read line place) fs env w = (search assoc) ∙ start_right place (load line ∷ fs) env w
  begin_right (address line g) fs env w = refl
  begin_right (step line direction p i) fs env w = (search assoc)
  begin_right (step_from line i p) fs env w = (search assoc)
  begin_right (unary line operator s e) fs env w = (search assoc)
  begin_right (binary line operator s a b) fs env w = (search assoc)
  begin_right (convert line from to e) fs env w = (search assoc)
  begin_right (not_zero line e) fs env w = (search assoc)
  begin_right (and line a b) fs env w = (search assoc)
  begin_right (or line a b) fs env w = (search assoc)
  begin_right (choose line test a b) fs env w = (search assoc)
  begin_right (is_null line wanted e) fs env w = (search assoc)
  begin_right (same line wanted a b) fs env w = (search assoc)
  begin_right (call line g arguments) fs env w = refl
  begin_right (new_region line) fs env w = given_right (kept.new_region line w) fs env
  begin_right (new_subregion line r) fs env w = (search assoc)
  begin_right (region_of line p) fs env w = (search assoc)
  begin_right (allocate line r ty) fs env w = (search assoc)
  begin_right (allocate_array line r n ty) fs env w = (search assoc)
  begin_right (putchar line e) fs env w = (search assoc)
  begin_right (getchar line) fs env w = search (assoc, sym)

  branch_right : (b : Bool) (p q : KeptWorld → Run KeptWorld Value) (p' q' : KeptWorld → Run KeptWorld Doing) (fs : List Frame) (env : List Value) → ((w : KeptWorld) → bind (p w) (λ v. give_on program f calls fs v env) ≡ bind (p' w) on) → ((w : KeptWorld) → bind (q w) (λ v. give_on program f calls fs v env) ≡ bind (q' w) on) → (w : KeptWorld) → bind (branching b p q w) (λ v. give_on program f calls fs v env) ≡ bind (branching b p' q' w) on
  branch_right true p q p' q' fs env hp hq w = hp w
  branch_right false p q p' q' fs env hp hq w = hq w

  pub first_right : (e : Expr) (v : Value) (fs : List Frame) (env : List Value) (w : KeptWorld) → on (doing (gives v) (first e ∷ fs) env) w ≡ bind (first_step program e v fs env w) on
  first_right (constant line s n) v fs env w = refl
  first_right (null line) v fs env w = refl
  first_right (string line k) v fs env w = refl
  first_right (local line x) v fs env w = refl
  first_right (read line place) v fs env w = refl
  first_right (address line g) v fs env w = refl
  first_right (step line direction p i) v fs env w = (search assoc)
  first_right (step_from line i p) v fs env w = (search assoc)
  first_right (unary line operator s e) v fs env w = given_right _ fs env
  first_right (binary line operator s a b) v fs env w = (search assoc)
  first_right (convert line from to e) v fs env w = refl
  first_right (not_zero line e) v fs env w = refl
  first_right (and line a b) v fs env w = branch_right (is_true v) _ _ _ _ fs env (λ w1. (search assoc)) (λ w1. refl) w
  first_right (or line a b) v fs env w = branch_right (is_true v) _ _ _ _ fs env (λ w1. refl) (λ w1. (search assoc)) w
  first_right (choose line test a b) v fs env w = branch_right (is_true v) _ _ _ _ fs env (λ w1. refl) (λ w1. refl) w
  first_right (is_null line wanted e) v fs env w = refl
  first_right (same line wanted a b) v fs env w = (search assoc)
  first_right (call line g arguments) v fs env w = refl
  first_right (new_region line) v fs env w = refl
  first_right (new_subregion line r) v fs env w = given_right (kept.new_subregion line v w) fs env
  first_right (region_of line p) v fs env w = given_right _ fs env
  first_right (allocate line r ty) v fs env w = given_right _ fs env
  first_right (allocate_array line r n ty) v fs env w = (search assoc)
  first_right (putchar line e) v fs env w = refl
  first_right (getchar line) v fs env w = refl

  pub second_right : (e : Expr) (v u : Value) (fs : List Frame) (env : List Value) (w : KeptWorld) → on (doing (gives u) (second e v ∷ fs) env) w ≡ bind (second_step program f calls e v u fs env w) on
  second_right e v u fs env w = given_right _ fs env

  pub pointer_right : (place : Place) (v : Value) (fs : List Frame) (env : List Value) (w : KeptWorld) → on (doing (gives v) (pointer place ∷ fs) env) w ≡ on (pointer_step program place v fs env) w
  pointer_right (global g path) v fs env w = refl
  pointer_right (pointed p path) v fs env w = refl
  pointer_right (indexed p i path) v fs env w = (search assoc)

  pub index_right : (place : Place) (v n : Value) (fs : List Frame) (env : List Value) (w : KeptWorld) → on (doing (gives n) (index place v ∷ fs) env) w ≡ on (index_step program place v n fs env) w
  index_right (global g path) v n fs env w = refl
  index_right (pointed p path) v n fs env w = refl
  index_right (indexed p i path) v n fs env w = refl

  pub along_right : (t : Target) (path : Path) (fs : List Frame) (env : List Value) (w : KeptWorld) → on (doing (going_along t path) fs env) w ≡ on (along_step program t path fs env) w
  along_right t here fs env w = refl
  along_right t (field s g rest) fs env w = refl
  along_right t (element s g i rest) fs env w = (search assoc)

  pub execute_right : (s : Stmt) (fs : List Frame) (env : List Value) (w : KeptWorld) → on (doing (executing s) fs env) w ≡ on (execute program f s fs env w) w
  execute_right (block done) fs env w = refl
  execute_right (block (then s rest)) fs env w = (search assoc)
  execute_right (declare line x None) fs env w = refl
  execute_right (declare line x (Some e)) fs env w = (search assoc)
  execute_right (assign line x e) fs env w = (search assoc)
  execute_right (store line place e) fs env w = (search assoc) ∙ start_right place (inside (store line place e) placed ∷ fs) env w
  execute_right (update line place change e) fs env w = (search assoc) ∙ start_right place (inside (update line place change e) placed ∷ fs) env w
  execute_right (copy line s left right) fs env w = (search assoc) ∙ start_right left (inside (copy line s left right) placed ∷ fs) env w
  execute_right (evaluate line e) fs env w = (search assoc)
  execute_right (delete line e) fs env w = (search assoc)
  execute_right (branch line test a b) fs env w = (search assoc)
  execute_right (while line test body) fs env w = (search assoc)
  execute_right (repeat line body test) fs env w = (search assoc)
  execute_right (for line head test third body) fs env w = (search assoc)
  execute_right (break line) fs env w = refl
  execute_right (continue line) fs env w = refl
  execute_right (return line None) fs env w = refl
  execute_right (return line (Some e)) fs env w = (search assoc)

  flow_branch : (b : Bool) (p q : KeptWorld → Run KeptWorld Flow) (p' q' : KeptWorld → Run KeptWorld Doing) (fs : List Frame) → ((w : KeptWorld) → bind (p w) (flow_on program f calls fs) ≡ bind (p' w) on) → ((w : KeptWorld) → bind (q w) (flow_on program f calls fs) ≡ bind (q' w) on) → (w : KeptWorld) → bind (branching b p q w) (flow_on program f calls fs) ≡ bind (branching b p' q' w) on
  flow_branch true p q p' q' fs hp hq w = hp w
  flow_branch false p q p' q' fs hp hq w = hq w

  -- a statement that went on behind something
  gone_right : (m : Run KeptWorld (Unit {0})) (fs : List Frame) (env : List Value) → bind (bind m (λ _ w. Go (Next env) w)) (flow_on program f calls fs) ≡ bind (bind m (going_next program fs env)) on
  gone_right (Go u w) fs env = refl
  gone_right (Stopped stop w) fs env = refl

  bound : {A : Type 0} (m : Run KeptWorld A) (k : A → KeptWorld → Run KeptWorld Flow) (k' : A → KeptWorld → Run KeptWorld Doing) (fs : List Frame) → ((x : A) (w : KeptWorld) → bind (k x w) (flow_on program f calls fs) ≡ bind (k' x w) on) → bind (bind m k) (flow_on program f calls fs) ≡ bind (bind m k') on
  bound (Go x w) k k' fs h = h x w
  bound (Stopped stop w) k k' fs h = refl

  value_right : (s : Stmt) (v : Value) (fs : List Frame) (env : List Value) (w : KeptWorld) → bind (value_given program f calls s (ways fs) v env w) (flow_on program f calls fs) ≡ bind (value_step program s v fs env w) on
  value_right (block body) v fs env w = refl
  value_right (declare line x e) v fs env w = refl
  value_right (assign line x e) v fs env w = refl
  value_right (store line place e) v fs env w = refl
  value_right (update line place c e) v fs env w = refl
  value_right (copy line z left right) v fs env w = refl
  value_right (evaluate line e) v fs env w = refl
  value_right (delete line e) v fs env w = gone_right (kept.delete line (held (ways fs).next env) v w) fs env
  value_right (branch line test a b) v fs env w = flow_branch (is_true v) _ _ _ _ fs (λ w1. refl) (λ w1. refl) w
  value_right (while line test body) v fs env w = refl
  value_right (repeat line body test) v fs env w = refl
  value_right (for line head test third body) v fs env w = refl
  value_right (break line) v fs env w = refl
  value_right (continue line) v fs env w = refl
  value_right (return line e) v fs env w = refl

  stored_right : (s : Stmt) (t : Target) (v : Value) (fs : List Frame) (env : List Value) (w : KeptWorld) → bind (stored_given program f calls s t v env w) (flow_on program f calls fs) ≡ bind (stored_step program s t v fs env w) on
  stored_right (block body) t v fs env w = refl
  stored_right (declare line x e) t v fs env w = refl
  stored_right (assign line x e) t v fs env w = refl
  stored_right (store line place e) t v fs env w = gone_right (kept.store line t v w) fs env
  stored_right (update line place c e) t v fs env w = bound (kept.load line t w) _ _ fs (λ old w1. bound (changed kept program line c old v w1) _ _ fs (λ new w2. gone_right (kept.store line t new w2) fs env))
  stored_right (copy line z left right) t v fs env w = refl
  stored_right (evaluate line e) t v fs env w = refl
  stored_right (delete line e) t v fs env w = refl
  stored_right (branch line test a b) t v fs env w = refl
  stored_right (while line test body) t v fs env w = refl
  stored_right (repeat line body test) t v fs env w = refl
  stored_right (for line head test third body) t v fs env w = refl
  stored_right (break line) t v fs env w = refl
  stored_right (continue line) t v fs env w = refl
  stored_right (return line e) t v fs env w = refl

  -- a turn, and then a round or none
  turn_right : (go : ℕ → KeptWorld → Run KeptWorld Flow) (next : ℕ → Doing) (n : ℕ) (fs : List Frame) → ((w : KeptWorld) → go 0 w ≡ spent w) → ((m : ℕ) (w : KeptWorld) → bind (go (suc m) w) (flow_on program f calls fs) ≡ on (next m) w) → (w : KeptWorld) → bind (bind (kept.take_turn w) (λ _ w1. go n w1)) (flow_on program f calls fs) ≡ bind (turning_to program n next w) on
  turn_right go next zero fs hz hs w = bound (kept.take_turn w) _ _ fs (λ u w1. ap (λ m. bind m (flow_on program f calls fs)) (hz w1))
  turn_right go next (suc n) fs hz hs w = bound (kept.take_turn w) _ _ fs (λ u w1. hs n w1)

  test_right : (s : Stmt) (n : ℕ) (v : Value) (fs : List Frame) (env : List Value) (w : KeptWorld) → bind (test_given program f calls s n (ways fs) v env w) (flow_on program f calls fs) ≡ bind (test_step program s n v fs env w) on
  test_right (block body) n v fs env w = refl
  test_right (declare line x e) n v fs env w = refl
  test_right (assign line x e) n v fs env w = refl
  test_right (store line place e) n v fs env w = refl
  test_right (update line place c e) n v fs env w = refl
  test_right (copy line z left right) n v fs env w = refl
  test_right (evaluate line e) n v fs env w = refl
  test_right (delete line e) n v fs env w = refl
  test_right (branch line test a b) n v fs env w = refl
  test_right (while line test body) n v fs env w = flow_branch (is_true v) _ _ _ _ fs (λ w1. (search assoc)) (λ w1. refl) w
  test_right (repeat line body test) n v fs env w = flow_branch (is_true v) _ _ _ _ fs (λ w1. turn_right (λ m w2. repeat_rounds program f calls m body test (ways fs) env w2) (λ m. doing (executing body) (inside (repeat line body test) (bodied m) ∷ fs) env) n fs (λ w2. refl) (λ m w2. (search assoc)) w1) (λ w1. refl) w
  test_right (for line head test third body) n v fs env w = flow_branch (is_true v) _ _ _ _ fs (λ w1. (search assoc)) (λ w1. refl) w
  test_right (break line) n v fs env w = refl
  test_right (continue line) n v fs env w = refl
  test_right (return line e) n v fs env w = refl

  pub given_step_right : (s : Stmt) (stage : Stage) (v : Value) (fs : List Frame) (env : List Value) (w : KeptWorld) → on (doing (gives v) (inside s stage ∷ fs) env) w ≡ bind (given_step program s stage v fs env w) on
  given_step_right s valued v fs env w = value_right s v fs env w
  given_step_right s (stored t) v fs env w = stored_right s t v fs env w
  given_step_right s (tested n) v fs env w = test_right s n v fs env w
  given_step_right s placed v fs env w = refl
  given_step_right s (sourced t) v fs env w = refl
  given_step_right s (within rest) v fs env w = refl
  given_step_right s (bodied n) v fs env w = refl
  given_step_right s headed v fs env w = refl
  given_step_right s (thirded n) v fs env w = refl

  pub load_right : (line : ℕ) (t : Target) (fs : List Frame) (env : List Value) (w : KeptWorld) → on (doing (aims t) (load line ∷ fs) env) w ≡ bind (bind (kept.load line t w) (giving_next program fs env)) on
  load_right line t fs env w = given_right (kept.load line t w) fs env

  place_right : (s : Stmt) (t : Target) (fs : List Frame) (env : List Value) (w : KeptWorld) → bind (place_given program f calls s (ways fs) t env w) (flow_on program f calls fs) ≡ on (place_step program s t fs env) w
  place_right (block body) t fs env w = refl
  place_right (declare line x e) t fs env w = refl
  place_right (assign line x e) t fs env w = refl
  place_right (store line place e) t fs env w = (search assoc)
  place_right (update line place c e) t fs env w = (search assoc)
  place_right (copy line z left right) t fs env w = (search assoc) ∙ start_right right (inside (copy line z left right) (sourced t) ∷ fs) env w
  place_right (evaluate line e) t fs env w = refl
  place_right (delete line e) t fs env w = refl
  place_right (branch line test a b) t fs env w = refl
  place_right (while line test body) t fs env w = refl
  place_right (repeat line body test) t fs env w = refl
  place_right (for line head test third body) t fs env w = refl
  place_right (break line) t fs env w = refl
  place_right (continue line) t fs env w = refl
  place_right (return line e) t fs env w = refl

  source_right : (s : Stmt) (to from : Target) (fs : List Frame) (env : List Value) (w : KeptWorld) → bind (source_given program f calls s to from env w) (flow_on program f calls fs) ≡ bind (source_step program s to from fs env w) on
  source_right (block body) to from fs env w = refl
  source_right (declare line x e) to from fs env w = refl
  source_right (assign line x e) to from fs env w = refl
  source_right (store line place e) to from fs env w = refl
  source_right (update line place c e) to from fs env w = refl
  source_right (copy line z left right) to from fs env w = bound (kept.load_all line from (size program.structs (struct z)) w) _ _ fs (λ vs w1. gone_right (kept.store_all line to vs w1) fs env)
  source_right (evaluate line e) to from fs env w = refl
  source_right (delete line e) to from fs env w = refl
  source_right (branch line test a b) to from fs env w = refl
  source_right (while line test body) to from fs env w = refl
  source_right (repeat line body test) to from fs env w = refl
  source_right (for line head test third body) to from fs env w = refl
  source_right (break line) to from fs env w = refl
  source_right (continue line) to from fs env w = refl
  source_right (return line e) to from fs env w = refl

  pub aimed_right : (s : Stmt) (stage : Stage) (t : Target) (fs : List Frame) (env : List Value) (w : KeptWorld) → on (doing (aims t) (inside s stage ∷ fs) env) w ≡ bind (aimed_step program s stage t fs env w) on
  aimed_right s placed t fs env w = place_right s t fs env w
  aimed_right s (sourced to) t fs env w = source_right s to t fs env w
  aimed_right s valued t fs env w = refl
  aimed_right s (stored x) t fs env w = refl
  aimed_right s (within rest) t fs env w = refl
  aimed_right s (tested n) t fs env w = refl
  aimed_right s (bodied n) t fs env w = refl
  aimed_right s headed t fs env w = refl
  aimed_right s (thirded n) t fs env w = refl

  head_right : (line : ℕ) (head : Stmt) (test : Option Expr) (third body : Stmt) (n : ℕ) (fs : List Frame) (env : List Value) (w : KeptWorld) → bind (for_rounds program f calls (suc n) test third body (ways fs) env w) (flow_on program f calls fs) ≡ on (head_step program (for line head test third body) n test body fs env) w
  head_right line head None third body n fs env w = (search assoc)
  head_right line head (Some e) third body n fs env w = (search assoc)

  again_right : (s : Stmt) (n : ℕ) (fs : List Frame) (env : List Value) (w : KeptWorld) → bind (body_done program f calls s n (ways fs) (Next env) w) (flow_on program f calls fs) ≡ bind (body_step program s n goes fs env w) on
  again_right (block body) n fs env w = refl
  again_right (declare line x e) n fs env w = refl
  again_right (assign line x e) n fs env w = refl
  again_right (store line place e) n fs env w = refl
  again_right (update line place c e) n fs env w = refl
  again_right (copy line z left right) n fs env w = refl
  again_right (evaluate line e) n fs env w = refl
  again_right (delete line e) n fs env w = refl
  again_right (branch line test a b) n fs env w = refl
  again_right (while line test body) n fs env w = turn_right (λ m w1. while_rounds program f calls m test body (ways fs) env w1) (λ m. doing (evaluating test) (inside (while line test body) (tested m) ∷ fs) env) n fs (λ w1. refl) (λ m w1. (search assoc)) w
  again_right (repeat line body test) n fs env w = (search assoc)
  again_right (for line head test third body) n fs env w = (search assoc)
  again_right (break line) n fs env w = refl
  again_right (continue line) n fs env w = refl
  again_right (return line e) n fs env w = refl

  continued_right : (s : Stmt) (n : ℕ) (fs : List Frame) (env : List Value) (w : KeptWorld) → bind (body_done program f calls s n (ways fs) (Continued env) w) (flow_on program f calls fs) ≡ bind (body_step program s n continues fs env w) on
  continued_right (block body) n fs env w = refl
  continued_right (declare line x e) n fs env w = refl
  continued_right (assign line x e) n fs env w = refl
  continued_right (store line place e) n fs env w = refl
  continued_right (update line place c e) n fs env w = refl
  continued_right (copy line z left right) n fs env w = refl
  continued_right (evaluate line e) n fs env w = refl
  continued_right (delete line e) n fs env w = refl
  continued_right (branch line test a b) n fs env w = refl
  continued_right (while line test body) n fs env w = again_right (while line test body) n fs env w
  continued_right (repeat line body test) n fs env w = again_right (repeat line body test) n fs env w
  continued_right (for line head test third body) n fs env w = again_right (for line head test third body) n fs env w
  continued_right (break line) n fs env w = refl
  continued_right (continue line) n fs env w = refl
  continued_right (return line e) n fs env w = refl

  third_right : (s : Stmt) (n : ℕ) (fs : List Frame) (env : List Value) (w : KeptWorld) → bind (third_done program f calls s n (ways fs) (Next env) w) (flow_on program f calls fs) ≡ bind (third_step program s n fs env w) on
  third_right (block body) n fs env w = refl
  third_right (declare line x e) n fs env w = refl
  third_right (assign line x e) n fs env w = refl
  third_right (store line place e) n fs env w = refl
  third_right (update line place c e) n fs env w = refl
  third_right (copy line z left right) n fs env w = refl
  third_right (evaluate line e) n fs env w = refl
  third_right (delete line e) n fs env w = refl
  third_right (branch line test a b) n fs env w = refl
  third_right (while line test body) n fs env w = refl
  third_right (repeat line body test) n fs env w = refl
  third_right (for line head test third body) n fs env w = turn_right (λ m w1. for_rounds program f calls m test third body (ways fs) env w1) (λ m. head_step program (for line head test third body) m test body fs env) n fs (λ w1. refl) (λ m w1. head_right line head test third body m fs env w1) w
  third_right (break line) n fs env w = refl
  third_right (continue line) n fs env w = refl
  third_right (return line e) n fs env w = refl

  headed_right : (s : Stmt) (fs : List Frame) (env : List Value) (w : KeptWorld) → bind (head_done program f calls s (ways fs) (Next env) w) (flow_on program f calls fs) ≡ bind (headed_step program s fs env w) on
  headed_right (block body) fs env w = refl
  headed_right (declare line x e) fs env w = refl
  headed_right (assign line x e) fs env w = refl
  headed_right (store line place e) fs env w = refl
  headed_right (update line place c e) fs env w = refl
  headed_right (copy line z left right) fs env w = refl
  headed_right (evaluate line e) fs env w = refl
  headed_right (delete line e) fs env w = refl
  headed_right (branch line test a b) fs env w = refl
  headed_right (while line test body) fs env w = refl
  headed_right (repeat line body test) fs env w = refl
  headed_right (for line head test third body) fs env w = head_right line head test third body w.turns fs env w
  headed_right (break line) fs env w = refl
  headed_right (continue line) fs env w = refl
  headed_right (return line e) fs env w = refl

  within_right : (s : Stmt) (rest : Stmts) (fs : List Frame) (env : List Value) (w : KeptWorld) → on (doing goes (inside s (within rest) ∷ fs) env) w ≡ on (within_step program s rest fs env) w
  within_right s done fs env w = refl
  within_right s (then x rest) fs env w = (search assoc)

  pub go_right : (s : Stmt) (stage : Stage) (fs : List Frame) (env : List Value) (w : KeptWorld) → on (doing goes (inside s stage ∷ fs) env) w ≡ bind (go_step program s stage fs env w) on
  go_right s (within rest) fs env w = within_right s rest fs env w
  go_right s (bodied n) fs env w = again_right s n fs env w
  go_right s headed fs env w = headed_right s fs env w
  go_right s (thirded n) fs env w = third_right s n fs env w
  go_right s placed fs env w = refl
  go_right s (sourced t) fs env w = refl
  go_right s valued fs env w = refl
  go_right s (stored t) fs env w = refl
  go_right s (tested n) fs env w = refl

  third_passed : (s : Stmt) (n : ℕ) (k : Ways) (env : List Value) (w : KeptWorld) → (third_done program f calls s n k (Continued env) w ≡ Go (Continued env) w) × (third_done program f calls s n k (Broke env) w ≡ Go (Broke env) w)
  third_passed (block body) n k env w = (refl, refl)
  third_passed (declare line x e) n k env w = (refl, refl)
  third_passed (assign line x e) n k env w = (refl, refl)
  third_passed (store line place e) n k env w = (refl, refl)
  third_passed (update line place c e) n k env w = (refl, refl)
  third_passed (copy line z left right) n k env w = (refl, refl)
  third_passed (evaluate line e) n k env w = (refl, refl)
  third_passed (delete line e) n k env w = (refl, refl)
  third_passed (branch line test a b) n k env w = (refl, refl)
  third_passed (while line test body) n k env w = (refl, refl)
  third_passed (repeat line body test) n k env w = (refl, refl)
  third_passed (for line head test third body) n k env w = (refl, refl)
  third_passed (break line) n k env w = (refl, refl)
  third_passed (continue line) n k env w = (refl, refl)
  third_passed (return line e) n k env w = (refl, refl)

  head_passed : (s : Stmt) (k : Ways) (env : List Value) (w : KeptWorld) → (head_done program f calls s k (Continued env) w ≡ Go (Continued env) w) × (head_done program f calls s k (Broke env) w ≡ Go (Broke env) w)
  head_passed (block body) k env w = (refl, refl)
  head_passed (declare line x e) k env w = (refl, refl)
  head_passed (assign line x e) k env w = (refl, refl)
  head_passed (store line place e) k env w = (refl, refl)
  head_passed (update line place c e) k env w = (refl, refl)
  head_passed (copy line z left right) k env w = (refl, refl)
  head_passed (evaluate line e) k env w = (refl, refl)
  head_passed (delete line e) k env w = (refl, refl)
  head_passed (branch line test a b) k env w = (refl, refl)
  head_passed (while line test body) k env w = (refl, refl)
  head_passed (repeat line body test) k env w = (refl, refl)
  head_passed (for line head test third body) k env w = (refl, refl)
  head_passed (break line) k env w = (refl, refl)
  head_passed (continue line) k env w = (refl, refl)
  head_passed (return line e) k env w = (refl, refl)

  pub continue_right : (s : Stmt) (stage : Stage) (fs : List Frame) (env : List Value) (w : KeptWorld) → on (doing continues (inside s stage ∷ fs) env) w ≡ bind (continue_step program s stage fs env w) on
  continue_right s (within rest) fs env w = refl
  continue_right s (bodied n) fs env w = continued_right s n fs env w
  continue_right s headed fs env w = ap (λ m. bind m (flow_on program f calls fs)) (head_passed s (ways fs) env w).0
  continue_right s (thirded n) fs env w = ap (λ m. bind m (flow_on program f calls fs)) (third_passed s n (ways fs) env w).0
  continue_right s placed fs env w = refl
  continue_right s (sourced t) fs env w = refl
  continue_right s valued fs env w = refl
  continue_right s (stored t) fs env w = refl
  continue_right s (tested n) fs env w = refl

  broken_right : (s : Stmt) (n : ℕ) (fs : List Frame) (env : List Value) (w : KeptWorld) → bind (body_done program f calls s n (ways fs) (Broke env) w) (flow_on program f calls fs) ≡ on (doing (broken program s) fs env) w
  broken_right (block body) n fs env w = refl
  broken_right (declare line x e) n fs env w = refl
  broken_right (assign line x e) n fs env w = refl
  broken_right (store line place e) n fs env w = refl
  broken_right (update line place c e) n fs env w = refl
  broken_right (copy line z left right) n fs env w = refl
  broken_right (evaluate line e) n fs env w = refl
  broken_right (delete line e) n fs env w = refl
  broken_right (branch line test a b) n fs env w = refl
  broken_right (while line test body) n fs env w = refl
  broken_right (repeat line body test) n fs env w = refl
  broken_right (for line head test third body) n fs env w = refl
  broken_right (break line) n fs env w = refl
  broken_right (continue line) n fs env w = refl
  broken_right (return line e) n fs env w = refl

  pub break_right : (s : Stmt) (stage : Stage) (fs : List Frame) (env : List Value) (w : KeptWorld) → on (doing breaks (inside s stage ∷ fs) env) w ≡ on (break_step program s stage fs env) w
  break_right s (within rest) fs env w = refl
  break_right s (bodied n) fs env w = broken_right s n fs env w
  break_right s headed fs env w = ap (λ m. bind m (flow_on program f calls fs)) (head_passed s (ways fs) env w).1
  break_right s (thirded n) fs env w = ap (λ m. bind m (flow_on program f calls fs)) (third_passed s n (ways fs) env w).1
  break_right s placed fs env w = refl
  break_right s (sourced t) fs env w = refl
  break_right s valued fs env w = refl
  break_right s (stored t) fs env w = refl
  break_right s (tested n) fs env w = refl

  body_returned : (s : Stmt) (n : ℕ) (k : Ways) (v : Value) (w : KeptWorld) → (body_done program f calls s n k (Returned v) w ≡ Go (Returned v) w) × (third_done program f calls s n k (Returned v) w ≡ Go (Returned v) w) × (head_done program f calls s k (Returned v) w ≡ Go (Returned v) w)
  body_returned (block body) n k v w = (refl, refl, refl)
  body_returned (declare line x e) n k v w = (refl, refl, refl)
  body_returned (assign line x e) n k v w = (refl, refl, refl)
  body_returned (store line place e) n k v w = (refl, refl, refl)
  body_returned (update line place c e) n k v w = (refl, refl, refl)
  body_returned (copy line z left right) n k v w = (refl, refl, refl)
  body_returned (evaluate line e) n k v w = (refl, refl, refl)
  body_returned (delete line e) n k v w = (refl, refl, refl)
  body_returned (branch line test a b) n k v w = (refl, refl, refl)
  body_returned (while line test body) n k v w = (refl, refl, refl)
  body_returned (repeat line body test) n k v w = (refl, refl, refl)
  body_returned (for line head test third body) n k v w = (refl, refl, refl)
  body_returned (break line) n k v w = (refl, refl, refl)
  body_returned (continue line) n k v w = (refl, refl, refl)
  body_returned (return line e) n k v w = (refl, refl, refl)

  inside_returned : (s : Stmt) (stage : Stage) (fs : List Frame) (v : Value) (w : KeptWorld) → flow_on program f calls (inside s stage ∷ fs) (Returned v) w ≡ flow_on program f calls fs (Returned v) w
  inside_returned s (within rest) fs v w = refl
  inside_returned s (bodied n) fs v w = ap (λ m. bind m (flow_on program f calls fs)) (body_returned s n (ways fs) v w).0
  inside_returned s headed fs v w = ap (λ m. bind m (flow_on program f calls fs)) (body_returned s 0 (ways fs) v w).2
  inside_returned s (thirded n) fs v w = ap (λ m. bind m (flow_on program f calls fs)) (body_returned s n (ways fs) v w).1
  inside_returned s placed fs v w = refl
  inside_returned s (sourced t) fs v w = refl
  inside_returned s valued fs v w = refl
  inside_returned s (stored t) fs v w = refl
  inside_returned s (tested n) fs v w = refl

  -- a return passes by whatever waits
  pub returned_right : (frame : Frame) (fs : List Frame) (v : Value) (env : List Value) (w : KeptWorld) → on (doing (returns v) (frame ∷ fs) env) w ≡ on (doing (returns v) fs env) w
  returned_right (first e) fs v env w = refl
  returned_right (second e u) fs v env w = refl
  returned_right (argument g vs es) fs v env w = refl
  returned_right (pointer p) fs v env w = refl
  returned_right (index p u) fs v env w = refl
  returned_right (element_frame t count stride path) fs v env w = refl
  returned_right (load line) fs v env w = refl
  returned_right (inside s stage) fs v env w = inside_returned s stage fs v w
