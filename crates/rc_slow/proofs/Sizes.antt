-- Each step that takes no turn leaves less to do.
use Rattle.std.proofs.Common.{◌≡◌, ◌<◌, ◌+◌, ◌⊎◌, inl, inr, ℕ, zero, suc, ℤ, Bool, true, false, List, [], ◌∷◌, ◌++◌, Option, Some, None, Result, Ok, Err, refl, ◌∙◌, subst, arith}
use Rattle.std.specs.Prelude.{slice_get, pos, negsuc}
use Rattle.rc_base.specs.declared.ends.Trap.{Trap}
use Rattle.rc_core.specs.declared.stmt.Change.{Change}
use Rattle.rc_core.specs.declared.stmt.Change.TheVariants.{Compute, Step}
use Rattle.rc_core.specs.Arithmetic.{converted, type_of, calculate, calculate_one}
use Rattle.rc_core.specs.Types.{struct}
use Rattle.rc_core.specs.Programs.{Expr, read, step, step_from, unary, binary, and, or, choose, call, new_region, new_subregion, region_of, allocate, allocate_array, getchar, Arguments, none, more, Place, global, pointed, indexed, Path, here, field, element, Stmt, block, declare, store, update, copy, delete, branch, while, repeat, for, return, Stmts, done, then, Function, Program}
use Rattle.rc_core.specs.Layout.{Layout, cells, size}
use Rattle.rc_core.specs.Heap.{Value, Number, Null, Handle, Pointer}
use Rattle.rc_core.specs.Runs.{Run, Go, Stopped, bind, branching, computed, Target, Calls}
use Rattle.rc_core.specs.Evaluation.{number_in, is_true, toward, region_named, give_number}
use Rattle.rc_core.specs.Execution.{held, function_deletes, zero_result, calls_within, changed}
use Rattle.rc_values.specs.Outcomes.{Outcome}
use Rattle.rc_memory.specs.Kept.{KeptHeap, live_region, load, load_all, store as stored_values, step as step_on}
use Rattle.rc_memory.specs.KeptWorld.{KeptWorld, kept, giving, leaving, in_region, turn_from, byte_from}
use Rattle.rc_frames.specs.Frames.{Frame, first, second, argument, pointer, index, element as element_frame, load as load_frame, inside, Stage, placed, sourced, valued, stored, within, tested, bodied, headed, thirded, ways}
use Rattle.rc_nodes.specs.Stepping.{Control, after_second, evaluating, executing, going_along, gives, aims, goes, breaks, continues, returns, Doing, start, begin, giving_next, first_step, second_step, pointer_step, index_step, along_step, execute, going_next, value_step, stored_step, one_fewer, turning_to, test_step, given_step, place_step, source_step, aimed_step, head_step, body_step, within_step, headed_step, third_step, go_step, continue_step, break_step}
use Rattle.rc_slow.specs.Whole.{Activation, State, onward, left, staying, called, with_calls, call_from, entered, call_step, evaluate_step, argument_step, leave_step, give_step, aim_step, goes_step, breaks_step, continues_step, returns_step, control_step}
use Rattle.rc_slow.specs.Size.{size_of_expr, size_of_arguments, size_of_place, size_of_path, size_of_part, size_of_stmt, size_of_stmts, left_of_expr, left_of_pointer, left_of_index, left_of_place, left_of_value, left_of_test, left_of_body, left_of_head, left_inside, size_of_frames, size_of_control, size_of_doing, size_of_calls, LeadsBelow, Falls, size_of}

-- what leaves the turns as they were

abbrev Keeps : {A : Type 0} → KeptWorld → Run KeptWorld A → Type 0
Keeps w (Go x w1) = w1.turns ≡ w.turns
Keeps w (Stopped stop w1) = Unit {0}

keeps_then : {A : Type 0} (w w1 : KeptWorld) (m : Run KeptWorld A) → w1.turns ≡ w.turns → Keeps w1 m → Keeps w m
keeps_then w w1 (Go x w2) e h = h ∙ e
keeps_then w w1 (Stopped stop w2) e h = tt

keeps_bind : {A B : Type 0} (w : KeptWorld) (m : Run KeptWorld A) (k : A → KeptWorld → Run KeptWorld B) → Keeps w m → ((x : A) (w1 : KeptWorld) → Keeps w1 (k x w1)) → Keeps w (bind m k)
keeps_bind w (Go x w1) k e h = keeps_then w w1 (k x w1) e (h x w1)
keeps_bind w (Stopped stop w1) k e h = tt

giving_keeps : {A : Type 0} (o : Outcome A) (w : KeptWorld) → Keeps w (giving o w)
giving_keeps (Ok x) w = refl
giving_keeps (Err stop) w = tt

leaving_keeps : {A : Type 0} (x : A) (o : Outcome KeptHeap) (w : KeptWorld) → Keeps w (leaving x o w)
leaving_keeps x (Ok heap) w = refl
leaving_keeps x (Err stop) w = tt

region_keeps : (o : Outcome ℕ) (line : ℕ) (count : ℤ) (layout : Layout) (w : KeptWorld) → Keeps w (in_region o line count layout w)
region_keeps (Ok r) line count layout w = leaving_keeps _ _ w
region_keeps (Err stop) line count layout w = tt

byte_keeps : (bytes : List ℕ) (w : KeptWorld) → Keeps w (byte_from bytes w)
byte_keeps [] w = refl
byte_keeps (b ∷ rest) w = refl

computed_keeps : {A : Type 0} (line : ℕ) (r : Result A Trap) (w : KeptWorld) → Keeps w (computed line r w)
computed_keeps line (Ok x) w = refl
computed_keeps line (Err t) w = tt

named_keeps : (line : ℕ) (v : Value) (w : KeptWorld) → Keeps w (region_named line v w)
named_keeps line (Number n) w = tt
named_keeps line Null w = tt
named_keeps line (Handle r) w = refl
named_keeps line (Pointer a) w = refl

allocate_keeps : (line : ℕ) (v : Value) (count : ℤ) (layout : Layout) (w : KeptWorld) → Keeps w (kept.allocate line v count layout w)
allocate_keeps line v count layout w = region_keeps (live_region w.heap line v) line count layout w

step_keeps : (line : ℕ) (v : Value) (n : ℤ) (w : KeptWorld) → Keeps w (kept.step line v n w)
step_keeps line v n w = giving_keeps (step_on w.heap line v n) w

load_keeps : (line : ℕ) (t : Target) (w : KeptWorld) → Keeps w (kept.load line t w)
load_keeps line t w = giving_keeps (load w.heap line t) w

store_keeps : (line : ℕ) (t : Target) (v : Value) (w : KeptWorld) → Keeps w (kept.store line t v w)
store_keeps line t v w = leaving_keeps tt (stored_values w.heap line t (v ∷ [])) w

number_keeps : (m : Run KeptWorld ℤ) (w : KeptWorld) → Keeps w m → Keeps w (bind m give_number)
number_keeps m w h = keeps_bind w m give_number h (λ n w1. refl)

-- where it goes on, fewer turns are left, or as many and less than so much to do

abbrev Leads : (size : ℕ) → KeptWorld → Run KeptWorld Doing → Type 0
Leads n w (Go d w1) = (w1.turns < w.turns) ⊎ ((w1.turns ≡ w.turns) × (size_of_doing d < n))
Leads n w (Stopped stop w1) = Unit {0}

leads_then : (n : ℕ) (w w1 : KeptWorld) (m : Run KeptWorld Doing) → w1.turns ≡ w.turns → Leads n w1 m → Leads n w m
leads_then n w w1 (Go d w2) e (inl fewer) = inl (omega (arith, fewer, e))
leads_then n w w1 (Go d w2) e (inr less) = inr (less.0 ∙ e, less.1)
leads_then n w w1 (Stopped stop w2) e h = tt

leads_bind : {A : Type 0} (n : ℕ) (w : KeptWorld) (m : Run KeptWorld A) (k : A → KeptWorld → Run KeptWorld Doing) → Keeps w m → ((x : A) (w1 : KeptWorld) → Leads n w1 (k x w1)) → Leads n w (bind m k)
leads_bind n w (Go x w1) k e h = leads_then n w w1 (k x w1) e (h x w1)
leads_bind n w (Stopped stop w1) k e h = tt

leads_branching : (n : ℕ) (b : Bool) (p q : KeptWorld → Run KeptWorld Doing) (w : KeptWorld) → Leads n w (p w) → Leads n w (q w) → Leads n w (branching b p q w)
leads_branching n true p q w h g = h
leads_branching n false p q w h g = g

module _ (program : Program) where
  -- a turn is taken, or none is left
  turned : (n m k : ℕ) (next : ℕ → Doing) (w : KeptWorld) → m ≡ w.turns → Leads n w (bind (turn_from m w) (λ _ w1. one_fewer program k next w1))
  turned n zero k next w e = tt
  turned n (suc m) zero next w e = tt
  turned n (suc m) (suc k) next w e = inl (omega (arith, e))

  turning_leads : (n k : ℕ) (next : ℕ → Doing) (w : KeptWorld) → Leads n w (turning_to program k next w)
  turning_leads n k next w = turned n w.turns k next w refl

  -- a value comes out of what leaves the turns
  giving_leads : (n : ℕ) (w : KeptWorld) (m : Run KeptWorld Value) (fs : List Frame) (env : List Value) → Keeps w m → 1 + size_of_frames fs < n → Leads n w (bind m (giving_next program fs env))
  giving_leads n w m fs env h less = leads_bind n w m (giving_next program fs env) h (λ v w1. inr (refl, less))

  going_leads : (n : ℕ) (w : KeptWorld) (m : Run KeptWorld (Unit {0})) (fs : List Frame) (env : List Value) → Keeps w m → 1 + size_of_frames fs < n → Leads n w (bind m (going_next program fs env))
  going_leads n w m fs env h less = leads_bind n w m (going_next program fs env) h (λ u w1. inr (refl, less))

  start_size : (place : Place) (fs : List Frame) (env : List Value) → size_of_doing (start program place fs env) ≡ size_of_place place + size_of_frames fs
  start_size (global g path) fs env = omega arith
  start_size (pointed p path) fs env = omega arith
  start_size (indexed p i path) fs env = omega arith

  abbrev IsNoCall : Expr → Type 0
  IsNoCall (call line g arguments) = ⊥
  IsNoCall _ = Unit {0}

  begin_leads : (e : Expr) (fs : List Frame) (env : List Value) (w : KeptWorld) → IsNoCall e → Leads (size_of_expr e + size_of_frames fs) w (begin program e fs env w)
  begin_leads (read line place) fs env w h = inr (refl, omega (arith, start_size place (load_frame line ∷ fs) env))
  begin_leads (call line g arguments) fs env w h = absurd h
  begin_leads (new_region line) fs env w h = giving_leads _ w (kept.new_region line w) fs env (leaving_keeps _ _ w) (omega arith)
  begin_leads (getchar line) fs env w h = leads_bind _ w (kept.get_byte w) _ (byte_keeps w.input w) (λ n w1. inr (refl, omega arith))
  begin_leads _ fs env w h = inr (refl, omega arith)

  first_leads : (e : Expr) (v : Value) (fs : List Frame) (env : List Value) (w : KeptWorld) → Leads (2 + left_of_expr e + size_of_frames fs) w (first_step program e v fs env w)
  first_leads (unary line operator s e) v fs env w = giving_leads _ w (bind (computed line (calculate_one operator s (number_in v)) w) give_number) fs env (number_keeps _ w (computed_keeps line (calculate_one operator s (number_in v)) w)) (omega arith)
  first_leads (and line a b) v fs env w = leads_branching _ (is_true v) _ _ w (inr (refl, omega arith)) (inr (refl, omega arith))
  first_leads (or line a b) v fs env w = leads_branching _ (is_true v) _ _ w (inr (refl, omega arith)) (inr (refl, omega arith))
  first_leads (choose line test a b) v fs env w = leads_branching _ (is_true v) _ _ w (inr (refl, omega arith)) (inr (refl, omega arith))
  first_leads (new_subregion line r) v fs env w = giving_leads _ w (kept.new_subregion line v w) fs env (leaving_keeps _ _ w) (omega arith)
  first_leads (region_of line p) v fs env w = giving_leads _ w (region_named line v w) fs env (named_keeps line v w) (omega arith)
  first_leads (allocate line r ty) v fs env w = giving_leads _ w (kept.allocate line v (pos 1) (cells program.structs ty) w) fs env (allocate_keeps line v (pos 1) (cells program.structs ty) w) (omega arith)
  first_leads _ v fs env w = inr (refl, omega arith)

  second_keeps : (f : Function) (calls : Calls KeptWorld) (e : Expr) (v u : Value) (w : KeptWorld) → Keeps w (after_second program f calls e v u w)
  second_keeps f calls (step line direction p i) v u w = step_keeps line v (toward direction (number_in u)) w
  second_keeps f calls (step_from line i p) v u w = step_keeps line u (number_in v) w
  second_keeps f calls (binary line operator s a b) v u w = number_keeps _ w (computed_keeps line (calculate operator s (number_in v) (number_in u)) w)
  second_keeps f calls (allocate_array line r n ty) v u w = allocate_keeps line v (number_in u) (cells program.structs ty) w
  second_keeps f calls _ v u w = refl

  second_leads : (f : Function) (calls : Calls KeptWorld) (e : Expr) (v u : Value) (fs : List Frame) (env : List Value) (w : KeptWorld) → Leads (2 + size_of_frames fs) w (second_step program f calls e v u fs env w)
  second_leads f calls e v u fs env w = giving_leads _ w (after_second program f calls e v u w) fs env (second_keeps f calls e v u w) (omega arith)

  pointer_less : (place : Place) (v : Value) (fs : List Frame) (env : List Value) → size_of_doing (pointer_step program place v fs env) < 2 + left_of_pointer place + size_of_frames fs
  pointer_less (global g path) v fs env = omega arith
  pointer_less (pointed p path) v fs env = omega arith
  pointer_less (indexed p i path) v fs env = omega arith

  index_less : (place : Place) (v n : Value) (fs : List Frame) (env : List Value) → size_of_doing (index_step program place v n fs env) < 2 + left_of_index place + size_of_frames fs
  index_less (global g path) v n fs env = omega arith
  index_less (pointed p path) v n fs env = omega arith
  index_less (indexed p i path) v n fs env = omega arith

  along_less : (t : Target) (path : Path) (fs : List Frame) (env : List Value) → size_of_doing (along_step program t path fs env) < 2 + size_of_path path + size_of_frames fs
  along_less t here fs env = omega arith
  along_less t (field s g rest) fs env = omega arith
  along_less t (element s g i rest) fs env = omega arith

  execute_less : (f : Function) (s : Stmt) (fs : List Frame) (env : List Value) (w : KeptWorld) → size_of_doing (execute program f s fs env w) < size_of_stmt s + size_of_frames fs
  execute_less f (block done) fs env w = omega arith
  execute_less f (block (then s rest)) fs env w = omega arith
  execute_less f (declare line x None) fs env w = omega arith
  execute_less f (declare line x (Some e)) fs env w = omega arith
  execute_less f (store line place e) fs env w = omega (arith, start_size place (inside (store line place e) placed ∷ fs) env)
  execute_less f (update line place change e) fs env w = omega (arith, start_size place (inside (update line place change e) placed ∷ fs) env)
  execute_less f (copy line s left right) fs env w = omega (arith, start_size left (inside (copy line s left right) placed ∷ fs) env)
  execute_less f (return line None) fs env w = omega arith
  execute_less f (return line (Some e)) fs env w = omega arith
  execute_less f _ fs env w = omega arith

  value_leads : (s : Stmt) (v : Value) (fs : List Frame) (env : List Value) (w : KeptWorld) → Leads (2 + left_of_value s + size_of_frames fs) w (value_step program s v fs env w)
  value_leads (delete line e) v fs env w = going_leads _ w (kept.delete line (held (ways fs).next env) v w) fs env (leaving_keeps tt _ w) (omega arith)
  value_leads (branch line test a b) v fs env w = leads_branching _ (is_true v) _ _ w (inr (refl, omega arith)) (inr (refl, omega arith))
  value_leads _ v fs env w = inr (refl, omega arith)

  changed_keeps : (line : ℕ) (change : Change) (old v : Value) (w : KeptWorld) → Keeps w (changed kept program line change old v w)
  changed_keeps line (Compute from operator s) old v w = keeps_bind w _ _ (computed_keeps line (calculate operator s (converted (type_of s) (number_in old)) (number_in v)) w) (λ n w1. refl)
  changed_keeps line (Step direction) old v w = step_keeps line old (toward direction (number_in v)) w

  stored_leads : (s : Stmt) (t : Target) (v : Value) (fs : List Frame) (env : List Value) (w : KeptWorld) → Leads (2 + size_of_frames fs) w (stored_step program s t v fs env w)
  stored_leads (store line place e) t v fs env w = going_leads _ w (kept.store line t v w) fs env (store_keeps line t v w) (omega arith)
  stored_leads (update line place change e) t v fs env w =
      leads_bind _ w (kept.load line t w) _ (load_keeps line t w) (λ old w1.
      leads_bind _ w1 (changed kept program line change old v w1) _ (changed_keeps line change old v w1) (λ new w2.
      going_leads _ w2 (kept.store line t new w2) fs env (store_keeps line t new w2) (omega arith)))
  stored_leads _ t v fs env w = inr (refl, omega arith)

  test_leads : (s : Stmt) (n : ℕ) (v : Value) (fs : List Frame) (env : List Value) (w : KeptWorld) → Leads (2 + left_of_test s + size_of_frames fs) w (test_step program s n v fs env w)
  test_leads (while line test body) n v fs env w = leads_branching _ (is_true v) _ _ w (inr (refl, omega arith)) (inr (refl, omega arith))
  test_leads (repeat line body test) n v fs env w = leads_branching _ (is_true v) _ _ w (turning_leads _ n _ w) (inr (refl, omega arith))
  test_leads (for line head test third body) n v fs env w = leads_branching _ (is_true v) _ _ w (inr (refl, omega arith)) (inr (refl, omega arith))
  test_leads _ n v fs env w = inr (refl, omega arith)

  given_leads : (s : Stmt) (stage : Stage) (v : Value) (fs : List Frame) (env : List Value) (w : KeptWorld) → Leads (2 + left_inside s stage + size_of_frames fs) w (given_step program s stage v fs env w)
  given_leads s valued v fs env w = value_leads s v fs env w
  given_leads s (stored t) v fs env w = stored_leads s t v fs env w
  given_leads s (tested n) v fs env w = test_leads s n v fs env w
  given_leads s _ v fs env w = inr (refl, omega arith)

  place_less : (s : Stmt) (t : Target) (fs : List Frame) (env : List Value) → size_of_doing (place_step program s t fs env) < 2 + left_of_place s + size_of_frames fs
  place_less (copy line k left right) t fs env = omega (arith, start_size right (inside (copy line k left right) (sourced t) ∷ fs) env)
  place_less _ t fs env = omega arith

  source_leads : (s : Stmt) (to from : Target) (fs : List Frame) (env : List Value) (w : KeptWorld) → Leads (2 + size_of_frames fs) w (source_step program s to from fs env w)
  source_leads (copy line k left right) to from fs env w =
      leads_bind _ w (kept.load_all line from (size program.structs (struct k)) w) _ (giving_keeps (load_all w.heap line from (size program.structs (struct k))) w) (λ vs w1.
      going_leads _ w1 (kept.store_all line to vs w1) fs env (leaving_keeps tt _ w1) (omega arith))
  source_leads _ to from fs env w = inr (refl, omega arith)

  aimed_leads : (s : Stmt) (stage : Stage) (t : Target) (fs : List Frame) (env : List Value) (w : KeptWorld) → Leads (2 + left_inside s stage + size_of_frames fs) w (aimed_step program s stage t fs env w)
  aimed_leads s placed t fs env w = inr (refl, place_less s t fs env)
  aimed_leads s (sourced to) t fs env w = source_leads s to t fs env w
  aimed_leads s _ t fs env w = inr (refl, omega arith)

  head_less : (s : Stmt) (n : ℕ) (test : Option Expr) (body third : Stmt) (fs : List Frame) (env : List Value) → left_of_test s ≡ size_of_stmt body + size_of_stmt third → left_of_body s ≡ size_of_stmt third → size_of_doing (head_step program s n test body fs env) < 2 + size_of_part test + size_of_stmt body + size_of_stmt third + size_of_frames fs
  head_less s n None body third fs env t b = omega (arith, b)
  head_less s n (Some e) body third fs env t b = omega (arith, t)

  -- for the controls behind a body, one each
  body_leads : (s : Stmt) (n : ℕ) (c : Control) (fs : List Frame) (env : List Value) (w : KeptWorld) → size_of_control c ≡ 1 → Leads (2 + left_of_body s + size_of_frames fs) w (body_step program s n c fs env w)
  body_leads (while line test body) n c fs env w one = turning_leads _ n _ w
  body_leads (repeat line body test) n c fs env w one = inr (refl, omega arith)
  body_leads (for line head test third body) n c fs env w one = inr (refl, omega arith)
  body_leads _ n c fs env w one = inr (refl, omega (arith, one))

  within_less : (s : Stmt) (rest : Stmts) (fs : List Frame) (env : List Value) → size_of_doing (within_step program s rest fs env) < 2 + size_of_stmts rest + size_of_frames fs
  within_less s done fs env = omega arith
  within_less s (then x rest) fs env = omega arith

  headed_leads : (s : Stmt) (fs : List Frame) (env : List Value) (w : KeptWorld) → Leads (2 + left_of_head s + size_of_frames fs) w (headed_step program s fs env w)
  headed_leads (for line head test third body) fs env w = inr (refl, omega (arith, head_less (for line head test third body) w.turns test body third fs env refl refl))
  headed_leads _ fs env w = inr (refl, omega arith)

  third_leads : (s : Stmt) (n : ℕ) (fs : List Frame) (env : List Value) (w : KeptWorld) → Leads (2 + size_of_frames fs) w (third_step program s n fs env w)
  third_leads (for line head test third body) n fs env w = turning_leads _ n _ w
  third_leads _ n fs env w = inr (refl, omega arith)

  go_leads : (s : Stmt) (stage : Stage) (fs : List Frame) (env : List Value) (w : KeptWorld) → Leads (2 + left_inside s stage + size_of_frames fs) w (go_step program s stage fs env w)
  go_leads s (within rest) fs env w = inr (refl, within_less s rest fs env)
  go_leads s (bodied n) fs env w = body_leads s n goes fs env w refl
  go_leads s headed fs env w = headed_leads s fs env w
  go_leads s (thirded n) fs env w = third_leads s n fs env w
  go_leads s _ fs env w = inr (refl, omega arith)

  continue_leads : (s : Stmt) (stage : Stage) (fs : List Frame) (env : List Value) (w : KeptWorld) → Leads (2 + left_inside s stage + size_of_frames fs) w (continue_step program s stage fs env w)
  continue_leads s (bodied n) fs env w = body_leads s n continues fs env w refl
  continue_leads s _ fs env w = inr (refl, omega arith)

  broken_less : (s : Stmt) (n : ℕ) (fs : List Frame) (env : List Value) → size_of_doing (break_step program s (bodied n) fs env) < 2 + left_inside s (bodied n) + size_of_frames fs
  broken_less (while line test body) n fs env = omega arith
  broken_less (repeat line body test) n fs env = omega arith
  broken_less (for line head test third body) n fs env = omega arith
  broken_less _ n fs env = omega arith

  break_less : (s : Stmt) (stage : Stage) (fs : List Frame) (env : List Value) → size_of_doing (break_step program s stage fs env) < 2 + left_inside s stage + size_of_frames fs
  break_less s (bodied n) fs env = broken_less s n fs env
  break_less s _ fs env = omega arith

  -- a step inside the running function
  stays : (n all : ℕ) (s : State) (w : KeptWorld) (m : Run KeptWorld Doing) → Leads n w m → n + size_of_calls s.below ≡ all → LeadsBelow all w (staying program s m)
  stays n all s w (Go d w1) (inl fewer) e = inl fewer
  stays n all s w (Go d w1) (inr less) e = inr (less.0, omega (arith, less.1, e))
  stays n all s w (Stopped stop w1) h e = tt

  stays_less : (n all : ℕ) (s : State) (w : KeptWorld) (d : Doing) → size_of_doing d < n → n + size_of_calls s.below ≡ all → LeadsBelow all w (staying program s (Go d w))
  stays_less n all s w d less e = inr (refl, omega (arith, less, e))

  -- a call takes a turn

  entered_turns : (b : Bool) (s : State) (w : KeptWorld) → (entered program b s w).turns ≡ w.turns
  entered_turns true s w = refl
  entered_turns false s w = refl

  turn_below : (n m : ℕ) (s : State) (before w : KeptWorld) → m ≡ before.turns → LeadsBelow n before (bind (turn_from m w) (λ _ w1. Go (onward s) w1))
  turn_below n zero s before w e = tt
  turn_below n (suc m) s before w e = inl (omega (arith, e))

  call_from_falls : (n calls : ℕ) (f : Option Function) (waiting : List Value) (s : State) (vs : List Value) (before w : KeptWorld) → w.turns ≡ before.turns → LeadsBelow n before (call_from program calls f waiting s vs w)
  call_from_falls n zero f waiting s vs before w e = tt
  call_from_falls n (suc calls) f waiting s vs before w e = turn_below n w.turns (with_calls program calls f (called program f waiting s vs)) before w e

  call_falls : (n g : ℕ) (s : State) (vs : List Value) (w : KeptWorld) → LeadsBelow n w (call_step program g s vs w)
  call_falls n g s vs w = call_from_falls n s.now.calls (slice_get program.functions g) w.waiting s vs w _ (entered_turns (function_deletes (slice_get program.functions g)) s w)

  evaluate_falls : (e : Expr) (s : State) (w : KeptWorld) → LeadsBelow (size_of_expr e + size_of_frames s.now.frames + size_of_calls s.below) w (evaluate_step program e s w)
  evaluate_falls (call line g none) s w = call_falls _ g s [] w
  evaluate_falls (call line g (more e rest)) s w = inr (refl, omega arith)
  evaluate_falls e s w = stays _ _ s w (begin program e s.now.frames s.now.locals w) (begin_leads e s.now.frames s.now.locals w tt) (omega arith)

  argument_falls : (all g : ℕ) (vs : List Value) (es : Arguments) (s : State) (v : Value) (fs : List Frame) (w : KeptWorld) → 2 + size_of_arguments es + size_of_frames fs + size_of_calls s.below ≡ all → LeadsBelow all w (argument_step program g vs es s v fs w)
  argument_falls all g vs none s v fs w e = call_falls all g (record s { now = record s.now { frames = fs } }) (vs ++ v ∷ []) w
  argument_falls all g vs (more x rest) s v fs w e = inr (refl, omega (arith, e))

  -- a call has its value

  left_turns : (b : Bool) (a : Activation) (w : KeptWorld) → a.deletes ≡ b → (left a w).turns ≡ w.turns
  left_turns true a w is = rw is refl
  left_turns false a w is = rw is refl

  leave_falls : (v : Value) (below : List Activation) (w : KeptWorld) → LeadsBelow (1 + size_of_calls below) w (leave_step program v below w)
  leave_falls v [] w = tt
  leave_falls v (a ∷ below) w = inr (left_turns a.deletes a w refl, omega arith)

  give_falls : (fs : List Frame) (v : Value) (s : State) (w : KeptWorld) → LeadsBelow (1 + size_of_frames fs + size_of_calls s.below) w (give_step program fs v s w)
  give_falls [] v s w = leave_falls v s.below w
  give_falls (first e ∷ fs) v s w = stays _ _ s w _ (first_leads e v fs s.now.locals w) (omega arith)
  give_falls (second e u ∷ fs) v s w = stays _ _ s w _ (second_leads s.now.function (calls_within kept program s.now.calls) e u v fs s.now.locals w) (omega arith)
  give_falls (argument g vs es ∷ fs) v s w = argument_falls _ g vs es s v fs w (omega arith)
  give_falls (pointer p ∷ fs) v s w = stays_less _ _ s w (pointer_step program p v fs s.now.locals) (pointer_less p v fs s.now.locals) (omega arith)
  give_falls (index p u ∷ fs) v s w = stays_less _ _ s w (index_step program p u v fs s.now.locals) (index_less p u v fs s.now.locals) (omega arith)
  give_falls (element_frame t count stride path ∷ fs) v s w = inr (refl, omega arith)
  give_falls (load_frame line ∷ fs) v s w = inr (refl, omega arith)
  give_falls (inside x stage ∷ fs) v s w = stays _ _ s w _ (given_leads x stage v fs s.now.locals w) (omega arith)

  aim_falls : (fs : List Frame) (t : Target) (s : State) (w : KeptWorld) → LeadsBelow (1 + size_of_frames fs + size_of_calls s.below) w (aim_step program fs t s w)
  aim_falls [] t s w = leave_falls (zero_result s.now.function.result) s.below w
  aim_falls (load_frame line ∷ fs) t s w = stays _ _ s w _ (giving_leads (2 + size_of_frames fs) w (kept.load line t w) fs s.now.locals (load_keeps line t w) (omega arith)) (omega arith)
  aim_falls (inside x stage ∷ fs) t s w = stays _ _ s w _ (aimed_leads x stage t fs s.now.locals w) (omega arith)
  aim_falls (frame ∷ fs) t s w = inr (refl, omega arith)

  goes_falls : (fs : List Frame) (s : State) (w : KeptWorld) → LeadsBelow (1 + size_of_frames fs + size_of_calls s.below) w (goes_step program fs s w)
  goes_falls [] s w = leave_falls (zero_result s.now.function.result) s.below w
  goes_falls (inside x stage ∷ fs) s w = stays _ _ s w _ (go_leads x stage fs s.now.locals w) (omega arith)
  goes_falls (frame ∷ fs) s w = inr (refl, omega arith)

  breaks_falls : (fs : List Frame) (s : State) (w : KeptWorld) → LeadsBelow (1 + size_of_frames fs + size_of_calls s.below) w (breaks_step program fs s w)
  breaks_falls [] s w = leave_falls (zero_result s.now.function.result) s.below w
  breaks_falls (inside x stage ∷ fs) s w = stays_less _ _ s w (break_step program x stage fs s.now.locals) (break_less x stage fs s.now.locals) (omega arith)
  breaks_falls (frame ∷ fs) s w = inr (refl, omega arith)

  continues_falls : (fs : List Frame) (s : State) (w : KeptWorld) → LeadsBelow (1 + size_of_frames fs + size_of_calls s.below) w (continues_step program fs s w)
  continues_falls [] s w = leave_falls (zero_result s.now.function.result) s.below w
  continues_falls (inside x stage ∷ fs) s w = stays _ _ s w _ (continue_leads x stage fs s.now.locals w) (omega arith)
  continues_falls (frame ∷ fs) s w = inr (refl, omega arith)

  returns_falls : (fs : List Frame) (v : Value) (s : State) (w : KeptWorld) → LeadsBelow (1 + size_of_frames fs + size_of_calls s.below) w (returns_step program fs v s w)
  returns_falls [] v s w = leave_falls v s.below w
  returns_falls (frame ∷ fs) v s w = inr (refl, omega arith)

  control_falls : (c : Control) (s : State) (w : KeptWorld) → LeadsBelow (size_of_control c + size_of_frames s.now.frames + size_of_calls s.below) w (control_step program c s w)
  control_falls (evaluating e) s w = evaluate_falls e s w
  control_falls (executing x) s w = stays_less _ _ s w (execute program s.now.function x s.now.frames s.now.locals w) (execute_less s.now.function x s.now.frames s.now.locals w) refl
  control_falls (going_along t path) s w = stays_less _ _ s w (along_step program t path s.now.frames s.now.locals) (along_less t path s.now.frames s.now.locals) refl
  control_falls (gives v) s w = give_falls s.now.frames v s w
  control_falls (aims t) s w = aim_falls s.now.frames t s w
  control_falls goes s w = goes_falls s.now.frames s w
  control_falls breaks s w = breaks_falls s.now.frames s w
  control_falls continues s w = continues_falls s.now.frames s w
  control_falls (returns v) s w = returns_falls s.now.frames v s w

  pub step_falls : (s : State) (w : KeptWorld) → Falls s w (control_step program s.control s w)
  step_falls s w = control_falls s.control s w

  -- a step that leads to a state, and one that reads a byte first
  pub leads_less : (s s1 : State) (w w1 : KeptWorld) → control_step program s.control s w ≡ Go (onward s1) w1 → (w1.turns < w.turns) ⊎ ((w1.turns ≡ w.turns) × (size_of s1 < size_of s))
  leads_less s s1 w w1 is = subst (Falls s w) is (step_falls s w)

  byte_below : (bytes : List ℕ) (n : ℕ) (next : ℤ → State) (w w1 : KeptWorld) → ((x y : ℤ) → size_of (next x) ≡ size_of (next y)) → (x : ℤ) → LeadsBelow n w (bind (byte_from bytes w1) (λ y. Go (onward (next y)))) → (w1.turns < w.turns) ⊎ ((w1.turns ≡ w.turns) × (size_of (next x) < n))
  byte_below [] n next w w1 e x (inl fewer) = inl fewer
  byte_below [] n next w w1 e x (inr less) = inr (less.0, omega (arith, less.1, e x (negsuc 0)))
  byte_below (b ∷ rest) n next w w1 e x (inl fewer) = inl fewer
  byte_below (b ∷ rest) n next w w1 e x (inr less) = inr (less.0, omega (arith, less.1, e x (pos b)))

  pub asks_less : (s : State) (next : ℤ → State) (w w1 : KeptWorld) → control_step program s.control s w ≡ bind (kept.get_byte w1) (λ x. Go (onward (next x))) → ((x y : ℤ) → size_of (next x) ≡ size_of (next y)) → (x : ℤ) → (w1.turns < w.turns) ⊎ ((w1.turns ≡ w.turns) × (size_of (next x) < size_of s))
  asks_less s next w w1 is e x = byte_below w1.input (size_of s) next w w1 e x (subst (Falls s w) is (step_falls s w))
