-- Steps of the machine, by what its parts answer.
use Rattle.std.proofs.Common.{◌≡◌, ◌∙◌, ℕ, zero, suc, Bool, true, false, List, [], ◌∷◌, Option, Some, Result, Ok, Err, refl, sym, ap}
use Rattle.std.specs.Prelude.{is_some}
use Rattle.rc_base.specs.declared.ends.Limits.{Limits}
use Rattle.rc_core.specs.Heap.{Value}
use Rattle.rc_base.specs.declared.ends.End.TheVariants.{Spent}
use Rattle.rc_core.specs.Execution.{first_locals, held}
use Rattle.rc_core.specs.Programs.{Expr, constant, null, string, local, read, address, step, step_from, unary, binary, convert, not_zero, and, or, choose, is_null, same, call, none, more, new_region, new_subregion, region_of, allocate, allocate_array, putchar, getchar, Program, Function}
use Rattle.rc_core.specs.Runs.{Run, Go, Target, bind}
use Rattle.rc_nodes.specs.declared.control.Control.{Control as CodeControl}
use Rattle.rc_slow.specs.declared.machine.Machine.{Machine as CodeMachine}
use Rattle.rc_values.specs.declared.stop.Stop.{Stop as CodeStop}
use Rattle.rc_values.specs.declared.stop.Stop.TheVariants.{Ends, Stale, Cut}
use Rattle.rc_slow.specs.Advancing.{begins_alone, state_at, standing, Quiet, HaltsAs, Leads}
use Rattle.rc_frames.specs.Codes.{frames_of}
use Rattle.rc_nodes.specs.Controls.{control_of}
use Rattle.rc_nodes.specs.Coming.{Comes}
use Rattle.rc_memory.specs.Leaving.{StopsRun}
use Rattle.rc_frames.specs.Frames.{Frame, first, second, argument, pointer, index, element, load, inside, ways}
use Rattle.rc_memory.specs.KeptWorld.{KeptWorld, with_heap, turn_from}
use Rattle.rc_slow.specs.Standing.{activation_of, callers_of}
use Rattle.rc_frames.specs.Waiting.{CodeActivations, held_by, held_over, waiting_of}
use Rattle.rc_nodes.specs.Stepping.{Control, Doing, executing, begin, needs_no_world}
use Rattle.rc_slow.specs.Whole.{Activation, State, Progress, onward, staying, entered, call_from, called, with_calls, goes_step, breaks_step, continues_step, aim_step, give_step, evaluate_step}

-- a step that leads on
abbrev pub goes_to : State → KeptWorld → Run KeptWorld Progress
goes_to s w = Go (onward s) w

module _ (program : Program) (limits : Limits) where
  halts : {A B : Type 0} (stop : CodeStop) (w w1 : KeptWorld) (run : Run KeptWorld A) (next : A → KeptWorld → Run KeptWorld B) → Quiet w w1 → StopsRun stop w1 run → HaltsAs stop w (bind run next)
  halts (Ends end) w w1 run next quiet is = record { world = w1; is = ap (λ r. bind r next) is; quiet = quiet }
  halts (Stale line) w w1 run next quiet is = record { world = w1; is = ap (λ r. bind r next) is; quiet = quiet }
  halts (Cut fault) w w1 run next quiet is = is

  -- a step inside the call that runs
  pub stays : (r : Result CodeControl CodeStop) (m : CodeMachine) (s : State) (w w1 : KeptWorld) (run : Run KeptWorld Doing) → (fs : List Frame) (env : List Value) → Quiet w w1 → ((c : Control) → goes_to (record { control = c; now = record s.now { frames = fs; locals = env }; below = s.below }) (with_heap w1 m.heap) ≡ goes_to (state_at c m) (standing limits m w)) → Comes r fs env m.heap w1 run → Leads limits r m w (staying program s run)
  stays (Ok c) m s w w1 run fs env quiet alike is = ap (staying program s) is ∙ alike (control_of c)
  stays (Err stop) m s w w1 run fs env quiet alike is = halts stop w w1 run _ quiet is

  -- a call

  pub entered_is : (b : Bool) (s : State) (w : KeptWorld) → entered program b s w ≡ record w { waiting = held_by b (held (ways s.now.frames).next s.now.locals) w.waiting }
  entered_is false s w = refl
  entered_is true s w = refl

  pub entered_quiet : (b : Bool) (s : State) (w : KeptWorld) → Quiet w (entered program b s w)
  entered_quiet false s w = record { acts = refl; input = refl }
  entered_quiet true s w = record { acts = refl; input = refl }

  pub entered_turns : (b : Bool) (s : State) (w : KeptWorld) → (entered program b s w).turns ≡ w.turns
  entered_turns false s w = refl
  entered_turns true s w = refl

  -- no call more may stand inside, or no turn is left
  pub call_spent : (calls : ℕ) (f : Option Function) (waiting : List Value) (s : State) (vs : List Value) (w w1 : KeptWorld) → Quiet w w1 → calls ≡ 0 → HaltsAs (Ends Spent) w (call_from program calls f waiting s vs w1)
  call_spent zero f waiting s vs w w1 quiet is = record { world = w1; is = refl; quiet = quiet }
  call_spent (suc n) f waiting s vs w w1 quiet is = absurd cc

  pub turn_spent : (calls : ℕ) (f : Option Function) (waiting : List Value) (s : State) (vs : List Value) (w w1 : KeptWorld) → Quiet w w1 → w1.turns ≡ 0 → HaltsAs (Ends Spent) w (call_from program calls f waiting s vs w1)
  turn_spent zero f waiting s vs w w1 quiet is = record { world = w1; is = refl; quiet = quiet }
  turn_spent (suc n) f waiting s vs w w1 quiet is = record {
    world = w1;
    is = ap (λ t. bind (turn_from t w1) (λ _ w2. goes_to (with_calls program n f (called program f waiting s vs)) w2)) is;
    quiet = quiet;
  }

  pub called_on : (calls n t : ℕ) (f : Option Function) (waiting : List Value) (s : State) (vs : List Value) (w1 : KeptWorld) → calls ≡ suc n → w1.turns ≡ suc t → call_from program calls f waiting s vs w1 ≡ goes_to (with_calls program n f (called program f waiting s vs)) (record w1 { turns = t })
  called_on zero n t f waiting s vs w1 ec et = absurd cc
  called_on (suc m) n t f waiting s vs w1 ec et =
      let e : m ≡ n = cc in
      ap (λ u. bind (turn_from u w1) (λ _ w2. goes_to (with_calls program m f (called program f waiting s vs)) w2)) et
      ∙ ap (λ j. goes_to (with_calls program j f (called program f waiting s vs)) (record w1 { turns = t })) e

  -- a step behind a frame is the same whatever frames the state has

  abbrev at_frames : State → List Frame → State
  at_frames s gs = record s { now = record s.now { frames = gs } }

  pub goes_any : (f : Frame) (fs : List Frame) (s : State) (gs : List Frame) (w : KeptWorld) → goes_step program (f ∷ fs) s w ≡ goes_step program (f ∷ fs) (at_frames s gs) w
  goes_any (first e) fs s gs w = refl
  goes_any (second e u) fs s gs w = refl
  goes_any (argument g vs es) fs s gs w = refl
  goes_any (pointer p) fs s gs w = refl
  goes_any (index p u) fs s gs w = refl
  goes_any (element t count stride path) fs s gs w = refl
  goes_any (load line) fs s gs w = refl
  goes_any (inside x stage) fs s gs w = refl

  pub breaks_any : (f : Frame) (fs : List Frame) (s : State) (gs : List Frame) (w : KeptWorld) → breaks_step program (f ∷ fs) s w ≡ breaks_step program (f ∷ fs) (at_frames s gs) w
  breaks_any (first e) fs s gs w = refl
  breaks_any (second e u) fs s gs w = refl
  breaks_any (argument g vs es) fs s gs w = refl
  breaks_any (pointer p) fs s gs w = refl
  breaks_any (index p u) fs s gs w = refl
  breaks_any (element t count stride path) fs s gs w = refl
  breaks_any (load line) fs s gs w = refl
  breaks_any (inside x stage) fs s gs w = refl

  pub continues_any : (f : Frame) (fs : List Frame) (s : State) (gs : List Frame) (w : KeptWorld) → continues_step program (f ∷ fs) s w ≡ continues_step program (f ∷ fs) (at_frames s gs) w
  continues_any (first e) fs s gs w = refl
  continues_any (second e u) fs s gs w = refl
  continues_any (argument g vs es) fs s gs w = refl
  continues_any (pointer p) fs s gs w = refl
  continues_any (index p u) fs s gs w = refl
  continues_any (element t count stride path) fs s gs w = refl
  continues_any (load line) fs s gs w = refl
  continues_any (inside x stage) fs s gs w = refl

  pub aim_any : (f : Frame) (fs : List Frame) (t : Target) (s : State) (gs : List Frame) (w : KeptWorld) → aim_step program (f ∷ fs) t s w ≡ aim_step program (f ∷ fs) t (at_frames s gs) w
  aim_any (first e) fs t s gs w = refl
  aim_any (second e u) fs t s gs w = refl
  aim_any (argument g vs es) fs t s gs w = refl
  aim_any (pointer p) fs t s gs w = refl
  aim_any (index p u) fs t s gs w = refl
  aim_any (element z count stride path) fs t s gs w = refl
  aim_any (load line) fs t s gs w = refl
  aim_any (inside x stage) fs t s gs w = refl

  pub give_any : (f : Frame) (fs : List Frame) (v : Value) (s : State) (gs : List Frame) (w : KeptWorld) → give_step program (f ∷ fs) v s w ≡ give_step program (f ∷ fs) v (at_frames s gs) w
  give_any (first e) fs v s gs w = refl
  give_any (second e u) fs v s gs w = refl
  give_any (argument g vs none) fs v s gs w = refl
  give_any (argument g vs (more e rest)) fs v s gs w = refl
  give_any (pointer p) fs v s gs w = refl
  give_any (index p u) fs v s gs w = refl
  give_any (element t count stride path) fs v s gs w = refl
  give_any (load line) fs v s gs w = refl
  give_any (inside x stage) fs v s gs w = refl

  -- an expression that begins alone
  pub alone_step : (e : Expr) (s : State) (w : KeptWorld) → begins_alone e ≡ true → evaluate_step program e s w ≡ staying program s (begin program e s.now.frames s.now.locals w)
  alone_step (constant line sg n) s w is = refl
  alone_step (null line) s w is = refl
  alone_step (string line k) s w is = refl
  alone_step (local line x) s w is = refl
  alone_step (read line place) s w is = refl
  alone_step (address line g) s w is = refl
  alone_step (step line direction p i) s w is = refl
  alone_step (step_from line i p) s w is = refl
  alone_step (unary line operator sg e) s w is = refl
  alone_step (binary line operator sg a b) s w is = refl
  alone_step (convert line from to e) s w is = refl
  alone_step (not_zero line e) s w is = refl
  alone_step (and line a b) s w is = refl
  alone_step (or line a b) s w is = refl
  alone_step (choose line test a b) s w is = refl
  alone_step (is_null line wanted e) s w is = refl
  alone_step (same line wanted a b) s w is = refl
  alone_step (call line g arguments) s w is = absurd cc
  alone_step (new_region line) s w is = refl
  alone_step (new_subregion line r) s w is = refl
  alone_step (region_of line p) s w is = refl
  alone_step (allocate line r ty) s w is = refl
  alone_step (allocate_array line r n ty) s w is = refl
  alone_step (putchar line e) s w is = refl
  alone_step (getchar line) s w is = refl

  pub alone_needs : (e : Expr) → begins_alone e ≡ true → needs_no_world e ≡ true
  alone_needs (constant line sg n) is = refl
  alone_needs (null line) is = refl
  alone_needs (string line k) is = refl
  alone_needs (local line x) is = refl
  alone_needs (read line place) is = refl
  alone_needs (address line g) is = refl
  alone_needs (step line direction p i) is = refl
  alone_needs (step_from line i p) is = refl
  alone_needs (unary line operator sg e) is = refl
  alone_needs (binary line operator sg a b) is = refl
  alone_needs (convert line from to e) is = refl
  alone_needs (not_zero line e) is = refl
  alone_needs (and line a b) is = refl
  alone_needs (or line a b) is = refl
  alone_needs (choose line test a b) is = refl
  alone_needs (is_null line wanted e) is = refl
  alone_needs (same line wanted a b) is = refl
  alone_needs (call line g arguments) is = refl
  alone_needs (new_region line) is = absurd cc
  alone_needs (new_subregion line r) is = refl
  alone_needs (region_of line p) is = refl
  alone_needs (allocate line r ty) is = refl
  alone_needs (allocate_array line r n ty) is = refl
  alone_needs (putchar line e) is = refl
  alone_needs (getchar line) is = absurd cc

  -- into a called function
  pub entered_on : (n t : ℕ) (f : Function) (k : Control) (m0 m1 : CodeMachine) (w : KeptWorld) (vs : List Value) (h : Option (List Value)) → m0.now.calls ≡ suc n → m0.turns ≡ suc t → activation_of m1.now ≡ record { function = f; frames = []; locals = first_locals f vs; calls = n; deletes = false; waits = [] } → m1.below ≡ record m0.now { held = h } ∷ m0.below → m1.heap ≡ m0.heap → m1.turns ≡ t → is_some h ≡ f.deletes → held_over h (waiting_of m0.below) ≡ held_by f.deletes (held (ways (frames_of m0.now.frames)).next m0.now.locals) (waiting_of m0.below) → (call_from program m0.now.calls (Some f) (waiting_of m0.below) (state_at k m0) vs (entered program f.deletes (state_at k m0) (standing limits m0 w))) ≡ goes_to (state_at (executing f.body) m1) (standing limits m1 w)
  entered_on n t f k m0 m1 w vs h calls turns now below heap left some over =
      let s : State = state_at k m0 in
      let W : KeptWorld = standing limits m0 w in
      let next : Activation = record { function = f; frames = []; locals = first_locals f vs; calls = n; deletes = false; waits = [] } in
      called_on m0.now.calls n t (Some f) (waiting_of m0.below) s vs (entered program f.deletes s W) calls (entered_turns f.deletes s W ∙ turns)
      ∙ ap (λ (v : KeptWorld). goes_to (record { control = executing f.body; now = next; below = record s.now { deletes = f.deletes; waits = waiting_of m0.below } ∷ s.below }) (record v { turns = t })) (entered_is f.deletes s W)
      ∙ ap (λ l. goes_to (record { control = executing f.body; now = next; below = record s.now { deletes = f.deletes; waits = waiting_of m0.below } ∷ s.below }) (record W { waiting = l; turns = t })) (sym over)
      ∙ ap (λ b. goes_to (record { control = executing f.body; now = next; below = record s.now { deletes = b; waits = waiting_of m0.below } ∷ s.below }) (record W { waiting = held_over h (waiting_of m0.below); turns = t })) (sym some)
      ∙ ap (λ (l : CodeActivations). goes_to (record { control = executing f.body; now = next; below = callers_of l }) (record W { waiting = waiting_of l; turns = t })) (sym below)
      ∙ ap (λ a. goes_to (record { control = executing f.body; now = a; below = callers_of m1.below }) (record W { waiting = waiting_of m1.below; turns = t })) (sym now)
      ∙ ap (λ g. goes_to (state_at (executing f.body) m1) (record W { waiting = waiting_of m1.below; heap = g; turns = t })) (sym heap)
      ∙ ap (λ u. goes_to (state_at (executing f.body) m1) (record W { waiting = waiting_of m1.below; heap = m1.heap; turns = u })) (sym left)
