-- One step further.
use Rattle.std.proofs.Common.{arith, ◌≡◌, ◌∙◌, ℕ, ℤ, List, [], ◌∷◌, ◌++◌, drop, Result, Ok, Err, IfErr, OnOk, OnErr, IsTrue, IsErrAnd, refl, sym, ap, subst, append_assoc, append-nil}
use Rattle.std.proofs.lemmas.List.{drop-drop}
use Rattle.rc_base.specs.Acts.{Act, Write, Getchar, Gave, output, getchars}
use Rattle.rc_base.proofs.ActLaws.{output-append, getchars-append, took_then}
use Rattle.rc_base.specs.Sources.{SourceState}
use Rattle.rc_base.specs.Sinks.{SinkState, Took}
use Rattle.rc_base.specs.declared.ends.Limits.{Limits}
use Rattle.rc_base.specs.declared.ends.RunFault.{RunFault}
use Rattle.rc_base.specs.declared.ends.RunFault.TheVariants.{ReadFault, WriteFault, Memory}
use Rattle.rc_core.specs.Heap.{Value, Number}
use Rattle.rc_core.specs.Programs.{Program}
use Rattle.rc_core.specs.Runs.{Stop, Ends as EndsStop, Stale as StaleStop, Run, Go, bind}
use Rattle.std.specs.Prelude.{pos}
use Rattle.rc_slow.specs.declared.machine.Machine.{Machine as CodeMachine}
use Rattle.rc_slow.specs.declared.machine.Progress.{Progress as CodeProgress}
use Rattle.rc_slow.specs.declared.machine.Progress.TheVariants.{Onward as OnwardProgress, Ended as EndedProgress, Asks, Writes}
use Rattle.rc_slow.specs.declared.outside.Next.{Next as CodeNext}
use Rattle.rc_slow.specs.declared.outside.Next.TheVariants.{Onward, Ended}
use Rattle.rc_values.specs.declared.stop.Stop.{Stop as CodeStop}
use Rattle.rc_values.specs.declared.stop.Stop.TheVariants.{Ends, Stale, Cut}
use Rattle.rc_slow.specs.Advancing.{Finishes, Halts, HaltsAs, standing, state_at}
use Rattle.rc_nodes.specs.Controls.{control_of}
use Rattle.rc_values.specs.Values.{value_of}
use Rattle.rc_slow.specs.Going.{Way, at, Fits, Came, Going, GoesOn, Halted, Left, CutOff, StopsAt, Comes}
use Rattle.rc_memory.specs.KeptWorld.{KeptWorld, kept}
use Rattle.rc_slow.specs.Outside.{HasStopCause, later}
use Rattle.rc_slow.specs.Performing.{HasFaultCause, LeavesOutside, Performs, acts_of, past}
use Rattle.rc_nodes.specs.Stepping.{Control, gives}
use Rattle.rc_slow.specs.Whole.{State, Progress, onward, ended, control_step, finally, whole}
use Rattle.rc_slow.proofs.Steps.{assoc}
use Rattle.rc_slow.proofs.Whole.{step_right}

took_on : (way : Way) (a b : List Act) (input : SourceState) (out : SinkState) → way.out.tells ≡ way.first_out.tells → Came way a → Took (output b) way.out out → Took (output (a ++ b)) way.first_out out
took_on way a b input out tells came took = subst (λ (bytes : List ℕ). Took bytes way.first_out out) (sym (output-append a b)) (took_then (output a) (output b) way.first_out way.out out tells came.took took)

gave_on : (way : Way) (a b : List Act) (input : SourceState) → way.input.tells ≡ way.first_input.tells → Came way a → Gave b way.input input → Gave (a ++ b) way.first_input input
gave_on way a b input tells came gave = λ told.
    gave (subst IsTrue (sym tells) told)
    ∙ ap (drop (getchars b)) (came.gave told)
    ∙ drop-drop (getchars b) (getchars a) way.first_input.rest
    ∙ ap (λ n. drop n way.first_input.rest) (sym (getchars-append a b))

came_on : (way : Way) (a b : List Act) (input : SourceState) (out : SinkState) → way.input.tells ≡ way.first_input.tells → way.out.tells ≡ way.first_out.tells → Came way a → Took (output b) way.out out → Gave b way.input input → Came (at way input out) (a ++ b)
came_on way a b input out in_tells out_tells came took gave = record { took = took_on way a b input out out_tells came took; gave = gave_on way a b input in_tells came gave }

later_both : (a b : List Act) (w : KeptWorld) → later b (later a w) ≡ later (a ++ b) w
later_both a b w =
    ap (λ l. let v : KeptWorld = record w { acts = l; input = drop (getchars b) (drop (getchars a) w.input) } in v) (append_assoc w.acts a b)
    ∙ ap (λ i. let v : KeptWorld = record w { acts = w.acts ++ (a ++ b); input = i } in v) (drop-drop (getchars b) (getchars a) w.input ∙ ap (λ n. drop n w.input) (sym (getchars-append a b)))

past_later : (p : CodeProgress) (a : List Act) (w : KeptWorld) → past p (later a w) ≡ later (a ++ acts_of p) w
past_later (OnwardProgress control) a w = ap (λ l. later l w) (sym (append-nil a))
past_later (EndedProgress value) a w = ap (λ l. later l w) (sym (append-nil a))
past_later Asks a w = later_both a (Getchar ∷ []) w
past_later (Writes byte) a w = later_both a (Write byte ∷ []) w

abbrev pub nowhere : KeptWorld
nowhere = record { turns = 0; input = []; acts = []; heap = []; waiting = []; regions = 0; blocks = 0 }

-- a stop that is no fault of the outside
abbrev pub IsInside : CodeStop → Type 0
IsInside (Ends end) = Unit {0}
IsInside (Stale line) = Unit {0}
IsInside (Cut fault) = fault ≡ Memory

pub halts_inside : (stop : CodeStop) (step : Run KeptWorld Progress) → HaltsAs stop nowhere step → IsInside stop
halts_inside (Ends end) step halts = tt
halts_inside (Stale line) step halts = tt
halts_inside (Cut fault) step halts = halts

inside_cause : {T : Type 0} (fault : RunFault) (stop : CodeStop) (n : ℕ) → (fault ≡ Memory → ⊥) → IsInside stop → HasFaultCause {T = T} fault n n (Err stop)
inside_cause {T} fault (Ends end) n other inside = record { never_falls = omega arith; failed = λ is. absurd cc; kept = λ no. refl }
inside_cause {T} fault (Stale line) n other inside = record { never_falls = omega arith; failed = λ is. absurd cc; kept = λ no. refl }
inside_cause {T} fault (Cut f) n other inside =
    let is_memory : f ≡ Memory = inside in
    record { never_falls = omega arith; failed = λ is. absurd (other cc); kept = λ no. refl }

-- a count that stayed so far
cause_on : {T : Type 0} (fault : RunFault) (first before after : ℕ) (r : Result T CodeStop) → before ≡ first → HasFaultCause fault before after r → HasFaultCause fault first after r
cause_on fault first before after r is cause = subst (λ n. HasFaultCause fault n after r) is cause

-- the same stop, or another value
cause_of_stop : {T U : Type 0} (fault : RunFault) (before after : ℕ) (stop : CodeStop) → HasFaultCause {T = T} fault before after (Err stop) → HasFaultCause {T = U} fault before after (Err stop)
cause_of_stop {T} {U} fault before after stop cause = record { never_falls = cause.never_falls; failed = λ is. cause.failed cc; kept = λ no. cause.kept (λ is. no cc) }

cause_of_value : {T U : Type 0} (fault : RunFault) (before after : ℕ) (x : T) (y : U) → HasFaultCause {T = T} fault before after (Ok x) → HasFaultCause {T = U} fault before after (Ok y)
cause_of_value {T} {U} fault before after x y cause = record { never_falls = cause.never_falls; failed = λ is. absurd cc; kept = λ no. cause.kept (λ is. cc) }

-- a run that goes on so far
abbrev pub LeavesSoFar : (input input' : SourceState) → (out out' : SinkState) → Type 0
LeavesSoFar input input' out out' = LeavesOutside {T = Unit {0}} input input' out out' (Ok tt)

pub nothing_left : (input : SourceState) (out : SinkState) → LeavesSoFar input input out out
nothing_left input out = record {
  input_tells = refl;
  out_tells = refl;
  flushed = λ told. refl;
  read_cause = record { never_falls = omega arith; failed = λ is. absurd cc; kept = λ no. refl };
  write_cause = record { never_falls = omega arith; failed = λ is. absurd cc; kept = λ no. refl };
}

-- such a stop leaves all
pub inside_leaves : {T : Type 0} (input : SourceState) (out : SinkState) (stop : CodeStop) → IsInside stop → LeavesOutside {T = T} input input out out (Err stop)
inside_leaves {T} input out stop inside = record {
  input_tells = refl;
  out_tells = refl;
  flushed = λ told. refl;
  read_cause = inside_cause ReadFault stop input.faults (λ is. cc) inside;
  write_cause = inside_cause WriteFault stop out.faults (λ is. cc) inside;
}

pub no_memory_leaves : {T : Type 0} (input : SourceState) (out : SinkState) (r : Result T CodeStop) (stop : CodeStop) → IsErrAnd r (λ y. y ≡ stop) → stop ≡ Cut Memory → LeavesOutside input input out out r
no_memory_leaves {T} input out (Ok x) stop is memory = absurd is
no_memory_leaves {T} input out (Err y) stop is memory = subst (λ (s : CodeStop). LeavesOutside {T = T} input input out out (Err s)) (sym (is ∙ memory)) (inside_leaves input out (Cut Memory) refl)

-- what a `getchar` leaves, and what a `putchar` leaves
pub asked_leaves : {T : Type 0} (input input' : SourceState) (out : SinkState) (r : Result T CodeStop) → input'.tells ≡ input.tells → IfErr r (λ stop. stop ≡ Cut ReadFault) → HasStopCause input.faults input'.faults r → LeavesOutside input input' out out r
asked_leaves {T} input input' out (Ok x) tells fault cause = record {
  input_tells = tells;
  out_tells = refl;
  flushed = λ told. refl;
  read_cause = record { never_falls = cause.never_falls; failed = λ is. absurd cc; kept = λ no. cause.kept refl };
  write_cause = record { never_falls = omega arith; failed = λ is. absurd cc; kept = λ no. refl };
}
asked_leaves {T} input input' out (Err stop) tells fault cause =
    let read : stop ≡ Cut ReadFault = fault in
    record {
      input_tells = tells;
      out_tells = refl;
      flushed = λ told. refl;
      read_cause = record { never_falls = cause.never_falls; failed = λ is. cause.failed refl; kept = λ no. absurd (no (ap Err read)) };
      write_cause = record { never_falls = omega arith; failed = λ is. absurd cc; kept = λ no. refl };
    }

pub written_leaves : {T : Type 0} (input : SourceState) (out out' : SinkState) (r : Result T CodeStop) → out'.tells ≡ out.tells → (IsTrue out.tells → out'.flushed ≡ out.flushed) → IfErr r (λ stop. stop ≡ Cut WriteFault) → HasStopCause out.faults out'.faults r → LeavesOutside input input out out' r
written_leaves {T} input out out' (Ok x) tells flushed fault cause = record {
  input_tells = refl;
  out_tells = tells;
  flushed = flushed;
  read_cause = record { never_falls = omega arith; failed = λ is. absurd cc; kept = λ no. refl };
  write_cause = record { never_falls = cause.never_falls; failed = λ is. absurd cc; kept = λ no. cause.kept refl };
}
written_leaves {T} input out out' (Err stop) tells flushed fault cause =
    let wrote : stop ≡ Cut WriteFault = fault in
    record {
      input_tells = refl;
      out_tells = tells;
      flushed = flushed;
      read_cause = record { never_falls = omega arith; failed = λ is. absurd cc; kept = λ no. refl };
      write_cause = record { never_falls = cause.never_falls; failed = λ is. cause.failed refl; kept = λ no. absurd (no (ap Err wrote)) };
    }

-- one part of a run after those so far
pub leaves_on : {T : Type 0} (input input1 input2 : SourceState) (out out1 out2 : SinkState) (r : Result T CodeStop) → LeavesSoFar input input1 out out1 → LeavesOutside input1 input2 out1 out2 r → LeavesOutside input input2 out out2 r
leaves_on {T} input input1 input2 out out1 out2 r before after = record {
  input_tells = after.input_tells ∙ before.input_tells;
  out_tells = after.out_tells ∙ before.out_tells;
  flushed = λ told. after.flushed (subst IsTrue (sym before.out_tells) told) ∙ before.flushed told;
  read_cause = cause_on ReadFault input.faults input1.faults input2.faults r (before.read_cause.kept (λ is. cc)) after.read_cause;
  write_cause = cause_on WriteFault out.faults out1.faults out2.faults r (before.write_cause.kept (λ is. cc)) after.write_cause;
}

-- the same stop, or another value
pub leaves_stop : {T U : Type 0} (input input' : SourceState) (out out' : SinkState) (stop : CodeStop) → LeavesOutside {T = T} input input' out out' (Err stop) → LeavesOutside {T = U} input input' out out' (Err stop)
leaves_stop {T} {U} input input' out out' stop leaves = record {
  input_tells = leaves.input_tells;
  out_tells = leaves.out_tells;
  flushed = leaves.flushed;
  read_cause = cause_of_stop ReadFault input.faults input'.faults stop leaves.read_cause;
  write_cause = cause_of_stop WriteFault out.faults out'.faults stop leaves.write_cause;
}

pub leaves_value : {T U : Type 0} (input input' : SourceState) (out out' : SinkState) (x : T) (y : U) → LeavesOutside {T = T} input input' out out' (Ok x) → LeavesOutside {T = U} input input' out out' (Ok y)
leaves_value {T} {U} input input' out out' x y leaves = record {
  input_tells = leaves.input_tells;
  out_tells = leaves.out_tells;
  flushed = leaves.flushed;
  read_cause = cause_of_value ReadFault input.faults input'.faults x y leaves.read_cause;
  write_cause = cause_of_value WriteFault out.faults out'.faults x y leaves.write_cause;
}

module _ (program : Program) (limits : Limits) where
  -- the step from here
  abbrev pub step_from : Control → CodeMachine → KeptWorld → Run KeptWorld Progress
  step_from control m w = control_step program control (state_at control m) (standing limits m w)

  from_here : (way : Way) (control : Control) (m : CodeMachine) (going : Going program limits way control m) (w : KeptWorld) → Fits way.first_input w → way.start w ≡ bind (step_from control m (later going.acts w)) (finally program)
  from_here way control m going w fits = going.on w fits ∙ step_right program (state_at control m) (standing limits m (later going.acts w))

  -- the run from a step that is this
  by_step : (way : Way) (control : Control) (m : CodeMachine) (going : Going program limits way control m) (w : KeptWorld) → Fits way.first_input w → (step : Run KeptWorld Progress) → step_from control m (later going.acts w) ≡ step → way.start w ≡ bind step (finally program)
  by_step way control m going w fits step is = from_here way control m going w fits ∙ ap (λ r. bind r (finally program)) is

  halts_then : (stop : Stop) (w : KeptWorld) (step : Run KeptWorld Progress) → Halts stop w step → Halts stop w (bind step (finally program))
  halts_then stop w step halts = record { world = halts.world; is = ap (λ r. bind r (finally program)) halts.is; quiet = halts.quiet }

  finishes_then : (value : Value) (w : KeptWorld) (step : Run KeptWorld Progress) → Finishes (ended value) w step → Finishes value w (bind step (finally program))
  finishes_then value w step finishes = record { world = finishes.world; is = ap (λ r. bind r (finally program)) finishes.is; quiet = finishes.quiet }

  here : (way : Way) (control : Control) (m : CodeMachine) (going : Going program limits way control m) (w : KeptWorld) → Fits way.first_input w → Left program limits (later going.acts w) Memory (way.start w)
  here way control m going w fits = record {
    state = state_at control m;
    world = standing limits m (later going.acts w);
    acts = refl;
    on = going.on w fits;
    at_read = λ is. absurd cc;
    at_write = λ is. absurd cc;
  }

  -- there is no memory
  pub no_memory : (way : Way) (control : Control) (m : CodeMachine) → Going program limits way control m → CutOff program limits way Memory
  no_memory way control m going = record { acts = going.acts; came = going.came; on = here way control m going }

  halted : (way : Way) (control : Control) (m : CodeMachine) (stop : Stop) → Going program limits way control m → ((w : KeptWorld) → Halts stop w (step_from control m w)) → Halted program limits way stop
  halted way control m stop going halts = record {
    acts = going.acts;
    came = going.came;
    on = λ w fits. subst (Halts stop (later going.acts w)) (sym (from_here way control m going w fits)) (halts_then stop (later going.acts w) (step_from control m (later going.acts w)) (halts (later going.acts w)));
  }

  -- a step stops the run
  pub stopped : (way : Way) (control : Control) (m : CodeMachine) (stop : CodeStop) → Going program limits way control m → ((w : KeptWorld) → HaltsAs stop w (step_from control m w)) → StopsAt program limits way stop
  stopped way control m (Ends end) going halts = halted way control m (EndsStop end) going halts
  stopped way control m (Stale line) going halts = halted way control m (StaleStop line) going halts
  stopped way control m (Cut fault) going halts = subst (CutOff program limits way) (sym (halts nowhere)) (no_memory way control m going)

  -- the world has the input that is left
  fits_now : (way : Way) (a : List Act) → Came way a → (w : KeptWorld) → Fits way.first_input w → (later a w).input ≡ way.input.rest
  fits_now way a came w fits = ap (drop (getchars a)) fits.1 ∙ sym (came.gave fits.0)

  -- a step, and what is done outside behind it
  pub performed : (way : Way) (control : Control) (m m1 : CodeMachine) (p : CodeProgress) (r : Result CodeNext CodeStop) (input : SourceState) (out : SinkState) → way.input.tells ≡ way.first_input.tells → way.out.tells ≡ way.first_out.tells → Going program limits way control m → ((w : KeptWorld) → IsTrue way.input.tells → w.input ≡ way.input.rest → Performs limits p r m1 w (step_from control m w)) → OnOk r (Took (output (acts_of p)) way.out out) → OnOk r (Gave (acts_of p) way.input input) → OnErr r (Took [] way.out out) → OnErr r (Gave [] way.input input) → Comes program limits (at way input out) r m1
  performed way control m m1 p (Ok (Onward c)) input out in_tells out_tells going performs took gave none_took none_gave = record {
    acts = going.acts ++ acts_of p;
    came = came_on way going.acts (acts_of p) input out in_tells out_tells going.came took gave;
    on = λ w fits.
        by_step way control m going w fits _ (performs (later going.acts w) (subst IsTrue (sym in_tells) fits.0) (fits_now way going.acts going.came w fits))
        ∙ ap (λ v. whole program (state_at (control_of c) m1) (standing limits m1 v)) (past_later p going.acts w);
  }
  performed way control m m1 p (Ok (Ended value)) input out in_tells out_tells going performs took gave none_took none_gave = record {
    acts = going.acts ++ acts_of p;
    came = came_on way going.acts (acts_of p) input out in_tells out_tells going.came took gave;
    on = λ w fits.
        subst (λ v. Finishes (value_of value) v (way.start w)) (past_later p going.acts w)
        (subst (Finishes (value_of value) (past p (later going.acts w))) (sym (from_here way control m going w fits))
        (finishes_then (value_of value) (past p (later going.acts w)) (step_from control m (later going.acts w))
        (performs (later going.acts w) (subst IsTrue (sym in_tells) fits.0) (fits_now way going.acts going.came w fits))));
  }
  performed way control m m1 p (Err (Ends end)) input out in_tells out_tells going performs took gave none_took none_gave = record {
    acts = going.acts ++ [];
    came = came_on way going.acts [] input out in_tells out_tells going.came none_took none_gave;
    on = λ w fits. absurd (performs (later going.acts w) (subst IsTrue (sym in_tells) fits.0) (fits_now way going.acts going.came w fits));
  }
  performed way control m m1 p (Err (Stale line)) input out in_tells out_tells going performs took gave none_took none_gave = record {
    acts = going.acts ++ [];
    came = came_on way going.acts [] input out in_tells out_tells going.came none_took none_gave;
    on = λ w fits. absurd (performs (later going.acts w) (subst IsTrue (sym in_tells) fits.0) (fits_now way going.acts going.came w fits));
  }
  performed way control m m1 p (Err (Cut Memory)) input out in_tells out_tells going performs took gave none_took none_gave = record {
    acts = going.acts ++ [];
    came = came_on way going.acts [] input out in_tells out_tells going.came none_took none_gave;
    on = λ w fits. absurd (performs (later going.acts w) (subst IsTrue (sym in_tells) fits.0) (fits_now way going.acts going.came w fits));
  }
  performed way control m m1 p (Err (Cut ReadFault)) input out in_tells out_tells going performs took gave none_took none_gave = record {
    acts = going.acts ++ [];
    came = came_on way going.acts [] input out in_tells out_tells going.came none_took none_gave;
    on = λ w fits.
        let now = standing limits m1 (later going.acts w) in
        let next : ℤ → State = λ n. state_at (gives (Number n)) m1 in
        record {
          state = state_at control m;
          world = standing limits m (later going.acts w);
          acts = ap (λ l. w.acts ++ l) (sym (append-nil going.acts));
          on = going.on w fits;
          at_read = λ is. (
            now,
            ap (λ l. w.acts ++ l) (sym (append-nil going.acts)),
            (
              next,
              by_step way control m going w fits _ (performs (later going.acts w) (subst IsTrue (sym in_tells) fits.0) (fits_now way going.acts going.came w fits))
                  ∙ assoc (kept.get_byte now) (λ n. Go (onward (next n))) (finally program),
            ),
          );
          at_write = λ is. absurd cc;
        };
  }
  performed way control m m1 p (Err (Cut WriteFault)) input out in_tells out_tells going performs took gave none_took none_gave = record {
    acts = going.acts ++ [];
    came = came_on way going.acts [] input out in_tells out_tells going.came none_took none_gave;
    on = λ w fits.
        let cut = performs (later going.acts w) (subst IsTrue (sym in_tells) fits.0) (fits_now way going.acts going.came w fits) in
        record {
          state = state_at control m;
          world = standing limits m (later going.acts w);
          acts = ap (λ l. w.acts ++ l) (sym (append-nil going.acts));
          on = going.on w fits;
          at_read = λ is. absurd cc;
          at_write = λ is. (standing limits m1 (later going.acts w), ap (λ l. w.acts ++ l) (sym (append-nil going.acts)), (cut.0, (state_at (gives (Number (pos cut.0))) m1, by_step way control m going w fits _ cut.1)));
        };
  }

  -- a run that came to the one place came to the other, from wherever it started
  abbrev pub Reaches : SourceState → SinkState → Control → CodeMachine → SourceState → SinkState → Control → CodeMachine → Type 0
  Reaches input out control m input1 out1 control1 m1 = GoesOn program limits input input1 out out1 control m (λ way. Going program limits way control1 m1)
