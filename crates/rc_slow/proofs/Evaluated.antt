-- What a run on the machine says of the meaning.
use Rattle.std.proofs.Common.{◌≡◌, ◌∙◌, ℕ, ℤ, pos, negsuc, Bool, true, false, arith, List, [], ◌∷◌, ◌++◌, Result, Ok, Err, IsErrOf, IsTrue, refl, sym, ap, subst, append_assoc, append-nil, zero, suc, ◌-◌, length, drop}
use Rattle.std.specs.Prelude.{if◌then◌else◌}
use Rattle.std.proofs.lemmas.List.{length-drop}
use Rattle.rc_base.specs.Acts.{Act, Write, Getchar, IsGetcharNext, IsWriteNext, Gave, getchars}
use Rattle.rc_base.specs.Sinks.{SinkState}
use Rattle.rc_base.specs.Sources.{SourceState}
use Rattle.rc_base.specs.declared.ends.End.{End}
use Rattle.rc_base.specs.declared.ends.End.TheVariants.{Exit}
use Rattle.rc_base.specs.declared.ends.Limits.{Limits}
use Rattle.rc_base.specs.declared.ends.RunFault.{RunFault}
use Rattle.rc_base.specs.declared.ends.RunFault.TheVariants.{ReadFault, WriteFault, Memory}
use Rattle.rc_base.proofs.ActLaws.{took_nothing}
use Rattle.rc_core.specs.Arithmetic.{as_int}
use Rattle.rc_core.specs.Deletes.{DeletesInPlace}
use Rattle.rc_core.specs.Evaluation.{number_in}
use Rattle.rc_core.specs.Heap.{Value, Null}
use Rattle.rc_core.specs.Laws.{world_after}
use Rattle.rc_core.specs.Meaning.{first_world, meaning, meaning_of_run, run_of}
use Rattle.rc_core.specs.Programs.{Program}
use Rattle.rc_core.specs.Runs.{Stop, Ends as EndsStop, Stale as StaleStop, Run, Go, Stopped, bind}
use Rattle.rc_core.specs.Source.{World, source}
use Rattle.rc_safety.proofs.Never.{never_touches_deleted}
use Rattle.rc_values.specs.declared.stop.Stop.{Stop as CodeStop}
use Rattle.rc_values.specs.declared.stop.Stop.TheVariants.{Ends, Stale, Cut}
use Rattle.rc_values.specs.declared.value.Value.{Value as CodeValue}
use Rattle.rc_slow.specs.Advancing.{Finishes}
use Rattle.rc_slow.specs.Beginning.{from_beginning}
use Rattle.rc_memory.specs.Change.{mapped}
use Rattle.rc_slow.specs.Evaluates.{Did, Evaluates, HasEvaluationCause}
use Rattle.rc_slow.specs.Going.{Arrives, CutOff, Finished, Halted, Left, way_from}
use Rattle.rc_memory.specs.KeptWorld.{KeptWorld, byte_from, doing, kept, kept_world}
use Rattle.rc_slow.specs.Outside.{later}
use Rattle.rc_slow.specs.Performing.{LeavesOutside}
use Rattle.rc_slow.specs.Prefix.{behind_acts}
use Rattle.rc_values.specs.Values.{value_of}
use Rattle.rc_slow.specs.Whole.{Activation, State, whole}
use Rattle.rc_memory.proofs.Keeps.{kept_agrees}
use Rattle.rc_slow.proofs.Prefixes.{acts_agree}
use Rattle.rc_slow.proofs.Simulation.{main_agrees}
use Rattle.rc_slow.proofs.WholeAgrees.{whole_same}

-- acts

abbrev acts_in : Run KeptWorld Value → List Act
acts_in run = (world_after run).acts

-- behind these acts it does first those, and then others
abbrev Ahead : (acts first : List Act) → Run KeptWorld Value → Type 0
Ahead acts first run = (more : List Act) × (acts_in run ≡ acts ++ (first ++ more))

left_behind : (acts : List Act) (b : Bool) (waits : List Value) (w : KeptWorld) → behind_acts acts (if b then record w { waiting = waits } else w) ≡ (if b then record (behind_acts acts w) { waiting = waits } else behind_acts acts w)
left_behind acts true waits w = refl
left_behind acts false waits w = refl

acts_behind : (acts : List Act) (run : Run KeptWorld Value) → acts_in (mapped (behind_acts acts) run) ≡ acts ++ acts_in run
acts_behind acts (Go v w) = refl
acts_behind acts (Stopped stop w) = refl

module _ (program : Program) where
  ahead : (s : State) (w : KeptWorld) → Ahead w.acts [] (whole program s w)
  ahead s w =
      let bare : KeptWorld = record w { acts = [] } in (
        acts_in (whole program s bare),
        ap (λ l. let v : KeptWorld = record w { acts = l } in acts_in (whole program s v)) (sym (append-nil w.acts))
            ∙ sym (ap acts_in (whole_same (behind_acts w.acts) program (acts_agree w.acts) (λ (a : Activation) w1. left_behind w.acts a.deletes a.waits w1) s bare))
            ∙ acts_behind w.acts (whole program s bare),
      )

  ahead_by : (act : Act) (s : State) (now w : KeptWorld) → w.acts ≡ now.acts ++ act ∷ [] → Ahead now.acts (act ∷ []) (whole program s w)
  ahead_by act s now w is =
      let on = ahead s w in
      (on.0, on.1 ∙ ap (λ l. l ++ on.0) is ∙ append_assoc now.acts (act ∷ []) on.0)

  ahead_byte : (next : ℤ → State) (bytes : List ℕ) (now : KeptWorld) → Ahead now.acts (Getchar ∷ []) (bind (byte_from bytes now) (λ n. whole program (next n)))
  ahead_byte next [] now = ahead_by Getchar (next (negsuc 0)) now (doing now Getchar) refl
  ahead_byte next (b ∷ rest) now = ahead_by Getchar (next (pos b)) now (record (doing now Getchar) { input = rest }) refl

  -- of the same run, behind the same acts
  ahead_same : (acts acts' first : List Act) (run run' : Run KeptWorld Value) → acts' ≡ acts → run ≡ run' → Ahead acts' first run' → Ahead acts first run
  ahead_same acts acts' first run run' same is on = (on.0, ap acts_in is ∙ on.1 ∙ ap (λ l. l ++ (first ++ on.0)) same)

  -- the act that could not be done
  abbrev IsNext : RunFault → List Act → Type 0
  IsNext ReadFault acts = IsGetcharNext acts
  IsNext WriteFault acts = IsWriteNext acts
  IsNext Memory acts = Unit {0}

  pub record Front (acts : List Act) (fault : RunFault) (run : Run KeptWorld Value) : Type 0 where
    pub left : List Act
    pub split : acts_in run ≡ acts ++ left
    pub next : IsNext fault left

  front : (limits : Limits) (w : KeptWorld) (fault : RunFault) (run : Run KeptWorld Value) → Left program limits w fault run → Front w.acts fault run
  front limits w ReadFault run l =
      let at = l.at_read refl in
      let on = ahead_same w.acts at.0.acts (Getchar ∷ []) run _ at.1 at.2.1 (ahead_byte at.2.0 at.0.input at.0) in
      record { left = Getchar ∷ on.0; split = on.1; next = tt }
  front limits w WriteFault run l =
      let at = l.at_write refl in
      let on = ahead_same w.acts at.0.acts (Write at.2.0 ∷ []) run _ at.1 at.2.1.1 (ahead_by (Write at.2.0) at.2.1.0 at.0 (doing at.0 (Write at.2.0)) refl) in
      record { left = Write at.2.0 ∷ on.0; split = on.1; next = tt }
  front limits w Memory run l =
      let on = ahead_same w.acts l.world.acts [] run _ l.acts l.on (ahead l.state l.world) in
      record { left = on.0; split = on.1; next = tt }

-- the meaning

meaning_acts : (input : List ℕ) (run : Run World Value) → (meaning_of_run input run).acts ≡ acts_in (mapped kept_world run)
meaning_acts input (Go v w) = refl
meaning_acts input (Stopped stop w) = refl

-- the bytes that are lost are those that are taken
abbrev input_in : Run KeptWorld Value → List ℕ
input_in run = (world_after run).input

meaning_taken : (input : List ℕ) (run : Run World Value) → (meaning_of_run input run).taken ≡ length input - length (input_in (mapped kept_world run))
meaning_taken input (Go v w) = refl
meaning_taken input (Stopped stop w) = refl

drop_taken : (n : ℕ) (xs : List ℕ) → drop n xs ≡ drop (length xs - length (drop n xs)) xs
drop_taken zero xs =
    let e : 0 ≡ length xs - length xs = omega arith in
    ap (λ k. drop k xs) e
drop_taken (suc n) [] = refl
drop_taken (suc n) (x ∷ xs) =
    let e : suc (length xs - length (drop n xs)) ≡ suc (length xs) - length (drop n xs) = omega (arith, length-drop n xs) in
    drop_taken n xs ∙ ap (λ k. drop k (x ∷ xs)) e

abbrev value_in : Run KeptWorld Value → Value
value_in (Go v w) = v
value_in (Stopped stop w) = Null

meaning_exits : (input : List ℕ) (run : Run World Value) (v : Value) (w : KeptWorld) → mapped kept_world run ≡ Go v w → (meaning_of_run input run).end ≡ EndsStop (Exit (as_int (number_in v)))
meaning_exits input (Go u x) v w is = ap (λ r. EndsStop (Exit (as_int (number_in (value_in r))))) is
meaning_exits input (Stopped stop x) v w is = cc

abbrev stop_in : Stop → Run KeptWorld Value → Stop
stop_in default (Go v w) = default
stop_in default (Stopped stop w) = stop

meaning_stops : (input : List ℕ) (run : Run World Value) (stop : Stop) (w : KeptWorld) → mapped kept_world run ≡ Stopped stop w → (meaning_of_run input run).end ≡ stop
meaning_stops input (Go u x) stop w is = cc
meaning_stops input (Stopped s x) stop w is = ap (stop_in stop) is

module _ (program : Program) (limits : Limits) where
  abbrev start : List ℕ → KeptWorld
  start input = kept_world (first_world program input limits)

  run_kept : (input : List ℕ) → mapped kept_world (run_of program input limits) ≡ from_beginning program limits (start input)
  run_kept input = main_agrees kept_world source kept program kept_agrees (first_world program input limits)

  acts_kept : (input : List ℕ) → (meaning program input limits).acts ≡ acts_in (from_beginning program limits (start input))
  acts_kept input = meaning_acts input (run_of program input limits) ∙ ap acts_in (run_kept input)

  -- the run stops where these acts were done
  taken_kept : (input input' : SourceState) (acts : List Act) → IsTrue input.tells → Gave acts input input' → input_in (from_beginning program limits (start input.rest)) ≡ drop (getchars acts) input.rest → input'.rest ≡ drop (meaning program input.rest limits).taken input.rest
  taken_kept input input' acts told gave at =
      gave told
      ∙ drop_taken (getchars acts) input.rest
      ∙ ap (λ rest. drop (length input.rest - length rest) input.rest) (sym at ∙ sym (ap input_in (run_kept input.rest)))
      ∙ ap (λ n. drop n input.rest) (sym (meaning_taken input.rest (run_of program input.rest limits)))

  module _ (input input' : SourceState) (out out' : SinkState) where
    abbrev ran : Type 0
    ran = Result CodeValue CodeStop

    -- it came to an end
    exits : (value : Value) (n : ℤ) → n ≡ as_int (number_in value) → Finished program limits (way_from (from_beginning program limits) input input' out out') value → HasEvaluationCause input input' out out' (Ok (Exit n)) → Evaluates program limits input input' out out' (Ok (Exit n))
    exits value n is arrived cause = record {
      end = λ told. meaning_exits input.rest (run_of program input.rest limits) value (at told).world (run_kept input.rest ∙ (at told).is) ∙ ap (λ z. EndsStop (Exit z)) (sym is);
      did = λ told. subst (λ acts. Did acts input input' out out') (sym (acts_kept input.rest ∙ ap acts_in (at told).is ∙ (at told).quiet.acts)) (arrived.came.took, arrived.came.gave);
      taken = λ told. taken_kept input input' arrived.acts told arrived.came.gave (ap input_in (at told).is ∙ (at told).quiet.input);
      cut_short = λ told. tt;
      cause = cause;
    }
      where
        at : (told : IsTrue input.tells) → Finishes value (later arrived.acts (start input.rest)) (from_beginning program limits (start input.rest))
        at told = arrived.on (start input.rest) (told, refl)

    halts : (stop : Stop) (arrived : Halted program limits (way_from (from_beginning program limits) input input' out out') stop) → IsTrue input.tells → ((meaning program input.rest limits).end ≡ stop) × ((meaning program input.rest limits).acts ≡ arrived.acts) × (input_in (from_beginning program limits (start input.rest)) ≡ drop (getchars arrived.acts) input.rest)
    halts stop arrived told =
        let at = arrived.on (start input.rest) (told, refl) in (
          meaning_stops input.rest (run_of program input.rest limits) stop at.world (run_kept input.rest ∙ at.is),
          acts_kept input.rest ∙ ap acts_in at.is ∙ at.quiet.acts,
          ap input_in at.is ∙ at.quiet.input,
        )

    ends : (end : End) → Halted program limits (way_from (from_beginning program limits) input input' out out') (EndsStop end) → HasEvaluationCause input input' out out' (Ok end) → Evaluates program limits input input' out out' (Ok end)
    ends end arrived cause = record {
      end = λ told. (halts (EndsStop end) arrived told).0;
      did = λ told. subst (λ acts. Did acts input input' out out') (sym (halts (EndsStop end) arrived told).1) (arrived.came.took, arrived.came.gave);
      taken = λ told. taken_kept input input' arrived.acts told arrived.came.gave (halts (EndsStop end) arrived told).2;
      cut_short = λ told. tt;
      cause = cause;
    }

    -- a fault came
    at_read : (fault : RunFault) (acts : List Act) → IsNext program fault acts → fault ≡ ReadFault → IsGetcharNext acts
    at_read fault acts next is = subst (λ f. IsNext program f acts) is next

    at_write : (fault : RunFault) (acts : List Act) → IsNext program fault acts → fault ≡ WriteFault → IsWriteNext acts
    at_write fault acts next is = subst (λ f. IsNext program f acts) is next

    cut : (fault : RunFault) → CutOff program limits (way_from (from_beginning program limits) input input' out out') fault → HasEvaluationCause input input' out out' (Err fault) → Evaluates program limits input input' out out' (Err fault)
    cut fault arrived cause = record {
      end = λ told. tt;
      did = λ told. tt;
      taken = λ told. tt;
      cut_short = λ told. record {
        done = arrived.acts;
        left = (at told).left;
        split = acts_kept input.rest ∙ (at told).split;
        did = (arrived.came.took, arrived.came.gave);
        at_read = at_read fault (at told).left (at told).next;
        at_write = at_write fault (at told).left (at told).next;
      };
      cause = cause;
    }
      where
        at : (told : IsTrue input.tells) → Front program arrived.acts fault (from_beginning program limits (start input.rest))
        at told = front program limits (later arrived.acts (start input.rest)) fault (from_beginning program limits (start input.rest)) (arrived.on (start input.rest) (told, refl))

    -- a deleted region was touched
    never_stale : (line : ℕ) → DeletesInPlace program → Halted program limits (way_from (from_beginning program limits) input input' out out') (StaleStop line) → ¬ IsTrue input.tells
    never_stale line deleting arrived told = never_touches_deleted program input.rest limits deleting line (halts (StaleStop line) arrived told).0

    pub untold : (stop : CodeStop) (line : ℕ) → stop ≡ Stale line → DeletesInPlace program → Arrives program limits (way_from (from_beginning program limits) input input' out out') (Err stop) → ¬ IsTrue input.tells
    untold stop line is deleting arrived = never_stale line deleting (subst (λ s. Arrives program limits (way_from (from_beginning program limits) input input' out out') (Err s)) is arrived)

    pub unforeseen : ¬ IsTrue input.tells → HasEvaluationCause input input' out out' (Err Memory) → Evaluates program limits input input' out out' (Err Memory)
    unforeseen none cause = record {
      end = λ told. tt;
      did = λ told. tt;
      taken = λ told. tt;
      cut_short = λ told. absurd (none told);
      cause = cause;
    }

    -- causes
    pub caused : (r : ran) (answer : Result End RunFault) → LeavesOutside input input' out out' r → (IsErrOf answer ReadFault → IsErrOf r (Cut ReadFault)) → (IsErrOf r (Cut ReadFault) → IsErrOf answer ReadFault) → (IsErrOf answer WriteFault → IsErrOf r (Cut WriteFault)) → (IsErrOf r (Cut WriteFault) → IsErrOf answer WriteFault) → HasEvaluationCause input input' out out' answer
    caused r answer leaves read_to read_from write_to write_from = record {
      input_tells = leaves.input_tells;
      out_tells = leaves.out_tells;
      unflushed = leaves.flushed;
      input_later = leaves.read_cause.never_falls;
      out_later = leaves.write_cause.never_falls;
      read = λ is. leaves.read_cause.failed (read_to is);
      write = λ is. leaves.write_cause.failed (write_to is);
      input_kept = λ other. leaves.read_cause.kept (λ is. other (read_from is));
      out_kept = λ other. leaves.write_cause.kept (λ is. other (write_from is));
    }

    abbrev arrival : Result CodeValue CodeStop → Type 0
    arrival r = Arrives program limits (way_from (from_beginning program limits) input input' out out') r

    abbrev leaving : Result CodeValue CodeStop → Type 0
    leaving r = LeavesOutside input input' out out' r

    abbrev evaluation : Result End RunFault → Type 0
    evaluation answer = Evaluates program limits input input' out out' answer

    pub evaluates_exit : (value : CodeValue) (n : ℤ) → n ≡ as_int (number_in (value_of value)) → arrival (Ok value) → leaving (Ok value) → evaluation (Ok (Exit n))
    evaluates_exit value n is arrived leaves = exits (value_of value) n is arrived (caused (Ok value) (Ok (Exit n)) leaves (λ e. cc) (λ e. cc) (λ e. cc) (λ e. cc))

    pub evaluates_end : (stop : CodeStop) (end : End) → stop ≡ Ends end → arrival (Err stop) → leaving (Err stop) → evaluation (Ok end)
    evaluates_end stop end is arrived leaves = ends end (subst (λ s. arrival (Err s)) is arrived) (caused (Err (Ends end)) (Ok end) (subst (λ s. leaving (Err s)) is leaves) (λ e. cc) (λ e. cc) (λ e. cc) (λ e. cc))

    pub evaluates_stale : (stop : CodeStop) (line : ℕ) (fault : RunFault) → stop ≡ Stale line → fault ≡ Memory → ¬ IsTrue input.tells → leaving (Err stop) → evaluation (Err fault)
    evaluates_stale stop line fault is memory none leaves =
        subst (λ f. evaluation (Err f)) (sym memory) (unforeseen none (caused (Err (Stale line)) (Err Memory) (subst (λ s. leaving (Err s)) is leaves) (λ e. cc) (λ e. cc) (λ e. cc) (λ e. cc)))

    pub evaluates_cut : (stop : CodeStop) (fault : RunFault) → stop ≡ Cut fault → arrival (Err stop) → leaving (Err stop) → evaluation (Err fault)
    evaluates_cut stop fault is arrived leaves = cut fault (subst (λ s. arrival (Err s)) is arrived) (caused (Err (Cut fault)) (Err fault) (subst (λ s. leaving (Err s)) is leaves) (λ e. cc) (λ e. cc) (λ e. cc) (λ e. cc))

-- nothing was done
pub evaluates_nothing : (program : Program) (limits : Limits) (input : SourceState) (out : SinkState) → Evaluates program limits input input out out (Err Memory)
evaluates_nothing program limits input out = record {
  end = λ told. tt;
  did = λ told. tt;
  taken = λ told. tt;
  cut_short = λ told. record {
    done = [];
    left = (meaning program input.rest limits).acts;
    split = refl;
    did = (took_nothing out, λ told1. refl);
    at_read = λ is. cc;
    at_write = λ is. cc;
  };
  cause = record {
    input_tells = refl;
    out_tells = refl;
    unflushed = λ told. refl;
    input_later = omega arith;
    out_later = omega arith;
    read = λ is. cc;
    write = λ is. cc;
    input_kept = λ other. refl;
    out_kept = λ other. refl;
  };
}
