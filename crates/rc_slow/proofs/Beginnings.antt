-- The run of a program, as its machine begins it.
use Rattle.std.proofs.Common.{◌≡◌, ◌≤◌, ◌∙◌, ℕ, zero, suc, List, [], Option, Some, None, Result, Ok, Err, IsErrAnd, refl, sym, ap, subst, append-nil, arith}
use Rattle.std.specs.Prelude.{slice_get}
use Rattle.rc_base.specs.Acts.{Act}
use Rattle.rc_base.specs.Sinks.{SinkState}
use Rattle.rc_base.specs.Sources.{SourceState}
use Rattle.rc_base.specs.declared.ends.End.TheVariants.{Spent}
use Rattle.rc_base.specs.declared.ends.Limits.{Limits}
use Rattle.rc_base.specs.declared.ends.RunFault.TheVariants.{Memory}
use Rattle.rc_base.proofs.ActLaws.{took_nothing}
use Rattle.rc_core.specs.Heap.{Value, Null, first_heap}
use Rattle.rc_core.specs.Programs.{Function, Program}
use Rattle.rc_core.specs.Runs.{Ends as EndsStop, Run, Stopped, bind}
use Rattle.rc_slow.specs.declared.machine.Machine.{Machine as CodeMachine}
use Rattle.rc_values.specs.declared.stop.Stop.{Stop as CodeStop}
use Rattle.rc_values.specs.declared.stop.Stop.TheVariants.{Cut}
use Rattle.rc_values.specs.declared.value.Value.{Value as CodeValue}
use Rattle.rc_slow.specs.Beginning.{Begins, beginning, from_beginning}
use Rattle.rc_slow.specs.Going.{Arrives, Came, CutOff, Finished, Going, Halted, StopsAt, Way, way_from}
use Rattle.rc_memory.specs.Kept.{KeptHeap, kept_heap}
use Rattle.rc_memory.specs.KeptWorld.{KeptWorld}
use Rattle.rc_slow.specs.Outside.{later}
use Rattle.rc_slow.specs.Standing.{activation_of, callers_of}
use Rattle.rc_frames.specs.Waiting.{CodeActivations, waiting_of}
use Rattle.rc_nodes.specs.Stepping.{executing}
use Rattle.rc_slow.specs.Whole.{Activation, State, finally, first_state, started, whole}
use Rattle.rc_slow.proofs.Whole.{started_right}

came_nowhere : (start : KeptWorld → Run KeptWorld Value) (input : SourceState) (out : SinkState) → Came (way_from start input input out out) []
came_nowhere start input out = record { took = took_nothing out; gave = λ told. refl }

same_acts : (w : KeptWorld) → w.acts ≡ (later [] w).acts
same_acts w = sym (append-nil w.acts)

module _ (program : Program) (limits : Limits) where
  -- with so many turns left
  abbrev first : ℕ → KeptWorld → KeptWorld
  first n w = record (beginning program limits w) { turns = n }

  abbrev starting : Option Function → ℕ → KeptWorld → Run KeptWorld Value
  starting o n w = bind (started program o limits.turns (first n w)) (finally program)

  begun : (o : Option Function) (n : ℕ) (w : KeptWorld) → slice_get program.functions program.main ≡ o → limits.turns ≡ n → from_beginning program limits w ≡ starting o n w
  begun o n w main turns = started_right program (beginning program limits w) ∙ ap (λ o1. starting o1 limits.turns w) main ∙ ap (λ k. starting o k w) turns

  -- no turn is left for `main`
  no_turn : (o : Option Function) (w : KeptWorld) → starting o 0 w ≡ Stopped (EndsStop Spent) (first 0 w)
  no_turn None w = refl
  no_turn (Some f) w = refl

  module _ (input : SourceState) (out : SinkState) where
    abbrev way : Way
    way = way_from (from_beginning program limits) input input out out

    pub spent_at_once : limits.turns ≡ 0 → Halted program limits way (EndsStop Spent)
    spent_at_once turns = record {
      acts = [];
      came = came_nowhere (from_beginning program limits) input out;
      on = λ w fits. record {
        world = first 0 w;
        is = begun (slice_get program.functions program.main) 0 w refl turns ∙ no_turn (slice_get program.functions program.main) w;
        quiet = record { acts = same_acts w; input = refl };
      };
    }

    -- there is no `main`
    missing_by : (k : ℕ) → limits.turns ≡ k → 1 ≤ k → slice_get program.functions program.main ≡ None → Finished program limits way Null
    missing_by zero turns some main = absurd (omega (arith, some))
    missing_by (suc n) turns some main = record {
      acts = [];
      came = came_nowhere (from_beginning program limits) input out;
      on = λ w fits. record {
        world = first n w;
        is = begun None (suc n) w main turns;
        quiet = record { acts = same_acts w; input = refl };
      };
    }

    pub nothing_to_run : 1 ≤ limits.turns → slice_get program.functions program.main ≡ None → Finished program limits way Null
    nothing_to_run some main = missing_by limits.turns refl some main

    module _ (f : Function) (main : slice_get program.functions program.main ≡ Some f) where
      -- there is no memory for the machine
      memory_by : (k : ℕ) → limits.turns ≡ k → 1 ≤ k → CutOff program limits way Memory
      memory_by zero turns some = absurd (omega (arith, some))
      memory_by (suc n) turns some = record {
        acts = [];
        came = came_nowhere (from_beginning program limits) input out;
        on = λ w fits. record {
          state = first_state program limits.turns f;
          world = first n w;
          acts = same_acts w;
          on = begun (Some f) (suc n) w main turns;
          at_read = λ is. absurd cc;
          at_write = λ is. absurd cc;
        };
      }

      pub no_machine : 1 ≤ limits.turns → CutOff program limits way Memory
      no_machine some = memory_by limits.turns refl some

      pub no_machine_as : (r : Result CodeValue CodeStop) (stop : CodeStop) → IsErrAnd r (λ y. y ≡ stop) → stop ≡ Cut Memory → 1 ≤ limits.turns → Arrives program limits way r
      no_machine_as (Ok v) stop is memory some = absurd is
      no_machine_as (Err y) stop is memory some = subst (StopsAt program limits way) (sym (is ∙ memory)) (no_machine some)

      -- the run from a machine on
      abbrev run_at : KeptWorld → Activation → CodeActivations → KeptHeap → ℕ → List Act → Run KeptWorld Value
      run_at w a below heap turns acts =
          let s : State = record { control = executing f.body; now = a; below = callers_of below } in
          let v : KeptWorld = record w { turns = turns; acts = acts; heap = heap; waiting = waiting_of below; regions = limits.regions; blocks = limits.blocks } in
          whole program s v

      going_by : (m : CodeMachine) (k : ℕ) → limits.turns ≡ k → 1 ≤ k → Begins program limits f m → Going program limits way (executing f.body) m
      going_by m zero turns some b = absurd (omega (arith, some))
      going_by m (suc n) turns some b =
          let same : n ≡ m.turns = omega (arith, turns, b.turns) in
          record {
            acts = [];
            came = came_nowhere (from_beginning program limits) input out;
            on = λ w fits.
                begun (Some f) (suc n) w main turns
                ∙ ap (λ a. run_at w a [] (kept_heap (first_heap program)) n w.acts) (sym b.now)
                ∙ ap (λ l. run_at w (activation_of m.now) l (kept_heap (first_heap program)) n w.acts) (sym b.below)
                ∙ ap (λ h. run_at w (activation_of m.now) m.below h n w.acts) (sym b.heap)
                ∙ ap (λ t. run_at w (activation_of m.now) m.below m.heap t w.acts) same
                ∙ ap (λ l. run_at w (activation_of m.now) m.below m.heap m.turns l) (same_acts w);
          }

      pub going_on : (m : CodeMachine) → 1 ≤ limits.turns → Begins program limits f m → Going program limits way (executing f.body) m
      going_on m some b = going_by m limits.turns refl some b
