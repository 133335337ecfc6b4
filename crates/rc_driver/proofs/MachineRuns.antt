-- A machine's run of an image, before the flush behind it.
use Rattle.std.proofs.Common.{◌≡◌, ◌≢◌, ℕ, ℤ, List, Option, None, Result, Ok, Err, refl, sym, ap, subst, arith}
use Rattle.rc_base.specs.Acts.{Act}
use Rattle.rc_base.specs.Sinks.{SinkState}
use Rattle.rc_base.specs.Sources.{SourceState}
use Rattle.rc_base.specs.declared.ends.End.TheVariants as ends
use Rattle.rc_base.specs.declared.ends.Limits.{Limits}
use Rattle.rc_base.specs.declared.ends.RunFault.{RunFault}
use Rattle.rc_base.specs.declared.ends.RunFault.TheVariants as fault
use Rattle.rc_core.specs.Heap.{Value}
use Rattle.rc_core.specs.Meaning.{Left, Meaning}
use Rattle.rc_core.specs.Runs.{Stop, Ends, Stale, Run, Go, Stopped}
use Rattle.rc_code.specs.declared.image.Parts.{Parts}
use Rattle.rc_code.specs.ImageMeaning.{image_left, image_run, left_by_run, meaning_of_run}
use Rattle.rc_code.specs.StoreModel.{Held}
use Rattle.rc_machine.specs.declared.end.ImageEnd.{ImageEnd}
use Rattle.rc_machine.specs.declared.end.ImageEnd.TheVariants as image
use Rattle.rc_machine.specs.Fronts.{LeavesUnpinned}
use Rattle.rc_machine.specs.Image.{RunsImage}
use Rattle.rc_machine.specs.Runs.{IfExits, stop_of}
use Rattle.rc_machine.specs.Stepping.{Did}
use Rattle.rc_steps.specs.Follows.{Means}
use Rattle.rc_store.specs.Kept.{KeptStore}
use Rattle.rc_answers.specs.Answers.{IsRun}
use Rattle.rc_outcomes.specs.Outcome.{IsLeft, Performed, comes_of, end_as, unpinned}
use Rattle.rc_outcomes.specs.Runs.{RanUnflushed}
use Rattle.rc_driver.specs.Executing.{TellsBytes, as_done, done_by}

done_so : (e : ImageEnd) → done_by e ≡ end_as (stop_of e)
done_so (image.Ended end) = refl
done_so (image.Stale line) = refl

run_done : (e : ImageEnd) → IsRun (done_by e)
run_done (image.Ended end) = tt
run_done (image.Stale line) = tt

-- where a run doesn't exit, it isn't said what it leaves
nothing_left : (input : List ℕ) (run : Run Held Value) (stop : Stop) → (meaning_of_run input run).end ≡ stop → ((n : ℤ) → stop ≢ Ends (ends.Exit n)) → left_by_run run ≡ None
nothing_left input (Go v w) stop is none = absurd (none _ (sym is))
nothing_left input (Stopped s w) stop is none = refl

performed : (acts : List Act) (input input' : SourceState) (out out' : SinkState) → Did acts input input' out out' → Performed acts input input' out out'
performed acts input input' out out' did = record { wrote = did.took; gave = did.gave }

module _ (parts : Parts) (limits : Limits) (input input' : SourceState) (out out' : SinkState) (heap' : KeptStore) where
  left_unsaid : (rest : List ℕ) (acts : List Act) (stop : Stop) → Means parts rest limits acts stop → ((n : ℤ) → stop ≢ Ends (ends.Exit n)) → IsLeft (unpinned limits (image_left parts rest limits)) heap'
  left_unsaid rest acts stop means none = subst (λ (l : Option Left). IsLeft (unpinned limits l) heap') (sym (nothing_left rest (image_run parts rest limits) stop (ap (λ (m : Meaning). m.end) means.meaning) none)) tt

  left_so : (rest : List ℕ) (acts : List Act) (e : ImageEnd) → Means parts rest limits acts (stop_of e) → IfExits e (LeavesUnpinned parts rest limits heap') → IsLeft (unpinned limits (image_left parts rest limits)) heap'
  left_so rest acts (image.Ended (ends.Exit n)) means leaves = subst (λ (l : Option Left). IsLeft (unpinned limits l) heap') (sym leaves.leaves.left) (leaves.leaves.store, refl, leaves.leaves.kept, leaves.unpinned, leaves.region_limit, leaves.block_limit)
  left_so rest acts (image.Ended (ends.Trapped trap line)) means leaves = left_unsaid rest acts (Ends (ends.Trapped trap line)) means (λ n e. cc)
  left_so rest acts (image.Ended ends.Spent) means leaves = left_unsaid rest acts (Ends ends.Spent) means (λ n e. cc)
  left_so rest acts (image.Stale line) means leaves = left_unsaid rest acts (Stale line) means (λ n e. cc)

  pub machine_ran : (result : Result ImageEnd RunFault) → RunsImage parts limits input out heap' input' out' result → RanUnflushed (TellsBytes input) (comes_of parts limits) input input' out out' heap' (as_done result)
  machine_ran (Ok e) r = record {
    done = λ told. (let means = (r.means told.0 told.1).0 in subst (λ (stop : Stop). done_by e ≡ end_as stop) (ap (λ (m : Meaning). m.end) (sym means.meaning)) (done_so e));
    performed = λ told. (let means = (r.means told.0 told.1).0 in subst (λ (acts : List Act). Performed acts input input' out out') (ap (λ (m : Meaning). m.acts) (sym means.meaning)) (performed r.acts input input' out out' r.acted.did));
    left = λ told. (let means = r.means told.0 told.1 in left_so input.rest r.acts e means.0 means.1);
    cut_short = λ told. tt;
    is_run = run_done e;
    input_tells = r.acted.did.source_tells;
    out_tells = r.acted.did.sink_tells;
    unflushed = r.acted.did.unflushed;
    input_later = (let same = r.acted.source_faults in omega (arith, same));
    out_later = (let same = r.acted.sink_faults in omega (arith, same));
    read = λ is. cc;
    write = λ is. cc;
    input_kept = λ other. r.acted.source_faults;
    out_kept = λ other. r.acted.sink_faults;
  }
  machine_ran (Err fault.ReadFault) r = record {
    done = λ told. tt;
    performed = λ told. tt;
    left = λ told. tt;
    cut_short = λ told. (let front = r.front told.0 told.1 in record { done = r.acts; left = front.left; split = front.split; did = performed r.acts input input' out out' r.failed.did; at_read = λ is. front.next; at_write = λ is. cc });
    is_run = tt;
    input_tells = r.failed.did.source_tells;
    out_tells = r.failed.did.sink_tells;
    unflushed = r.failed.did.unflushed;
    input_later = r.failed.later;
    out_later = (let same = r.failed.sink_faults in omega (arith, same));
    read = λ is. r.failed.rose;
    write = λ is. cc;
    input_kept = λ other. absurd (other refl);
    out_kept = λ other. r.failed.sink_faults;
  }
  machine_ran (Err fault.WriteFault) r = record {
    done = λ told. tt;
    performed = λ told. tt;
    left = λ told. tt;
    cut_short = λ told. (let front = r.front told.0 told.1 in record { done = r.acts; left = front.left; split = front.split; did = performed r.acts input input' out out' r.failed.did; at_read = λ is. cc; at_write = λ is. front.next });
    is_run = tt;
    input_tells = r.failed.did.source_tells;
    out_tells = r.failed.did.sink_tells;
    unflushed = r.failed.did.unflushed;
    input_later = (let same = r.failed.source_faults in omega (arith, same));
    out_later = r.failed.later;
    read = λ is. cc;
    write = λ is. r.failed.rose;
    input_kept = λ other. r.failed.source_faults;
    out_kept = λ other. absurd (other refl);
  }
  machine_ran (Err fault.Memory) r = record {
    done = λ told. tt;
    performed = λ told. tt;
    left = λ told. tt;
    cut_short = λ told. (let front = r.front told.0 told.1 in record { done = r.acts; left = front.left; split = front.split; did = performed r.acts input input' out out' r.acted.did; at_read = λ is. cc; at_write = λ is. cc });
    is_run = tt;
    input_tells = r.acted.did.source_tells;
    out_tells = r.acted.did.sink_tells;
    unflushed = r.acted.did.unflushed;
    input_later = (let same = r.acted.source_faults in omega (arith, same));
    out_later = (let same = r.acted.sink_faults in omega (arith, same));
    read = λ is. cc;
    write = λ is. cc;
    input_kept = λ other. r.acted.source_faults;
    out_kept = λ other. r.acted.sink_faults;
  }
