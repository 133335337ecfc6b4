-- A run, and a flush behind it.
use Rattle.std.proofs.Common.{◌≡◌, ◌≤◌, ◌∙◌, ℕ, List, [], Result, Ok, Err, refl, sym, subst, inl, inr, arith, append-nil}
use Rattle.rc_base.specs.Acts.{Act, output}
use Rattle.rc_base.specs.Causes.{Rose}
use Rattle.rc_base.specs.Sinks.{Flushes, IsFlushed, SinkState, Took}
use Rattle.rc_base.specs.Sources.{SourceState}
use Rattle.rc_base.specs.declared.ends.RunFault.{RunFault}
use Rattle.rc_base.specs.declared.outside.Failed.{Failed}
use Rattle.rc_base.proofs.ActLaws.{took_then}
use Rattle.rc_answers.specs.declared.answer.Done.{Done}
use Rattle.rc_answers.specs.declared.answer.Fault.{Fault}
use Rattle.rc_answers.specs.declared.answer.Fault.TheVariants.{WriteFault}
use Rattle.rc_outcomes.specs.Outcome.{Outcome, Performed}
use Rattle.rc_outcomes.specs.Runs.{FlushedBehind, Ran, RanUnflushed, ended, no_memory, not_flushed, not_read, not_written}
use Rattle.rc_store.specs.Kept.{KeptStore}

-- a count that rose later rose
pub rose_later : (a b c : ℕ) → a ≤ b → Rose b c → Rose a c
rose_later a b c later (inl more) = inl (omega arith)
rose_later a b c later (inr last) = inr last

-- a flush writes nothing
pub took_flushed : (bytes : List ℕ) (a b c : SinkState) → b.tells ≡ a.tells → Took bytes a b → Took [] b c → Took bytes a c
took_flushed bytes a b c same took none = subst (λ (bytes : List ℕ). Took bytes a c) (append-nil bytes) (took_then bytes [] a b c same took none)

performed_flushed : (acts : List Act) (input input' : SourceState) (a b c : SinkState) → b.tells ≡ a.tells → Performed acts input input' a b → Took [] b c → Performed acts input input' a c
performed_flushed acts input input' a b c same did none = record {
  wrote = took_flushed (output acts) a b c same did.wrote none;
  gave = did.gave;
}

-- where no count rose, the flush didn't fail
pub is_flushed : (a b c : SinkState) (result : Result (Unit {0}) Failed) → a.faults ≤ b.faults → Flushes b c result → ¬ Rose a.faults c.faults → IsFlushed c
is_flushed a b c (Ok value) later flush none = flush.ok
is_flushed a b c (Err failed) later flush none = absurd (none (rose_later a.faults b.faults c.faults later (flush.cause.failed refl)))

module _ (Told : Type 0) (comes : List ℕ → Outcome) (input input' : SourceState) (a b c : SinkState) (heap : KeptStore) where
  abbrev pub Before : Result Done RunFault → Type 0
  Before result = RanUnflushed Told comes input input' a b heap result

  pub flushed_run : (result : Result Done RunFault) (answer : Result Done Fault) → Before result → FlushedBehind b c result answer → Ran Told comes input input' a c heap answer
  flushed_run result answer r (ended done flush) = record {
    done = r.done;
    performed = λ told. performed_flushed (comes input.rest).acts input input' a b c r.out_tells (r.performed told) flush.same;
    left = r.left;
    stopped = λ told. tt;
    is_run = r.is_run;
    flushed = flush.ok;
    fault = tt;
    input_later = r.input_later;
    out_later = (let one = r.out_later in let two = flush.cause.never_falls in omega (arith, one, two));
    read = λ is. cc;
    write = λ is. cc;
    input_tells = r.input_tells;
    out_tells = flush.tells ∙ r.out_tells;
    input_kept = λ other. r.input_kept (λ is. cc);
    out_kept = λ ok. flush.cause.kept refl ∙ r.out_kept (λ is. cc);
  }
  flushed_run result answer r (not_flushed done failed flush) = record {
    done = λ told. tt;
    performed = λ told. tt;
    left = λ told. tt;
    stopped = λ told. record {
      before = (comes input.rest).acts;
      left = [];
      split = sym (append-nil (comes input.rest).acts);
      performed = performed_flushed (comes input.rest).acts input input' a b c r.out_tells (r.performed told) flush.same;
      at_file = λ is. cc;
      at_read = λ is. cc;
      at_write = λ is. inr refl;
      at_error = λ is. refl;
      unflushed = λ is next. absurd next;
      flushed_at_read = λ is. cc;
      flushed_at_memory = λ is. cc;
    };
    is_run = tt;
    flushed = tt;
    fault = tt;
    input_later = r.input_later;
    out_later = (let one = r.out_later in let two = flush.cause.never_falls in omega (arith, one, two));
    read = λ is. cc;
    write = λ is. rose_later a.faults b.faults c.faults r.out_later (flush.cause.failed refl);
    input_tells = r.input_tells;
    out_tells = flush.tells ∙ r.out_tells;
    input_kept = λ other. r.input_kept (λ is. cc);
    out_kept = λ is. cc;
  }
  flushed_run result answer r (not_read flushed flush) = record {
    done = λ told. tt;
    performed = λ told. tt;
    left = λ told. tt;
    stopped = λ told. (let cut = r.cut_short told in record {
      before = cut.done;
      left = cut.left;
      split = cut.split;
      performed = performed_flushed cut.done input input' a b c r.out_tells cut.did flush.same;
      at_file = λ is. cc;
      at_read = λ is. cut.at_read refl;
      at_write = λ is. cc;
      at_error = λ is. cc;
      unflushed = λ is. cc;
      flushed_at_read = λ is none. is_flushed a b c flushed r.out_later flush none;
      flushed_at_memory = λ is. cc;
    });
    is_run = tt;
    flushed = tt;
    fault = tt;
    input_later = r.input_later;
    out_later = (let one = r.out_later in let two = flush.cause.never_falls in omega (arith, one, two));
    read = λ is. r.read refl;
    write = λ is. cc;
    input_tells = r.input_tells;
    out_tells = flush.tells ∙ r.out_tells;
    input_kept = λ other. absurd (other refl);
    out_kept = λ is. cc;
  }
  flushed_run result answer r (no_memory flushed flush) = record {
    done = λ told. tt;
    performed = λ told. tt;
    left = λ told. tt;
    stopped = λ told. (let cut = r.cut_short told in record {
      before = cut.done;
      left = cut.left;
      split = cut.split;
      performed = performed_flushed cut.done input input' a b c r.out_tells cut.did flush.same;
      at_file = λ is. cc;
      at_read = λ is. cc;
      at_write = λ is. cc;
      at_error = λ is. cc;
      unflushed = λ is. cc;
      flushed_at_read = λ is. cc;
      flushed_at_memory = λ is some none. is_flushed a b c flushed r.out_later flush none;
    });
    is_run = tt;
    flushed = tt;
    fault = tt;
    input_later = r.input_later;
    out_later = (let one = r.out_later in let two = flush.cause.never_falls in omega (arith, one, two));
    read = λ is. cc;
    write = λ is. cc;
    input_tells = r.input_tells;
    out_tells = flush.tells ∙ r.out_tells;
    input_kept = λ other. r.input_kept (λ is. cc);
    out_kept = λ is. cc;
  }
  flushed_run result answer r (not_written same) = subst (λ (o : SinkState). Ran Told comes input input' a o heap (Err WriteFault)) (sym same) (record {
    done = λ told. tt;
    performed = λ told. tt;
    left = λ told. tt;
    stopped = λ told. (let cut = r.cut_short told in record {
      before = cut.done;
      left = cut.left;
      split = cut.split;
      performed = cut.did;
      at_file = λ is. cc;
      at_read = λ is. cc;
      at_write = λ is. inl (cut.at_write refl);
      at_error = λ is. cc;
      unflushed = λ is next tells. r.unflushed tells;
      flushed_at_read = λ is. cc;
      flushed_at_memory = λ is. cc;
    });
    is_run = tt;
    flushed = tt;
    fault = tt;
    input_later = r.input_later;
    out_later = r.out_later;
    read = λ is. cc;
    write = λ is. r.write refl;
    input_tells = r.input_tells;
    out_tells = r.out_tells;
    input_kept = λ other. r.input_kept (λ is. cc);
    out_kept = λ is. cc;
  })
