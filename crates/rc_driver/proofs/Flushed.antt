-- A script's answers, and the flush behind them.
use Rattle.std.proofs.Common.{◌≡◌, ◌≤◌, ◌∙◌, ℕ, List, take, Result, Ok, Err, OnOk, IfOk, IsErrOf, IsOk, IsTrue, refl, sym, subst, arith}
use Rattle.rc_base.specs.Causes.{Rose}
use Rattle.rc_base.specs.Sinks.{SinkState, Took, TookFront}
use Rattle.rc_base.specs.declared.ends.Limits.{Limits}
use Rattle.rc_base.specs.declared.ends.RunFault.{RunFault}
use Rattle.rc_base.specs.declared.ends.RunFault.TheVariants as run_fault
use Rattle.rc_replies.specs.Replies.{heap_store, heap_text}
use Rattle.rc_replies.specs.Stores.{IsSame}
use Rattle.rc_replies.specs.Writing.{StoppedIn}
use Rattle.rc_sets.specs.Scripts.{limits_of}
use Rattle.rc_sets.specs.declared.run.ScriptFault.{ScriptFault}
use Rattle.rc_sets.specs.declared.run.ScriptFault.TheVariants.{WriteFault, Memory}
use Rattle.rc_store.specs.Kept.{KeptStore}
use Rattle.rc_store.specs.Stores.{limited}
use Rattle.rc_answers.specs.declared.answer.Done.{Done}
use Rattle.rc_answers.specs.declared.answer.Done.TheVariants.{Reported}
use Rattle.rc_answers.specs.declared.answer.Fault.{Fault}
use Rattle.rc_answers.specs.declared.answer.Fault.TheVariants as fault
use Rattle.rc_outcomes.specs.Reporting.{at_byte, at_flush, no_memory as cut_for_memory}
use Rattle.rc_outcomes.specs.Runs.{FlushedBehind, ended, no_memory, not_flushed, not_read, not_written}
use Rattle.rc_outcomes.proofs.Flushing.{is_flushed, rose_later, took_flushed}
use Rattle.rc_driver.specs.Scripting.{AnsweredScript, RanScript, as_done}

-- a heap that was given limits has these
pub with_limits : (text : List ℕ) (limits : Limits) (first given : KeptStore) (out out' : SinkState) (heap' : KeptStore) (result : Result (Unit {0}) ScriptFault) → given ≡ limited limits first → RanScript text (limits_of given) out out' heap' result → RanScript text limits out out' heap' result
with_limits text limits first given out out' heap' result is r =
    let s = subst (λ (store : KeptStore). RanScript text (limits_of store) out out' heap' result) is r in
    record { put = s.put; left = s.left }

-- what was put of a text before its flush, and what is left of the heap
pub record Put (bytes : List ℕ) (Left : Type 0) (out out' : SinkState) (result : Result Done RunFault) : Type 0 where
  pub tells : out'.tells ≡ out.tells
  pub whole : OnOk result (Took bytes out out')
  pub stopped : IsErrOf result run_fault.WriteFault → StoppedIn bytes out out'
  pub cut : IsErrOf result run_fault.Memory → TookFront bytes out out'
  pub unflushed : IsTrue out.tells → out'.flushed ≡ out.flushed
  pub later : out.faults ≤ out'.faults
  pub rose : IsErrOf result run_fault.WriteFault → Rose out.faults out'.faults
  pub kept : IsOk result → out'.faults ≡ out.faults
  pub no_read : ¬ IsErrOf result run_fault.ReadFault
  pub reported : IfOk result (λ done. done ≡ Reported)
  pub left : OnOk result Left

put_so : (text : List ℕ) (limits : Limits) (out out' : SinkState) (heap' : KeptStore) (result : Result (Unit {0}) ScriptFault) → RanScript text limits out out' heap' result → Put (heap_text text limits) (IsSame (heap_store text limits) heap') out out' (as_done result)
put_so text limits out out' heap' (Ok value) r = record {
  tells = r.put.tells;
  whole = r.put.whole;
  stopped = λ is. cc;
  cut = λ is. cc;
  unflushed = r.put.flushed;
  later = r.put.never_falls;
  rose = λ is. cc;
  kept = λ ok. r.put.kept refl;
  no_read = λ is. cc;
  reported = refl;
  left = r.left;
}
put_so text limits out out' heap' (Err WriteFault) r = record {
  tells = r.put.tells;
  whole = tt;
  stopped = λ is. r.put.stopped refl;
  cut = λ is. cc;
  unflushed = r.put.flushed;
  later = r.put.never_falls;
  rose = λ is. r.put.rose refl;
  kept = λ ok. cc;
  no_read = λ is. cc;
  reported = tt;
  left = tt;
}
put_so text limits out out' heap' (Err Memory) r = record {
  tells = r.put.tells;
  whole = tt;
  stopped = λ is. cc;
  cut = λ is. r.put.cut refl;
  unflushed = r.put.flushed;
  later = r.put.never_falls;
  rose = λ is. cc;
  kept = λ ok. cc;
  no_read = λ is. cc;
  reported = tt;
  left = tt;
}

module _ (text : List ℕ) (limits : Limits) (a b c : SinkState) (heap' : KeptStore) where
  abbrev pub Before : Result Done RunFault → Type 0
  Before result = Put (heap_text text limits) (IsSame (heap_store text limits) heap') a b result

  abbrev pub Behind : Result Done Fault → Type 0
  Behind answer = AnsweredScript text limits a c heap' answer

  flushed : (result : Result Done RunFault) (answer : Result Done Fault) → Before result → FlushedBehind b c result answer → Behind answer
  flushed result answer r (ended done flush) = record {
    wrote = record {
      tells = flush.tells ∙ r.tells;
      wrote = took_flushed (heap_text text limits) a b c r.tells r.whole flush.same;
      flushed = flush.ok;
      cut = tt;
      never_falls = (let one = r.later in let two = flush.cause.never_falls in omega (arith, one, two));
      kept = λ ok. flush.cause.kept refl ∙ r.kept refl;
      rose = λ is. cc;
    };
    reported = r.reported;
    left = r.left;
  }
  flushed result answer r (not_flushed done failed flush) = record {
    wrote = record {
      tells = flush.tells ∙ r.tells;
      wrote = tt;
      flushed = tt;
      cut = at_flush (took_flushed (heap_text text limits) a b c r.tells r.whole flush.same);
      never_falls = (let one = r.later in let two = flush.cause.never_falls in omega (arith, one, two));
      kept = λ ok. cc;
      rose = λ is. rose_later a.faults b.faults c.faults r.later (flush.cause.failed refl);
    };
    reported = tt;
    left = tt;
  }
  flushed result answer r (not_read flush_result flush) = absurd (r.no_read refl)
  flushed result answer r (no_memory flush_result flush) = record {
    wrote = record {
      tells = flush.tells ∙ r.tells;
      wrote = tt;
      flushed = tt;
      cut = (let front = r.cut refl in cut_for_memory front.0 (took_flushed (take front.0 (heap_text text limits)) a b c r.tells front.1 flush.same) (is_flushed a b c flush_result r.later flush));
      never_falls = (let one = r.later in let two = flush.cause.never_falls in omega (arith, one, two));
      kept = λ ok. cc;
      rose = λ is. cc;
    };
    reported = tt;
    left = tt;
  }
  flushed result answer r (not_written same) = subst (λ (o : SinkState). AnsweredScript text limits a o heap' (Err fault.WriteFault)) (sym same) (record {
    wrote = record {
      tells = r.tells;
      wrote = tt;
      flushed = tt;
      cut = (let front = r.stopped refl in at_byte front.0 front.2 r.unflushed);
      never_falls = r.later;
      kept = λ ok. cc;
      rose = λ is. r.rose refl;
    };
    reported = tt;
    left = tt;
  })

  pub flushed_script : (result : Result (Unit {0}) ScriptFault) (answer : Result Done Fault) → RanScript text limits a b heap' result → FlushedBehind b c (as_done result) answer → Behind answer
  flushed_script result answer r behind = flushed (as_done result) answer (put_so text limits a b heap' result r) behind
