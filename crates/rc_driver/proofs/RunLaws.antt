-- Running a program: an evaluation, before the flush behind it.
use Rattle.std.proofs.Common.{Result, Ok, Err, IfOk, IsTrue, sym, ap}
use Rattle.rc_base.specs.Sinks.{SinkState}
use Rattle.rc_base.specs.Sources.{SourceState}
use Rattle.rc_base.specs.declared.ends.End.{End}
use Rattle.rc_base.specs.declared.ends.Limits.{Limits}
use Rattle.rc_base.specs.declared.ends.RunFault.{RunFault}
use Rattle.rc_base.specs.declared.ends.RunFault.TheVariants.{ReadFault, WriteFault}
use Rattle.rc_core.specs.Programs.{Program}
use Rattle.rc_slow.specs.Evaluates.{Evaluates}
use Rattle.rc_answers.specs.declared.answer.Done.{Done}
use Rattle.rc_answers.specs.declared.answer.Fault.{Fault}
use Rattle.rc_outcomes.specs.Outcome.{end_as, unsaid}
use Rattle.rc_outcomes.specs.Runs.{FlushedBehind, RanUnflushed, ended, no_memory, not_flushed, not_read, not_written}
use Rattle.rc_outcomes.proofs.Ways.{same_run_fault}
use Rattle.rc_files.specs.Programs.{IsEnd, comes_of}
use Rattle.rc_driver.specs.Evaluating.{as_done}
use Rattle.rc_store.specs.Kept.{KeptStore}

-- an evaluation came to what the program means
pub evaluated : (program : Program) (limits : Limits) (input input' : SourceState) (out out' : SinkState) (heap : KeptStore) (result : Result End RunFault) → Evaluates program limits input input' out out' result → RanUnflushed (IsTrue input.tells) (comes_of unsaid program limits) input input' out out' heap (as_done result)
evaluated program limits input input' out out' heap (Ok end) e = record {
  done = λ tells. ap end_as (sym (e.end tells));
  performed = λ tells. record { wrote = (e.did tells).0; gave = (e.did tells).1 };
  left = λ tells. tt;
  cut_short = λ tells. tt;
  is_run = tt;
  input_tells = e.cause.input_tells;
  out_tells = e.cause.out_tells;
  unflushed = e.cause.unflushed;
  input_later = e.cause.input_later;
  out_later = e.cause.out_later;
  read = λ is. cc;
  write = λ is. cc;
  input_kept = λ other. e.cause.input_kept (λ is. cc);
  out_kept = λ other. e.cause.out_kept (λ is. cc);
}
evaluated program limits input input' out out' heap (Err fault) e = record {
  done = λ tells. tt;
  performed = λ tells. tt;
  left = λ tells. tt;
  cut_short = λ tells. (let cut = e.cut_short tells in record { done = cut.done; left = cut.left; split = cut.split; did = record { wrote = cut.did.0; gave = cut.did.1 }; at_read = cut.at_read; at_write = cut.at_write });
  is_run = tt;
  input_tells = e.cause.input_tells;
  out_tells = e.cause.out_tells;
  unflushed = e.cause.unflushed;
  input_later = e.cause.input_later;
  out_later = e.cause.out_later;
  read = λ is. e.cause.read (ap Err (same_run_fault fault ReadFault is));
  write = λ is. e.cause.write (ap Err (same_run_fault fault WriteFault is));
  input_kept = λ other. e.cause.input_kept (λ is. other (ap Err (same_run_fault fault ReadFault is)));
  out_kept = λ other. e.cause.out_kept (λ is. other (ap Err (same_run_fault fault WriteFault is)));
}

pub done_ends : (result : Result End RunFault) → IfOk (as_done result) IsEnd
done_ends (Ok end) = tt
done_ends (Err fault) = tt

-- and ends so behind its flush
pub flushed_ends : (out out' : SinkState) (result : Result Done RunFault) (answer : Result Done Fault) → FlushedBehind out out' result answer → IfOk result IsEnd → IfOk answer IsEnd
flushed_ends out out' result answer (ended done flush) is = is
flushed_ends out out' result answer (not_flushed done failed flush) is = tt
flushed_ends out out' result answer (not_read flushed flush) is = tt
flushed_ends out out' result answer (no_memory flushed flush) is = tt
flushed_ends out out' result answer (not_written same) is = tt
