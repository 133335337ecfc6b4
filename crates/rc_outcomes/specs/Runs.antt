-- What it comes to to run something to an outcome, and to flush the output behind the run.
use Rattle.std.specs.Prelude.{◌≡◌, ◌≤◌, ℕ, List, Result, Ok, Err, IfOk, IfErr, OnOk, IsErrOf, IsOk, IsTrue}
use Rattle.rc_base.specs.Acts.{CutShort}
use Rattle.rc_base.specs.Causes.{Rose}
use Rattle.rc_base.specs.Sinks.{Flushes, IsFlushed, SinkState}
use Rattle.rc_base.specs.Sources.{SourceState}
use Rattle.rc_base.specs.declared.ends.RunFault.{RunFault}
use Rattle.rc_base.specs.declared.ends.RunFault.TheVariants as run_fault
use Rattle.rc_base.specs.declared.outside.Failed.{Failed}
use Rattle.rc_answers.specs.Answers.{IsRun}
use Rattle.rc_answers.specs.declared.answer.Done.{Done}
use Rattle.rc_answers.specs.declared.answer.Fault.{Fault}
use Rattle.rc_answers.specs.declared.answer.Fault.TheVariants.{FileFault, ReadFault, WriteFault, ErrFault, Memory}
use Rattle.rc_outcomes.specs.Outcome.{IsLeft, Outcome, Performed, StoppedShort}
use Rattle.rc_store.specs.Kept.{KeptStore}

-- the faults of a run
abbrev pub IsRunFault : Fault → Type 0
IsRunFault ReadFault = Unit {0}
IsRunFault WriteFault = Unit {0}
IsRunFault Memory = Unit {0}
IsRunFault FileFault = ⊥
IsRunFault ErrFault = ⊥

-- a run came to an outcome on the rest of the input, or was cut short; nothing was flushed
pub record RanUnflushed (Told : Type 0) (comes : List ℕ → Outcome) (input input' : SourceState) (out out' : SinkState) (heap' : KeptStore) (result : Result Done RunFault) : Type 0 where
  pub done : Told → IfOk result (λ done. done ≡ (comes input.rest).done)
  pub performed : Told → OnOk result (Performed (comes input.rest).acts input input' out out')
  pub left : Told → OnOk result (IsLeft (comes input.rest).left heap')
  pub cut_short : Told → IfErr result (CutShort (comes input.rest).acts (λ acts. Performed acts input input' out out'))
  pub is_run : IfOk result IsRun
  pub input_tells : input'.tells ≡ input.tells
  pub out_tells : out'.tells ≡ out.tells
  pub unflushed : IsTrue out.tells → out'.flushed ≡ out.flushed
  pub input_later : input.faults ≤ input'.faults
  pub out_later : out.faults ≤ out'.faults
  pub read : IsErrOf result run_fault.ReadFault → Rose input.faults input'.faults
  pub write : IsErrOf result run_fault.WriteFault → Rose out.faults out'.faults
  pub input_kept : ¬ IsErrOf result run_fault.ReadFault → input'.faults ≡ input.faults
  pub out_kept : ¬ IsErrOf result run_fault.WriteFault → out'.faults ≡ out.faults

-- the output was flushed behind a run, but for one in which a byte could not be written; a flush that fails stands in place of an end alone
pub data FlushedBehind (out out' : SinkState) : Result Done RunFault → Result Done Fault → Type 0 where
  ended : (done : Done) → Flushes {T = Unit {0}} out out' (Ok tt) → FlushedBehind out out' (Ok done) (Ok done)
  not_flushed : (done : Done) (failed : Failed) → Flushes {T = Unit {0}} out out' (Err failed) → FlushedBehind out out' (Ok done) (Err WriteFault)
  not_read : (result : Result (Unit {0}) Failed) → Flushes out out' result → FlushedBehind out out' (Err run_fault.ReadFault) (Err ReadFault)
  no_memory : (result : Result (Unit {0}) Failed) → Flushes out out' result → FlushedBehind out out' (Err run_fault.Memory) (Err Memory)
  not_written : out' ≡ out → FlushedBehind out out' (Err run_fault.WriteFault) (Err WriteFault)

-- a run came to an outcome on the rest of the input, and the output was flushed, but behind a byte that couldn't be written
pub record Ran (Told : Type 0) (comes : List ℕ → Outcome) (input input' : SourceState) (out out' : SinkState) (heap' : KeptStore) (result : Result Done Fault) : Type 0 where
  pub done : Told → IfOk result (λ done. done ≡ (comes input.rest).done)
  pub performed : Told → OnOk result (Performed (comes input.rest).acts input input' out out')
  pub left : Told → OnOk result (IsLeft (comes input.rest).left heap')
  pub stopped : Told → IfErr result (λ fault. StoppedShort (comes input.rest).acts fault input input' out out')
  pub is_run : IfOk result IsRun
  pub flushed : OnOk result (IsFlushed out')
  pub fault : IfErr result IsRunFault
  pub input_later : input.faults ≤ input'.faults
  pub out_later : out.faults ≤ out'.faults
  pub read : IsErrOf result ReadFault → Rose input.faults input'.faults
  pub write : IsErrOf result WriteFault → Rose out.faults out'.faults
  pub input_tells : input'.tells ≡ input.tells
  pub out_tells : out'.tells ≡ out.tells
  pub input_kept : ¬ IsErrOf result ReadFault → input'.faults ≡ input.faults
  pub out_kept : IsOk result → out'.faults ≡ out.faults
