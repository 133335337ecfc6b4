-- A report: bytes that a request writes to the output and flushes.
use Rattle.std.specs.Prelude.{◌≡◌, ◌≤◌, ℕ, List, take, Option, Result, Ok, Err, IfErr, IfOk, OnOk, IsErrOf, IsOk, IsTrue}
use Rattle.rc_base.specs.Causes.{Rose}
use Rattle.rc_base.specs.Sinks.{IsFlushed, SinkState, Took}
use Rattle.rc_outcomes.specs.MayAnswer.{MayAnswer}
use Rattle.rc_outcomes.specs.Footprint.{UsesFiles, footprint}
use Rattle.rc_outcomes.specs.Outcome.{Comes, HeapLeft, IsOutcome, Outcome, reports_leaving}
use Rattle.rc_outcomes.specs.Outside.{Outside}
use Rattle.rc_requests.specs.Request.{Request}
use Rattle.rc_answers.specs.declared.answer.Done.{Done}
use Rattle.rc_answers.specs.declared.answer.Done.TheVariants.{Reported}
use Rattle.rc_answers.specs.declared.answer.Fault.{Fault}
use Rattle.rc_answers.specs.declared.answer.Fault.TheVariants.{WriteFault, Memory}

-- a byte failed behind a front of the report, of which nothing was flushed, or the flush failed behind all of it; or there was memory
-- for a front alone, which was flushed, or for nothing of it
pub data CutReport (report : List ℕ) (out out' : SinkState) : Fault → Type 0 where
  at_byte : (n : ℕ) → Took (take n report) out out' → (IsTrue out.tells → out'.flushed ≡ out.flushed) → CutReport report out out' WriteFault
  at_flush : Took report out out' → CutReport report out out' WriteFault
  no_memory : (n : ℕ) → Took (take n report) out out' → (¬ Rose out.faults out'.faults → IsFlushed out') → CutReport report out out' Memory
  nothing : out' ≡ out → CutReport report out out' Memory

pub record WroteReport {T : Type 0} (report : List ℕ) (out out' : SinkState) (result : Result T Fault) : Type 0 where
  pub tells : out'.tells ≡ out.tells
  pub wrote : OnOk result (Took report out out')
  pub flushed : OnOk result (IsFlushed out')
  pub cut : IfErr result (CutReport report out out')
  pub never_falls : out.faults ≤ out'.faults
  pub kept : IsOk result → out'.faults ≡ out.faults
  pub rose : IsErrOf result WriteFault → Rose out.faults out'.faults

-- it was written whole, and that is answered
pub record MadeReport (report : List ℕ) (out out' : SinkState) (result : Result Done Fault) : Type 0 where
  pub wrote : WroteReport report out out' result
  pub reported : IfOk result (λ done. done ≡ Reported)

abbrev pub reported : Result (Unit {0}) Fault → Result Done Fault
reported (Ok value) = Ok Reported
reported (Err fault) = Err fault

-- the rows of the tables say of a request that it writes this report and leaves the heap so
pub record WritesReport (request : Option Request) (before : Outside) (report : List ℕ) (left : HeapLeft) : Type 0 where
  pub writes_out : IsTrue (footprint request).writes_out
  pub may_report : MayAnswer request Reported
  pub outcome : (UsesFiles (footprint request) → IsTrue before.files.tells) → IsOutcome request before.files.names before.input.rest (reports_leaving report left)
  pub only : (outcome : Outcome) → Comes request before outcome → outcome ≡ reports_leaving report left
