-- What it comes to to run a script of heap commands.
use Rattle.std.specs.Prelude.{◌≡◌, ◌<◌, ◌≤◌, ℕ, List, length, Option, Result, Ok, Err, IfOk, OnOk, IsTrue}
use Rattle.rc_base.specs.Limits.{most_text_bytes}
use Rattle.rc_base.specs.Shelves.{Names}
use Rattle.rc_base.specs.Sinks.{SinkState}
use Rattle.rc_base.specs.declared.ends.Limits.{Limits}
use Rattle.rc_base.specs.declared.ends.RunFault.{RunFault}
use Rattle.rc_base.specs.declared.ends.RunFault.TheVariants as run_fault
use Rattle.rc_compile.specs.declared.refusal.Refusal.TheVariants.{TooLong}
use Rattle.rc_store.specs.Kept.{KeptStore}
use Rattle.rc_replies.specs.Replies.{heap_store, heap_text}
use Rattle.rc_replies.specs.Stores.{IsSame}
use Rattle.rc_sets.specs.Scripts.{PutText}
use Rattle.rc_sets.specs.declared.run.ScriptFault.{ScriptFault}
use Rattle.rc_sets.specs.declared.run.ScriptFault.TheVariants.{WriteFault, Memory}
use Rattle.rc_answers.specs.declared.answer.Done.{Done}
use Rattle.rc_answers.specs.declared.answer.Done.TheVariants.{Refused, Reported}
use Rattle.rc_answers.specs.declared.answer.Fault.{Fault}
use Rattle.rc_outcomes.specs.Footprint.{Reads, footprint}
use Rattle.rc_outcomes.specs.MayAnswer.{MayAnswer}
use Rattle.rc_outcomes.specs.Outcome.{IsOutcome, OfScriptFile, Outcome}
use Rattle.rc_outcomes.specs.Reporting.{WroteReport}
use Rattle.rc_requests.specs.Request.{Request}

-- how a script ends, as it is answered
abbrev pub as_done : Result (Unit {0}) ScriptFault → Result Done RunFault
as_done (Ok value) = Ok Reported
as_done (Err WriteFault) = Err run_fault.WriteFault
as_done (Err Memory) = Err run_fault.Memory

-- a script was run over a new heap with these limits; nothing was flushed
pub record RanScript (text : List ℕ) (limits : Limits) (out out' : SinkState) (heap' : KeptStore) (result : Result (Unit {0}) ScriptFault) : Type 0 where
  pub put : PutText (heap_text text limits) out out' result
  pub left : OnOk result (IsSame (heap_store text limits) heap')

-- and the output was flushed, but behind a byte that couldn't be written
pub record AnsweredScript (text : List ℕ) (limits : Limits) (out out' : SinkState) (heap' : KeptStore) (result : Result Done Fault) : Type 0 where
  pub wrote : WroteReport (heap_text text limits) out out' result
  pub reported : IfOk result (λ done. done ≡ Reported)
  pub left : OnOk result (IsSame (heap_store text limits) heap')

-- a text was run as a script, or is too long
pub data AnsweredText (text : List ℕ) (limits : Limits) (out out' : SinkState) (heap heap' : KeptStore) : Result Done Fault → Type 0 where
  ran : (result : Result Done Fault) → length text ≤ most_text_bytes → AnsweredScript text limits out out' heap' result → AnsweredText text limits out out' heap heap' result
  too_long : most_text_bytes < length text → out' ≡ out → heap' ≡ heap → AnsweredText text limits out out' heap heap' (Ok (Refused TooLong))

-- the rows of the tables say of a request that it runs the script of this file
pub record ScriptOf (request : Option Request) (name : List ℕ) (limits : Limits) : Type 0 where
  pub reads : Reads (footprint request) name
  pub only : (other : List ℕ) → Reads (footprint request) other → name ≡ other
  pub writes_out : IsTrue (footprint request).writes_out
  pub uses_heap : IsTrue (footprint request).uses_heap
  pub may_report : MayAnswer request Reported
  pub may_refuse : MayAnswer request (Refused TooLong)
  pub is_outcome : (files : Names) (input : List ℕ) (outcome : Outcome) → OfScriptFile name limits files outcome → IsOutcome request files input outcome
  pub outcome_is : (files : Names) (input : List ℕ) (outcome : Outcome) → IsOutcome request files input outcome → OfScriptFile name limits files outcome
