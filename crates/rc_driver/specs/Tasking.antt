-- Running the tasks of a file over the heap.
use Rattle.std.specs.Prelude.{◌≡◌, ℕ, List, Option, Result, IsTrue}
use Rattle.std.specs.List.{AllByRecursion as Every}
use Rattle.rc_base.specs.Shelves.{Names}
use Rattle.rc_base.specs.Sinks.{SinkState}
use Rattle.rc_base.specs.Sources.{SourceState}
use Rattle.rc_base.specs.declared.ends.Limits.{Limits}
use Rattle.rc_compile.specs.declared.refusal.Refusal.{Refusal}
use Rattle.rc_core.specs.Numbers.{IsByte}
use Rattle.rc_answers.specs.declared.answer.Done.{Done}
use Rattle.rc_answers.specs.declared.answer.Done.TheVariants.{Refused}
use Rattle.rc_answers.specs.declared.answer.Fault.{Fault}
use Rattle.rc_driver.specs.Executing.{TellsBytes}
use Rattle.rc_outcomes.specs.Footprint.{Reads, footprint}
use Rattle.rc_outcomes.specs.MayAnswer.{MayAnswer}
use Rattle.rc_outcomes.specs.Outcome.{IsOutcome, OfTasksFile, Outcome, as_left}
use Rattle.rc_requests.specs.Request.{Request}
use Rattle.rc_store.specs.Kept.{KeptStore}
use Rattle.rc_task_text.specs.TaskText.{task_text_of}
use Rattle.rc_files.specs.Programs.{IsEnd, RanText}

-- a text of bytes was run with the lines behind it that run its tasks
pub record RanTasks (choices text : List ℕ) (limits : Limits) (input input' : SourceState) (out out' : SinkState) (heap heap' : KeptStore) (result : Result Done Fault) : Type 0 where
  pub bytes : Every IsByte text
  pub ran : RanText as_left (TellsBytes input) (task_text_of text choices) limits input input' out out' heap heap' result

-- the rows of the tables say of a request that it runs the tasks of this file by these choices, and over the heap
pub record RunsTasksOf (request : Option Request) (name choices : List ℕ) (limits : Limits) : Type 0 where
  pub reads : Reads (footprint request) name
  pub only : (other : List ℕ) → Reads (footprint request) other → name ≡ other
  pub takes : IsTrue (footprint request).takes_input
  pub writes : IsTrue (footprint request).writes_out
  pub heap : IsTrue (footprint request).uses_heap
  pub may_end : (done : Done) → IsEnd done → MayAnswer request done
  pub may_refuse : (refusal : Refusal) → MayAnswer request (Refused refusal)
  pub is_outcome : (files : Names) (input : List ℕ) (outcome : Outcome) → OfTasksFile name choices limits files input outcome → IsOutcome request files input outcome
  pub outcome_is : (files : Names) (input : List ℕ) (outcome : Outcome) → IsOutcome request files input outcome → OfTasksFile name choices limits files input outcome
