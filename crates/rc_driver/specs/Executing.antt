-- What it comes to to run an image.
use Rattle.std.specs.Prelude.{◌≡◌, ◌⊎◌, ℕ, List, Option, Result, Ok, Err, IsTrue}
use Rattle.std.specs.List.{AllByRecursion as Every}
use Rattle.rc_base.specs.Sinks.{SinkState}
use Rattle.rc_base.specs.Sources.{SourceState}
use Rattle.rc_base.specs.declared.ends.Limits.{Limits}
use Rattle.rc_base.specs.declared.ends.RunFault.{RunFault}
use Rattle.rc_core.specs.Numbers.{IsByte}
use Rattle.rc_code.specs.declared.image.Parts.{Parts}
use Rattle.rc_machine.specs.declared.end.ImageEnd.{ImageEnd}
use Rattle.rc_machine.specs.declared.end.ImageEnd.TheVariants as image
use Rattle.rc_store.specs.Kept.{KeptStore}
use Rattle.rc_answers.specs.Answers.{IsOfCode, IsOfProofs, IsRun}
use Rattle.rc_answers.specs.declared.answer.Done.{Done}
use Rattle.rc_answers.specs.declared.answer.Done.TheVariants.{Ended, StaleImage, ImageRefused}
use Rattle.rc_answers.specs.declared.answer.Fault.{Fault}
use Rattle.rc_answers.specs.declared.answer.Fault.TheVariants.{Memory}
use Rattle.rc_answers.specs.declared.image_refusal.ImageRefusal.{ImageRefusal}
use Rattle.rc_files.specs.Making.{MakesOf}
use Rattle.rc_outcomes.specs.Footprint.{footprint}
use Rattle.rc_outcomes.specs.MayAnswer.{MayAnswer}
use Rattle.rc_outcomes.specs.Images.{Carried}
use Rattle.rc_outcomes.specs.Outcome.{Admits, Executes, Untouched, comes_of}
use Rattle.rc_outcomes.specs.Runs.{Ran}
use Rattle.rc_requests.specs.Request.{Request}

-- how the run of an image ends, as it is answered
abbrev pub done_by : ImageEnd → Done
done_by (image.Ended end) = Ended end
done_by (image.Stale line) = StaleImage line

abbrev pub as_done : Result ImageEnd RunFault → Result Done RunFault
as_done (Ok end) = Ok (done_by end)
as_done (Err fault) = Err fault

-- the input tells what it has, and that is bytes
abbrev pub TellsBytes : SourceState → Type 0
TellsBytes input = IsTrue input.tells × Every IsByte input.rest

-- nothing was called
pub record Spared (input input' : SourceState) (out out' : SinkState) (heap heap' : KeptStore) : Type 0 where
  pub untouched : Untouched input input' out out'
  pub heap_same : heap' ≡ heap

-- what a file carries was run, or was refused, or there was no memory to tell
pub data Executed (carried : Carried) (limits : Limits) (input input' : SourceState) (out out' : SinkState) (heap heap' : KeptStore) : Result Done Fault → Type 0 where
  ran : (code : Parts) (result : Result Done Fault) → Admits carried (Ok code) → Ran (TellsBytes input) (comes_of code limits) input input' out out' heap' result → Executed carried limits input input' out out' heap heap' result
  refused : (refusal : ImageRefusal) → Admits carried (Err refusal) → Spared input input' out out' heap heap' → Executed carried limits input input' out out' heap heap' (Ok (ImageRefused refusal))
  no_memory : Spared input input' out out' heap heap' → Executed carried limits input input' out out' heap heap' (Err Memory)

-- the rows of the tables say of a request that it runs the image of this file
pub record ExecutesOf (request : Option Request) (name : List ℕ) (limits : Limits) : Type 0 where
  pub makes : MakesOf request name (Executes limits)
  pub takes : IsTrue (footprint request).takes_input
  pub writes : IsTrue (footprint request).writes_out
  pub heap : IsTrue (footprint request).uses_heap
  pub may_run : (done : Done) → IsRun done → MayAnswer request done
  pub may_refuse : (refusal : ImageRefusal) → IsOfCode refusal ⊎ IsOfProofs refusal → MayAnswer request (ImageRefused refusal)
