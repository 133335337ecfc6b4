-- What it comes to to run a program and a text.
use Rattle.std.specs.Prelude.{◌≡◌, ℕ, List, Option, Result, Ok, Err, IfOk, IsTrue}
use Rattle.rc_base.specs.Sinks.{SinkState}
use Rattle.rc_base.specs.Sources.{SourceState}
use Rattle.rc_base.specs.declared.ends.Limits.{Limits}
use Rattle.rc_compile.specs.Answers.{IsOnlyProgram, IsOnlyRefusal}
use Rattle.rc_compile.specs.declared.refusal.Refusal.{Refusal}
use Rattle.rc_core.specs.Meaning.{meaning}
use Rattle.rc_core.specs.Programs.{Program}
use Rattle.rc_answers.specs.Answers.{IsRun}
use Rattle.rc_answers.specs.declared.answer.Done.{Done}
use Rattle.rc_answers.specs.declared.answer.Done.TheVariants.{Ended, Refused}
use Rattle.rc_answers.specs.declared.answer.Fault.{Fault}
use Rattle.rc_answers.specs.declared.answer.Fault.TheVariants.{Memory}
use Rattle.rc_outcomes.specs.Footprint.{TellsWhatIsUsed, footprint}
use Rattle.rc_outcomes.specs.MayAnswer.{MayAnswer}
use Rattle.rc_outcomes.specs.Outcome.{Leaving, Outcome, Runs, Untouched, came}
use Rattle.rc_outcomes.specs.Outside.{Outside}
use Rattle.rc_outcomes.specs.Runs.{Ran}
use Rattle.rc_requests.specs.Request.{Request}
use Rattle.rc_store.specs.Kept.{KeptStore}
use Rattle.rc_files.specs.Texts.{TextOf}

-- the run of a program ends
abbrev pub IsEnd : Done → Type 0
IsEnd (Ended end) = Unit {0}
IsEnd _ = ⊥

-- what the run of a program comes to on the rest of the input
abbrev pub comes_of : Leaving → Program → Limits → List ℕ → Outcome
comes_of leaves program limits rest = came (meaning program rest limits) (leaves program rest limits)

-- a program was run and the output flushed, but behind a byte that couldn't be written
pub record RanProgram (leaves : Leaving) (Told : Type 0) (program : Program) (limits : Limits) (input input' : SourceState) (out out' : SinkState) (heap' : KeptStore) (result : Result Done Fault) : Type 0 where
  pub ran : Ran Told (comes_of leaves program limits) input input' out out' heap' result
  pub ends : IfOk result IsEnd

-- a text is a program that was run, or is refused
pub data RanText (leaves : Leaving) (Told : Type 0) (text : List ℕ) (limits : Limits) (input input' : SourceState) (out out' : SinkState) (heap heap' : KeptStore) : Result Done Fault → Type 0 where
  ran : (program : Program) (result : Result Done Fault) → IsOnlyProgram text program → RanProgram leaves Told program limits input input' out out' heap' result → RanText leaves Told text limits input input' out out' heap heap' result
  refused : (refusal : Refusal) → IsOnlyRefusal text refusal → Untouched input input' out out' → heap' ≡ heap → RanText leaves Told text limits input input' out out' heap heap' (Ok (Refused refusal))
  no_memory : Untouched input input' out out' → heap' ≡ heap → RanText leaves Told text limits input input' out out' heap heap' (Err Memory)

-- the rows of the tables say of a request that it runs the program of the text that is made of this file's bytes
pub record RunsTextOf (request : Option Request) (name : List ℕ) (text_of : List ℕ → List ℕ) (limits : Limits) (leaves : Leaving) (Told : SourceState → Type 0) : Type 0 where
  pub text : TextOf request name text_of (Runs leaves limits)
  pub takes : IsTrue (footprint request).takes_input
  pub writes : IsTrue (footprint request).writes_out
  pub told : (before : Outside) (done : Done) → IsRun done → TellsWhatIsUsed (footprint request) done before → Told before.input
  pub may_end : (done : Done) → IsEnd done → MayAnswer request done
