-- What the top call promises of the words, of what it finds outside and of what it leaves.
use Rattle.std.specs.Prelude.{◌≡◌, ◌⊎◌, List, map, Option, None, Result, Ok, Err, IfErr, IfOk, IsErrOf, IsOk, IsTrue, String, string_bytes}
use Rattle.std.specs.declared.alloc.Global.{Global}
use Rattle.rc_base.specs.Causes.{Rose}
use Rattle.rc_base.specs.Sinks.{IsFlushed, TookFront}
use Rattle.rc_answers.specs.Answers.{IsQuiet, MayStore, WritesOut}
use Rattle.rc_outcomes.specs.MayAnswer.{MayAnswer}
use Rattle.rc_outcomes.specs.FaultCauses.{CountsStay, ErrorCause, FileCause, ReadCause, WriteCause}
use Rattle.rc_outcomes.specs.Footprint.{Alone, IsMissing, UsesFiles, footprint}
use Rattle.rc_answers.specs.Lines.{done_line}
use Rattle.rc_outcomes.specs.Outcome.{Comes, Follows, Outcome, Untouched, Settles}
use Rattle.rc_outcomes.specs.Outside.{NoCountFalls, NoFault, NoneRose, Outside, TellsAsBefore}
use Rattle.rc_outcomes.specs.StoredPrograms.{StoresProgram}
use Rattle.rc_requests.specs.Request.{Request, request_of}
use Rattle.rc_answers.specs.Telling.{ToldDone, ToldFault, Untold}
use Rattle.rc_answers.specs.declared.answer.Done.{Done}
use Rattle.rc_answers.specs.declared.answer.Done.TheVariants.{Usage, Wrote}
use Rattle.rc_answers.specs.declared.answer.Fault.{Fault}
use Rattle.rc_answers.specs.declared.answer.Fault.TheVariants.{FileFault, ReadFault, WriteFault, ErrFault, Memory}

-- what the words ask
abbrev pub asked : List (String Global) → Option Request
asked words = request_of (map string_bytes words)

-- this was done, and a failure of the error stream stands in its place
pub record Replaced (request : Option Request) (before after : Outside) (done : Done) : Type 0 where
  pub may_answer : MayAnswer request done
  pub untold : Untold done before.err after.err
  pub is : (outcome : Outcome) → Comes request before outcome → done ≡ outcome.done
  pub quiet : IsQuiet done → Untouched before.input after.input before.out after.out
  pub spared : IsQuiet done → after.heap ≡ before.heap
  pub flushed : WritesOut done → IsFlushed after.out

-- what the error stream took: the line of what was done; with a fault of its own a front of the line that the fault replaces; and else the fault's
abbrev pub Heard : Option Request → Outside → Outside → Result Done Fault → Type 0
Heard request before after (Ok done) = ToldDone done before.err after.err
Heard request before after (Err ErrFault) = (done : Done) × Replaced request before after done
Heard request before after (Err FileFault) = ToldFault FileFault before.err after.err
Heard request before after (Err ReadFault) = ToldFault ReadFault before.err after.err
Heard request before after (Err WriteFault) = ToldFault WriteFault before.err after.err
Heard request before after (Err Memory) = ToldFault Memory before.err after.err

-- words that ask nothing do nothing, and a front of the usage line is told
pub record NothingAsked (before after : Outside) (result : Result Done Fault) : Type 0 where
  pub untouched : Untouched before.input after.input before.out after.out
  pub line : TookFront (done_line Usage) before.err after.err
  pub answer : (result ≡ Ok Usage) ⊎ (result ≡ Err ErrFault)

-- a request is served: all that the top call promises, whatever it answers
pub record Serves (request : Option Request) (before after : Outside) (result : Result Done Fault) : Type 0 where
  -- the answer and the acts are those of the outcome, or a front of its acts was done and a fault stands at its place
  pub follows : (outcome : Outcome) → Comes request before outcome → Follows outcome before after result
  -- an answer that is no fault comes only where there is an outcome, and a refusal only where it is that of the outcome
  pub settled : (UsesFiles (footprint request) → IsTrue before.files.tells) → IfOk result (Settles request before)
  -- where no count rose, the answer is that of the outcome, or want of memory
  pub complete : NoneRose before after → (outcome : Outcome) → Comes request before outcome → (result ≡ Ok outcome.done) ⊎ (result ≡ Err Memory)
  -- and a fault is want of memory, where each name that is read is there
  pub only_memory : NoneRose before after → ¬ IsMissing (footprint request) before → IfErr result (λ fault. fault ≡ Memory)
  -- where a name that is read isn't there, nothing is done
  pub missing : IsMissing (footprint request) before → Untouched before.input after.input before.out after.out × (after.files.names ≡ before.files.names) × (after.heap ≡ before.heap) × ((result ≡ Err FileFault) ⊎ (result ≡ Err Memory))
  -- the answer is one of those that the request may have
  pub may_answer : IfOk result (MayAnswer request)
  -- what the request doesn't use is as it was
  pub alone : Alone (footprint request) before after
  -- no name holds other bytes behind a refusal, an error of the error stream, or an answer that says nothing of storing
  pub stored : IsTrue before.files.tells → ¬ MayStore result → after.files.names ≡ before.files.names
  -- and what was compiled is, under the second name, the image of each program that the text is: of the one that it is
  pub compiled : IsTrue before.files.tells → result ≡ Ok Wrote → StoresProgram request before.files.names after.files.names
  -- a refusal takes no byte and writes none
  pub quiet : IfOk result (λ done. IsQuiet done → Untouched before.input after.input before.out after.out)
  -- and leaves the heap as it was
  pub spared : IfOk result (λ done. IsQuiet done → after.heap ≡ before.heap)
  -- what was written is flushed
  pub flushed : IfOk result (λ done. WritesOut done → IsFlushed after.out)
  -- what the error stream took
  pub heard : Heard request before after result
  -- words that ask nothing have the usage as their answer, where the error stream doesn't fail
  pub usage : request ≡ None → ¬ Rose before.err.faults after.err.faults → result ≡ Ok Usage
  pub nothing_asked : request ≡ None → NothingAsked before after result
  -- each object tells what it told before
  pub tells : TellsAsBefore before after
  -- no count falls, each is as before where the answer is no fault, and each other one stands for its fault
  pub no_count_falls : NoCountFalls before after
  pub no_fault : IsOk result → NoFault before after
  pub counts_stay : CountsStay before after result
  -- when each fault comes
  pub file_fault : IsErrOf result FileFault → FileCause request before after
  pub read_fault : IsErrOf result ReadFault → ReadCause request before after
  pub write_fault : IsErrOf result WriteFault → WriteCause request before after
  pub error_fault : IsErrOf result ErrFault → ErrorCause request before after
