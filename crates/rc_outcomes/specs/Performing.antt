-- What a request does, but for telling its answer.
use Rattle.std.specs.Prelude.{◌≡◌, ◌⊎◌, Option, None, Result, Ok, Err, IfOk, IsErrOf, IsTrue}
use Rattle.rc_base.specs.Sinks.{IsFlushed}
use Rattle.rc_answers.specs.Answers.{IsQuiet, MayStore, WritesOut}
use Rattle.rc_outcomes.specs.MayAnswer.{MayAnswer}
use Rattle.rc_outcomes.specs.FaultCauses.{CountsStay, FileCause, ReadCause, WriteCause}
use Rattle.rc_outcomes.specs.Footprint.{Alone, IsMissing, UsesFiles, footprint}
use Rattle.rc_outcomes.specs.Outcome.{Comes, Follows, Outcome, Untouched, Settles}
use Rattle.rc_outcomes.specs.Outside.{NoCountFalls, Outside, TellsAsBefore}
use Rattle.rc_outcomes.specs.StoredPrograms.{StoresProgram}
use Rattle.rc_requests.specs.Request.{Request}
use Rattle.rc_answers.specs.declared.answer.Done.{Done}
use Rattle.rc_answers.specs.declared.answer.Done.TheVariants.{Usage, Wrote}
use Rattle.rc_answers.specs.declared.answer.Fault.{Fault}
use Rattle.rc_answers.specs.declared.answer.Fault.TheVariants.{FileFault, ReadFault, WriteFault, ErrFault, Memory}

pub record Performs (request : Option Request) (before after : Outside) (result : Result Done Fault) : Type 0 where
  pub follows : (outcome : Outcome) → Comes request before outcome → Follows outcome before after result
  pub settled : (UsesFiles (footprint request) → IsTrue before.files.tells) → IfOk result (Settles request before)
  pub missing : IsMissing (footprint request) before → Untouched before.input after.input before.out after.out × (after.files.names ≡ before.files.names) × (after.heap ≡ before.heap) × ((result ≡ Err FileFault) ⊎ (result ≡ Err Memory))
  pub may_answer : IfOk result (MayAnswer request)
  pub alone : Alone (footprint request) before after
  pub stored : IsTrue before.files.tells → ¬ MayStore result → after.files.names ≡ before.files.names
  pub compiled : IsTrue before.files.tells → result ≡ Ok Wrote → StoresProgram request before.files.names after.files.names
  pub quiet : IfOk result (λ done. IsQuiet done → Untouched before.input after.input before.out after.out)
  pub spared : IfOk result (λ done. IsQuiet done → after.heap ≡ before.heap)
  pub flushed : IfOk result (λ done. WritesOut done → IsFlushed after.out)
  pub tells : TellsAsBefore before after
  pub no_count_falls : NoCountFalls before after
  pub counts_stay : CountsStay before after result
  pub file_fault : IsErrOf result FileFault → FileCause request before after
  pub read_fault : IsErrOf result ReadFault → ReadCause request before after
  pub write_fault : IsErrOf result WriteFault → WriteCause request before after
  pub no_error : ¬ IsErrOf result ErrFault
  pub usage : request ≡ None → result ≡ Ok Usage
