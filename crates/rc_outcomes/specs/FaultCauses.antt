-- When each fault comes, and what the rise of a count comes to.
use Rattle.std.specs.Prelude.{◌≡◌, ◌⊎◌, Option, Result, IsErrOf, IsOk, IsTrue}
use Rattle.rc_base.specs.Causes.{Rose}
use Rattle.rc_answers.specs.Answers.{HasLine, IsRun, MayFailOut, WritesOut}
use Rattle.rc_outcomes.specs.Footprint.{IsMissing, UsesFiles, footprint}
use Rattle.rc_outcomes.specs.Outcome.{Comes, Outcome}
use Rattle.rc_outcomes.specs.Outside.{Outside}
use Rattle.rc_requests.specs.Request.{Request}
use Rattle.rc_answers.specs.declared.answer.Done.{Done}
use Rattle.rc_answers.specs.declared.answer.Fault.{Fault}
use Rattle.rc_answers.specs.declared.answer.Fault.TheVariants.{FileFault, ReadFault}

-- the files fail only for a request that uses them, where their count rose or a name that it reads is not there
pub record FileCause (request : Option Request) (before after : Outside) : Type 0 where
  pub uses : UsesFiles (footprint request)
  pub cause : Rose before.files.faults after.files.faults ⊎ IsMissing (footprint request) before

-- the input fails only for a request that takes bytes of it, where its count rose, in a run
pub record ReadCause (request : Option Request) (before after : Outside) : Type 0 where
  pub takes : IsTrue (footprint request).takes_input
  pub rose : Rose before.input.faults after.input.faults
  pub in_run : (outcome : Outcome) → Comes request before outcome → IsRun outcome.done

-- the output fails only for a request that writes to it, where its count rose, on the way to an answer behind which it is flushed
pub record WriteCause (request : Option Request) (before after : Outside) : Type 0 where
  pub writes : IsTrue (footprint request).writes_out
  pub rose : Rose before.out.faults after.out.faults
  pub writing : (outcome : Outcome) → Comes request before outcome → WritesOut outcome.done

-- the error stream fails only where its count rose, in place of an answer that has a line
pub record ErrorCause (request : Option Request) (before after : Outside) : Type 0 where
  pub rose : Rose before.err.faults after.err.faults
  pub has_line : (outcome : Outcome) → Comes request before outcome → HasLine outcome.done

-- a count is another after the call only with a fault: that of the files with theirs, that of the input with its own, that of the error
-- stream with any. That of the output is another with its own, and may be with a read fault or want of memory too: by a flush that failed
-- behind these, or, before want of memory, by a byte
pub record CountsStay (before after : Outside) (result : Result Done Fault) : Type 0 where
  pub files : ¬ IsErrOf result FileFault → after.files.faults ≡ before.files.faults
  pub input : ¬ IsErrOf result ReadFault → after.input.faults ≡ before.input.faults
  pub out : ¬ MayFailOut result → after.out.faults ≡ before.out.faults
  pub err : IsOk result → after.err.faults ≡ before.err.faults
