-- What the error stream took of an answer.
use Rattle.std.specs.Prelude.{◌≡◌, ◌≤◌, [], Result, Ok, Err}
use Rattle.rc_base.specs.Causes.{Rose}
use Rattle.rc_base.specs.Sinks.{IsFlushed, SinkState, Took, TookFront}
use Rattle.rc_answers.specs.Lines.{done_line, fault_line}
use Rattle.rc_answers.specs.Answers.{HasLine}
use Rattle.rc_answers.specs.declared.answer.Done.{Done}
use Rattle.rc_answers.specs.declared.answer.Fault.{Fault}
use Rattle.rc_answers.specs.declared.answer.Fault.TheVariants.{ErrFault}

-- what was done has its whole line, flushed; where it has none, the stream is as it was
pub record ToldDone (done : Done) (err err' : SinkState) : Type 0 where
  pub whole : Took (done_line done) err err'
  pub flushed : HasLine done → IsFlushed err'
  pub silent : done_line done ≡ [] → err' ≡ err
  pub count : err'.faults ≡ err.faults

-- a fault has a front of its line, and the whole of it, flushed, where the stream's count did not rise
pub record ToldFault (fault : Fault) (err err' : SinkState) : Type 0 where
  pub front : TookFront (fault_line fault) err err'
  pub whole : ¬ Rose err.faults err'.faults → Took (fault_line fault) err err'
  pub flushed : ¬ Rose err.faults err'.faults → IsFlushed err'
  pub later : err.faults ≤ err'.faults

-- where the stream failed, it has a front of the line of what was done
pub record Untold (done : Done) (err err' : SinkState) : Type 0 where
  pub front : TookFront (done_line done) err err'
  pub has_line : HasLine done
  pub rose : Rose err.faults err'.faults
  pub later : err.faults ≤ err'.faults

-- an answer before it is told, and what is answered then
abbrev pub Tells : Result Done Fault → SinkState → SinkState → Result Done Fault → Type 0
Tells (Ok done) err err' (Ok done') = (done' ≡ done) × ToldDone done err err'
Tells (Ok done) err err' (Err fault) = (fault ≡ ErrFault) × Untold done err err'
Tells (Err fault) err err' (Ok done) = ⊥
Tells (Err fault) err err' (Err fault') = (fault' ≡ fault) × ToldFault fault err err'
