-- Running a program node by node.
use Rattle.std.specs.Prelude.{Result, Ok, Err, IsTrue}
use Rattle.rc_base.specs.Sources.{SourceState}
use Rattle.rc_base.specs.declared.ends.End.{End}
use Rattle.rc_base.specs.declared.ends.RunFault.{RunFault}
use Rattle.rc_answers.specs.declared.answer.Done.{Done}
use Rattle.rc_answers.specs.declared.answer.Done.TheVariants.{Ended}

abbrev pub as_done : Result End RunFault → Result Done RunFault
as_done (Ok end) = Ok (Ended end)
as_done (Err fault) = Err fault

-- the input tells what it has
abbrev pub TellsInput : SourceState → Type 0
TellsInput input = IsTrue input.tells
