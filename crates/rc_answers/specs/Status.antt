-- The status that an answer ends the program with.
use Rattle.std.specs.Prelude.{ℕ, Result, Ok, Err}
use Rattle.rc_base.specs.declared.ends.End.TheVariants.{Exit, Trapped, Spent}
use Rattle.rc_core.specs.Numbers.{byte_of}
use Rattle.rc_answers.specs.declared.answer.Done.{Done}
use Rattle.rc_answers.specs.declared.answer.Done.TheVariants.{Ended, StaleImage, Refused, ImageRefused, UnitRefused, LinkRefused, Wrote, Reported, Usage}
use Rattle.rc_answers.specs.declared.answer.Fault.{Fault}
use Rattle.rc_answers.specs.declared.answer.Fault.TheVariants.{FileFault, ReadFault, WriteFault, ErrFault, Memory}

-- an exit value counts modulo 256
abbrev pub status : Result Done Fault → ℕ
status (Ok (Ended (Exit value))) = byte_of value
status (Ok (Ended (Trapped trap line))) = 120
status (Ok (Ended Spent)) = 121
status (Ok (Refused refusal)) = 122
status (Ok (ImageRefused refusal)) = 122
status (Ok (UnitRefused file refusal)) = 122
status (Ok (LinkRefused refusal)) = 122
status (Ok Usage) = 123
status (Err FileFault) = 124
status (Err ReadFault) = 124
status (Err WriteFault) = 124
status (Err ErrFault) = 124
status (Err Memory) = 125
status (Ok (StaleImage line)) = 126
status (Ok Wrote) = 0
status (Ok Reported) = 0
