-- The answers of the run of a program's image.
use Rattle.std.specs.Prelude.{◌≡◌, Result, Ok, Err}
use Rattle.rc_answers.specs.declared.answer.Done.{Done}
use Rattle.rc_answers.specs.declared.answer.Done.TheVariants.{Ended}
use Rattle.rc_answers.specs.declared.answer.Fault.{Fault}
use Rattle.rc_answers.specs.declared.answer.Fault.TheVariants.{Memory}

-- an end and a fault stay what they are, and every other answer becomes want of memory
abbrev pub Ends : Result Done Fault → Result Done Fault → Type 0
Ends (Ok (Ended end)) answer = answer ≡ Ok (Ended end)
Ends (Ok done) answer = answer ≡ Err Memory
Ends (Err fault) answer = answer ≡ Err fault
