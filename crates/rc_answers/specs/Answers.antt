-- Of which kind an answer is.
use Rattle.std.specs.Prelude.{◌≡◌, [], Result, Ok, Err}
use Rattle.rc_answers.specs.Lines.{done_line}
use Rattle.rc_answers.specs.declared.answer.Done.{Done}
use Rattle.rc_answers.specs.declared.answer.Done.TheVariants.{Ended, StaleImage, Refused, ImageRefused, UnitRefused, LinkRefused, Wrote, Reported, Usage}
use Rattle.rc_answers.specs.declared.answer.Fault.{Fault}
use Rattle.rc_answers.specs.declared.image_refusal.ImageRefusal.{ImageRefusal}
use Rattle.rc_answers.specs.declared.image_refusal.ImageRefusal.TheVariants.{Magic, Version, Short, Extra, Field, Target, Height, Kind, Number, Facts, Pins, Wide}
use Rattle.rc_answers.specs.declared.answer.Fault.TheVariants.{FileFault, ReadFault, WriteFault, Memory}
use Rattle.rc_compile.specs.declared.refusal.Refusal.{Refusal}
use Rattle.rc_compile.specs.declared.refusal.Refusal.TheVariants.{Points, Variables}

-- bytes are refused as an image before anything is asked of its code
abbrev pub IsOfBytes : ImageRefusal → Type 0
IsOfBytes Magic = Unit {0}
IsOfBytes Version = Unit {0}
IsOfBytes Short = Unit {0}
IsOfBytes Extra = Unit {0}
IsOfBytes (Field offset) = Unit {0}
IsOfBytes _ = ⊥

-- an image is refused for a rule of its code
abbrev pub IsOfCode : ImageRefusal → Type 0
IsOfCode (Target function instruction) = Unit {0}
IsOfCode (Height function instruction) = Unit {0}
IsOfCode (Kind function instruction) = Unit {0}
IsOfCode (Number function instruction) = Unit {0}
IsOfCode _ = ⊥

-- an image can't be sealed: its code keeps the rules, but doesn't pin what is used, or has too many variables
abbrev pub IsOfPins : ImageRefusal → Type 0
IsOfPins (Pins function instruction) = Unit {0}
IsOfPins (Wide function) = Unit {0}
IsOfPins _ = ⊥

-- what a sealed image carries doesn't prove it
abbrev pub IsOfProofs : ImageRefusal → Type 0
IsOfProofs (Facts function instruction) = Unit {0}
IsOfProofs (Pins function instruction) = Unit {0}
IsOfProofs (Wide function) = Unit {0}
IsOfProofs _ = ⊥

-- a program is refused for what it needs too much of
abbrev pub IsOfCounts : Refusal → Type 0
IsOfCounts (Variables line) = Unit {0}
IsOfCounts Points = Unit {0}
IsOfCounts _ = ⊥

-- the answers behind which the output was flushed
abbrev pub WritesOut : Done → Type 0
WritesOut (Ended end) = Unit {0}
WritesOut (StaleImage line) = Unit {0}
WritesOut Reported = Unit {0}
WritesOut _ = ⊥

-- the answers of a run
abbrev pub IsRun : Done → Type 0
IsRun (Ended end) = Unit {0}
IsRun (StaleImage line) = Unit {0}
IsRun _ = ⊥

-- what was asked for is refused
abbrev pub IsRefusal : Done → Type 0
IsRefusal (Ended end) = ⊥
IsRefusal (StaleImage line) = ⊥
IsRefusal (Refused refusal) = Unit {0}
IsRefusal (ImageRefused refusal) = Unit {0}
IsRefusal (UnitRefused file refusal) = Unit {0}
IsRefusal (LinkRefused refusal) = Unit {0}
IsRefusal Wrote = ⊥
IsRefusal Reported = ⊥
IsRefusal Usage = ⊥

-- the answers that touch neither input nor output, nor the heap
abbrev pub IsQuiet : Done → Type 0
IsQuiet (Ended end) = ⊥
IsQuiet (StaleImage line) = ⊥
IsQuiet (Refused refusal) = Unit {0}
IsQuiet (ImageRefused refusal) = Unit {0}
IsQuiet (UnitRefused file refusal) = Unit {0}
IsQuiet (LinkRefused refusal) = Unit {0}
IsQuiet Wrote = Unit {0}
IsQuiet Reported = ⊥
IsQuiet Usage = Unit {0}

abbrev pub HasLine : Done → Type 0
HasLine done = ¬ (done_line done ≡ [])

-- the answers behind which a name may hold other bytes: for want of memory a shelf may fail in the middle of storing them
abbrev pub MayStore : Result Done Fault → Type 0
MayStore (Ok Wrote) = Unit {0}
MayStore (Err FileFault) = Unit {0}
MayStore (Err Memory) = Unit {0}
MayStore _ = ⊥

-- the answers behind which the count of the output may be another: a byte or a flush failed, also one behind a run that was cut
-- short by something else
abbrev pub MayFailOut : Result Done Fault → Type 0
MayFailOut (Err WriteFault) = Unit {0}
MayFailOut (Err ReadFault) = Unit {0}
MayFailOut (Err Memory) = Unit {0}
MayFailOut _ = ⊥
