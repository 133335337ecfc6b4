-- Which answers a request may have.
use Rattle.std.specs.Prelude.{◌≡◌, ◌⊎◌, Option, Some, None}
use Rattle.rc_answers.specs.Answers.{IsOfBytes, IsOfCode, IsOfCounts, IsOfPins, IsOfProofs}
use Rattle.rc_answers.specs.declared.answer.Done.{Done}
use Rattle.rc_answers.specs.declared.answer.Done.TheVariants.{Ended, StaleImage, Refused, ImageRefused, UnitRefused, LinkRefused, Wrote, Reported, Usage}
use Rattle.rc_compile.specs.declared.refusal.Refusal.TheVariants.{TooLong}
use Rattle.rc_requests.specs.Request.{Request, Run, Slow, Compile, Exec, Listing, Upgrade, Script, Checks, Soak, Tasks, Link, Seal}

-- a text ends its run or is refused
abbrev pub EndsOrIsRefused : Done → Type 0
EndsOrIsRefused (Ended end) = Unit {0}
EndsOrIsRefused (Refused refusal) = Unit {0}
EndsOrIsRefused _ = ⊥

-- an image ends its run, or its bytes, its code or its proofs are refused
abbrev pub RunsOrIsRefused : Done → Type 0
RunsOrIsRefused (Ended end) = Unit {0}
RunsOrIsRefused (StaleImage line) = Unit {0}
RunsOrIsRefused (ImageRefused refusal) = IsOfBytes refusal ⊎ (IsOfCode refusal ⊎ IsOfProofs refusal)
RunsOrIsRefused _ = ⊥

-- an image is reported on, or the bytes are refused
abbrev pub ReportsOrIsRefused : Done → Type 0
ReportsOrIsRefused Reported = Unit {0}
ReportsOrIsRefused (ImageRefused refusal) = IsOfBytes refusal
ReportsOrIsRefused _ = ⊥

-- an image is stored, or the bytes are refused
abbrev pub WritesOrIsRefused : Done → Type 0
WritesOrIsRefused Wrote = Unit {0}
WritesOrIsRefused (ImageRefused refusal) = IsOfBytes refusal
WritesOrIsRefused _ = ⊥

-- an image is stored with proofs, or its bytes or its code are refused, or it can't be sealed
abbrev pub SealsOrIsRefused : Done → Type 0
SealsOrIsRefused Wrote = Unit {0}
SealsOrIsRefused (ImageRefused refusal) = IsOfBytes refusal ⊎ (IsOfCode refusal ⊎ IsOfPins refusal)
SealsOrIsRefused _ = ⊥

-- a program's image is stored, or the text is refused
abbrev pub StoresOrIsRefused : Done → Type 0
StoresOrIsRefused Wrote = Unit {0}
StoresOrIsRefused (Refused refusal) = Unit {0}
StoresOrIsRefused _ = ⊥

-- a script is run, or is too long
abbrev pub ReportsOrIsTooLong : Done → Type 0
ReportsOrIsTooLong Reported = Unit {0}
ReportsOrIsTooLong (Refused TooLong) = Unit {0}
ReportsOrIsTooLong _ = ⊥

-- a text's program is reported on, or the text is refused
abbrev pub ReportsOrRefusesText : Done → Type 0
ReportsOrRefusesText Reported = Unit {0}
ReportsOrRefusesText (Refused refusal) = Unit {0}
ReportsOrRefusesText _ = ⊥

-- files are linked, or refused: one by itself, never for the counts of a program, or all together, as a program only for these
abbrev pub LinksOrIsRefused : Done → Type 0
LinksOrIsRefused Wrote = Unit {0}
LinksOrIsRefused (UnitRefused number refusal) = ¬ IsOfCounts refusal
LinksOrIsRefused (LinkRefused refusal) = Unit {0}
LinksOrIsRefused (Refused refusal) = IsOfCounts refusal
LinksOrIsRefused _ = ⊥

-- the row of each request; words that ask nothing have the usage alone
abbrev pub MayAnswer : Option Request → Done → Type 0
MayAnswer None done = done ≡ Usage
MayAnswer (Some (Run file limits)) done = EndsOrIsRefused done
MayAnswer (Some (Slow file limits)) done = EndsOrIsRefused done
MayAnswer (Some (Compile from to)) done = StoresOrIsRefused done
MayAnswer (Some (Exec file limits)) done = RunsOrIsRefused done
MayAnswer (Some (Listing file)) done = ReportsOrIsRefused done
MayAnswer (Some (Upgrade from to)) done = WritesOrIsRefused done
MayAnswer (Some (Script file limits)) done = ReportsOrIsTooLong done
MayAnswer (Some (Checks file)) done = ReportsOrRefusesText done
MayAnswer (Some (Soak n)) done = ReportsOrRefusesText done
MayAnswer (Some (Tasks file choices limits)) done = EndsOrIsRefused done
MayAnswer (Some (Link to wanted)) done = LinksOrIsRefused done
MayAnswer (Some (Seal from to)) done = SealsOrIsRefused done
