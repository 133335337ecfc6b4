-- The run of a program comes to an end.
use Rattle.std.proofs.Common.{ℕ, List, []}
use Rattle.rc_base.specs.declared.ends.End.{End}
use Rattle.rc_base.specs.declared.ends.Limits.{Limits}
use Rattle.rc_compile.specs.Answers.{IsOnlyProgram}
use Rattle.rc_compile.proofs.InPlace.{accepted_in_place}
use Rattle.rc_core.specs.Meaning.{meaning}
use Rattle.rc_core.specs.Programs.{Program}
use Rattle.rc_safety.proofs.Never.{never_touches_deleted}
use Rattle.rc_outcomes.proofs.Ways.{an_end}
use Rattle.rc_driver.specs.Soaking.{EndsSo}

pub comes_to_an_end : (text : List ℕ) (program : Program) (limits : Limits) → IsOnlyProgram text program → (end : End) × EndsSo program limits end
comes_to_an_end text program limits only = let e = an_end (meaning program [] limits).end (never_touches_deleted program [] limits (accepted_in_place text program only.accepted)) in (e.0, record { ends = e.1 })
