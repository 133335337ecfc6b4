use Rattle.std.proofs.Common.{subst, Err}
use Rattle.rc_elab.specs.Counting.{Counts}
use Rattle.rc_compile.specs.Acceptance.{variables, points}
use Rattle.rc_compile.proofs.compiling.too_much.Goals as goal

pub returns-in-Variables : goal.returns-in-Variables
returns-in-Variables c = λ program much. variables c.in-Variables.line (subst (λ f. Counts {T = Unit {0}} program (Err f)) c.in-Variables.is much)

pub returns-in-Points : goal.returns-in-Points
returns-in-Points c = λ program much. points (subst (λ f. Counts {T = Unit {0}} program (Err f)) c.in-Points.is much)
