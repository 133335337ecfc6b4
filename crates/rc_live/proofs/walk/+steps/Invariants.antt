use Rattle.std.proofs.Common.{ℕ, Bool, List, drop}
use Rattle.rc_core.specs.Types.{Ty}
use Rattle.rc_rlang.specs.Shapes.{steps_of}
use Rattle.rc_live.specs.Rows.{Shows}
use Rattle.rc_live.specs.Walking.{structs_in, Serves, StepsDone}
use Rattle.rc_live.proofs.walk.+steps.Given as goal

abbrev pub invariant-steps-loop-i : goal.invariant-steps-loop-i
invariant-steps-loop-i l = (types : List Ty) (live : ℕ → Bool) → Serves l.context types → Shows l.context.names.now l.fn.live live →
    StepsDone l.context types (steps_of (structs_in l.context.parts.now) (drop l.i l.steps)) live l.row l.fn.walk l.walk
