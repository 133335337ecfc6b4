-- Expressions and statements mean the same, with locals that serve.
use Rattle.std.proofs.Common.{◌≤◌, [], ◌++◌, length, arith, length-append}
use Rattle.rc_core.specs.Runs.{Run, Go, Stopped, Ops}
use Rattle.rc_core.specs.Laws.{IfGoes}
use Rattle.rc_rlang.specs.RegionCode.{Routine}
use Rattle.rc_rlang.specs.RegionRuns.{operation_value}
use Rattle.rc_emission.specs.StatementCode.{Slots}
use Rattle.rc_emission.specs.Means.{IsThere, Serves}
use Rattle.rc_emission.specs.Pieces.{ExpressionsMeanTheSame, StatementsMeanTheSame}
use Rattle.rc_emission.specs.Turns.{Turning}
use Rattle.rc_emission.proofs.StepsDo.{steps_do}
use Rattle.rc_emission.proofs.CodesDo.{code_does}

any_goes : {W A : Type 0} (m : Run W A) → IfGoes (λ _ w. Unit {0}) m
any_goes (Go x w) = tt
any_goes (Stopped e w) = tt

module _ {W : Type 0} (ops : Ops W) (f : Routine) (s : Slots) (serves : Serves f s) where
  room : length f.locals ≤ length (f.locals ++ s.types)
  room = let e = length-append f.locals s.types in omega (arith, e)

  pub expressions_mean : ExpressionsMeanTheSame ops f s
  expressions_mean deleting calls again steps live env rest next served agrees t locals w mirrors =
      steps_do ops deleting f.locals s.slot calls again env (length (f.locals ++ s.types)) (IsThere f s) serves.behind (λ h ty there. there) serves.apart
      (λ w. Unit {0}) (λ line op live t h w fine. any_goes (operation_value ops deleting f.locals line op calls live env t h w))
      steps [] [] served live rest next (λ t1 locals1 w1 fine m saved. agrees t1 locals1 w1 m) t locals w tt mirrors tt

  pub statements_mean : Turning ops → StatementsMeanTheSame ops f s
  statements_mean turning deleting calls fine code c k p rest next turns served stands agrees =
      code_does ops turning deleting f.locals s.slot calls fine (length (f.locals ++ s.types)) (IsThere f s) serves.behind (λ h ty there. there) serves.apart room code c served k p rest next turns stands agrees
