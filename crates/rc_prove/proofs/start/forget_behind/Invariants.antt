use Rattle.std.proofs.Common.{◌-◌}
use Rattle.rc_prove.specs.Starting.{IsFull}
use Rattle.rc_prove.proofs.start.forget_behind.Given as goal

abbrev pub invariant-loop-gone : goal.invariant-loop-gone
invariant-loop-gone l = IsFull (l.variables - l.gone) l.variables l.set
