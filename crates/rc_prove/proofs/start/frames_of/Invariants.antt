use Rattle.rc_prove.specs.Starting.{AreFull}
use Rattle.rc_prove.proofs.start.frames_of.Given as goal

abbrev pub invariant-loop-target : goal.invariant-loop-target
invariant-loop-target l = AreFull l.counts.locals l.counts.variables l._target l.all.items
