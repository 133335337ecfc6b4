use Rattle.std.proofs.Common.{sym, subst}
use Rattle.rc_prove.specs.Starting.{IsFull}
use Rattle.rc_prove.proofs.Anew.{full_shut}
use Rattle.rc_prove.proofs.Starts.{full_more}
use Rattle.rc_prove.proofs.start.frames_of.Goals as goal

pub new-requires : goal.new-requires
new-requires c = full_shut c.args.counts.locals c.args.counts.variables c.in_ok-set.set c.requires.locals c.in_ok-set.ensures

pub loop-target-preserved : goal.loop-target-preserved
loop-target-preserved c = full_more c.args.counts.locals c.args.counts.variables c.loop-target._target c.loop-target.all.items c.push.new.self.items c.new.result c.in_ok-push.ensures.items (subst (IsFull c.args.counts.locals c.args.counts.variables) (sym c.new.ensures) c.in_ok-set.ensures) c.loop-target.invariant
