use Rattle.std.proofs.Common.{arith}
use Rattle.rc_target_sets.proofs.Owning.{more_none, more_one}
use Rattle.rc_target_sets.proofs.target_set.add_all_own.Goals as goal

pub loop-x-init : goal.loop-x-init
loop-x-init c = more_none c.args.set.now

pub loop-x-preserved : goal.loop-x-preserved
loop-x-preserved c = more_one c.loop-x.x c.args.set.now c.loop-x.set c.add_own.new.set (let t = c.loop-x-test.true in let e = c.count-x-end.ensures in omega (arith, t, e)) c.loop-x.invariant c.add_own.ensures.facts c.add_own.ensures.variables
