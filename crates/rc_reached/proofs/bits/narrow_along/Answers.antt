use Rattle.std.proofs.Common.{rules, ◌≡◌, length, arith}
use Rattle.rc_reached.proofs.Narrowing.{along_none, along_more, along_done, half_low}
use Rattle.rc_reached.proofs.bits.narrow_along.Goals as goal

pub loop-left-init : goal.loop-left-init
loop-left-init c = along_none c.args.words.now c.args.index c.args.reach c.requires.some c.requires.inside

pub overflow_sub-reach : goal.overflow_sub-reach
overflow_sub-reach c = half_low c.args.words.now c.loop-left.words c.args.index c.args.reach c.loop-left.reach c.loop-left.left c.loop-left.invariant

pub narrow-requires-clause-room : goal.narrow-requires-clause-room
narrow-requires-clause-room c =
    let long : length c.loop-left.words ≡ length c.args.words.now = search rules in
    omega (arith, long, c.requires.room, c.loop-left.invariant.low)

pub narrow-requires-clause-small : goal.narrow-requires-clause-small
narrow-requires-clause-small c =
    let half = half_low c.args.words.now c.loop-left.words c.args.index c.args.reach c.loop-left.reach c.loop-left.left c.loop-left.invariant in
    omega (arith, half, c.requires.small, c.loop-left.invariant.low)

pub loop-left-preserved : goal.loop-left-preserved
loop-left-preserved c =
    along_more c.args.words.now c.loop-left.words c.args.index c.args.reach c.loop-left.reach c.loop-left.left c.loop-left.invariant c.narrow.new.words c.loop-left-test.true c.narrow.ensures

pub returns-clause-rest : goal.returns-clause-rest
returns-clause-rest c = (along_done c.args.words.now c.loop-left.words c.args.index c.args.reach c.loop-left.reach c.loop-left.left c.loop-left.invariant c.requires.inside c.loop-left-test.false).0

pub returns-clause-along : goal.returns-clause-along
returns-clause-along c = (along_done c.args.words.now c.loop-left.words c.args.index c.args.reach c.loop-left.reach c.loop-left.left c.loop-left.invariant c.requires.inside c.loop-left-test.false).1
