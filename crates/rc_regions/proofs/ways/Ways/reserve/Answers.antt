use Rattle.std.proofs.Common.{◌<◌, arith, rules}
use Rattle.rc_regions.proofs.Linking.{within_power}
use Rattle.rc_regions.proofs.ways.Ways.reserve.Goals as goal

pub lengthen-requires : goal.lengthen-requires
lengthen-requires c = within_power c.loop-reach.power 32 (omega (arith, c.loop-reach-test.true, c.loop-reach.invariant.doubled, c.ranges.depth.fits))

pub overflow_add-power : goal.overflow_add-power
overflow_add-power c =
    let low : c.loop-reach.power < 32 = within_power c.loop-reach.power 32 (omega (arith, c.loop-reach-test.true, c.loop-reach.invariant.doubled, c.ranges.depth.fits)) in
    search (rules, low)

pub returns-clause-places : goal.returns-clause-places
returns-clause-places c = λ k deep. c.loop-reach.invariant.places k (within_power k c.loop-reach.power (omega (arith, deep, c.loop-reach-test.false, c.loop-reach.invariant.doubled)))
