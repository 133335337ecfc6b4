use Rattle.std.proofs.Common.{rules, arith, ◌<◌, length, None}
use Rattle.std.proofs.lemmas.List.Sums.{sum_by_more_le}
use Rattle.rc_store.specs.Stores.{cells_in}
use Rattle.rc_scan.proofs.scan.any_other_names.Goals as goal

pub returns-then-other_names-clause-cost : goal.returns-then-other_names-clause-cost
returns-then-other_names-clause-cost g c =
    let below : c.loop-i.i < length c.args.regions.now = search rules in
    omega (arith, sum_by_more_le cells_in c.args.regions.now c.loop-i.i None below, c.loop-i.invariant.cost, c.other_names.ensures.cost)
