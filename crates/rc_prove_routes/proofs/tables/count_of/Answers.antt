use Rattle.std.proofs.Common.{refl, sym, arith}
use Rattle.rc_prove_routes.proofs.Ranking.{count_next, few_next, none_true}
use Rattle.rc_prove_routes.proofs.tables.count_of.Goals as goal

pub loop-at-init : goal.loop-at-init
loop-at-init c = record { count = sym (none_true c.args.targets.now); few = omega arith }

pub loop-at-preserved : goal.loop-at-preserved
loop-at-preserved c = record {
  count = count_next c.args.targets.now c.loop-at.at c.loop-at.count c.count_on-more.result _ refl c.loop-at.invariant.count c.count_on-more.ensures;
  few = few_next c.loop-at.at c.loop-at.count c.count_on-more.result _ c.loop-at.invariant.few c.count_on-more.ensures;
}
