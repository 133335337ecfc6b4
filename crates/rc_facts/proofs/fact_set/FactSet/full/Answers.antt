use Rattle.rc_facts.proofs.SetLaws.{full_set}
use Rattle.rc_facts.proofs.fact_set.FactSet.full.Goals as goal

pub invariant_of-result : goal.invariant_of-result
invariant_of-result c =
    (full_set c.args.n c.below-all.result c.requires c.below-all.ensures c.in_ok-repeated.field-0.items c.in_ok-repeated-2.field-0.items c.in_ok-repeated.ensures c.in_ok-repeated-2.ensures).0

pub returns-clause-facts : goal.returns-clause-facts
returns-clause-facts c =
    (full_set c.args.n c.below-all.result c.requires c.below-all.ensures c.in_ok-repeated.field-0.items c.in_ok-repeated-2.field-0.items c.in_ok-repeated.ensures c.in_ok-repeated-2.ensures).1
