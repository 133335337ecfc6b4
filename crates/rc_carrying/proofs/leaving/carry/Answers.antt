use Rattle.std.proofs.Common.{sym, ap, subst}
use Rattle.rc_facts.specs.Facts.{holds}
use Rattle.rc_graph.specs.Nodes.{effect_of}
use Rattle.rc_rlang.specs.RegionFlow.{Effect}
use Rattle.rc_carrying.specs.Passing.{CarriesOver}
use Rattle.rc_carrying.proofs.Idle.{ready_own, idle_carries}
use Rattle.rc_carrying.proofs.leaving.carry.Goals as goal

pub drop_gone-requires-clause-own : goal.drop_gone-requires-clause-own
drop_gone-requires-clause-own c = ready_own c.args.set.now.variables c.args.scratch (holds c.args.set.now) c.requires.ready

pub returns-in-Nothing-clause-facts : goal.returns-in-Nothing-clause-facts
returns-in-Nothing-clause-facts c =
    subst (λ (e : Effect). CarriesOver c.args.set.now.variables c.args.scratch c.args.exits.now e c.args.low c.args.top (holds c.args.set.now) (holds c.drop_gone.new.set)) (sym (ap effect_of c.in-Nothing.is))
    (idle_carries c.args.set.now.variables c.args.scratch c.args.low c.args.top c.args.exits.now (holds c.args.set.now) (holds c.drop_gone.new.set) c.requires.ready c.drop_gone.ensures.facts)
