use Rattle.std.proofs.Common.{◌∙◌, sym, subst}
use Rattle.std.specs.Prelude.{OnOk}
use Rattle.rc_graph.specs.Nodes.{node_of}
use Rattle.rc_edges.specs.Reading.{Loses}
use Rattle.rc_passing.specs.Leading.{LeadsOn, MayLead, NodeLeads}
use Rattle.rc_infer.proofs.Places.{if_ok, own_points, row_lost}
use Rattle.rc_infer.proofs.steps.lead_from.Goals as goal

pub lead-requires-clause-may : goal.lead-requires-clause-may
lead-requires-clause-may c =
    let graph = c.args.graph.now in
    let facts = c.args.facts.now in
    subst (λ xs. MayLead graph.heads.items xs graph.result (node_of c.args.node.now) c.as_mut_slice-sets.result.now) (sym c.as_slice.ensures.value)
    (subst (MayLead graph.heads.items facts.exits.items graph.result (node_of c.args.node.now)) (own_points facts c.args.function c.index_mut.result.now c.requires.ready.points c.index_mut.ensures.value ∙ sym c.as_mut_slice-sets.ensures.value) c.requires.may)

pub returns-clause-led : goal.returns-clause-led
returns-clause-led c =
    let graph = c.args.graph.now in
    subst (λ xs. OnOk c.lead.result (LeadsOn graph.heads.items xs graph.result (node_of c.args.node.now) c.args.work.now c.lead.new.work)) c.as_slice.ensures.value c.lead.ensures.led

pub returns-clause-lost : goal.returns-clause-lost
returns-clause-lost c =
    let graph = c.args.graph.now in
    let facts = c.args.facts.now in
    if_ok c.lead.result _ _ (λ lost l. row_lost facts c.args.function c.index_mut.result.now lost c.as_mut_slice-sets.result.now c.lead.new.sets (NodeLeads graph.heads.items facts.exits.items graph.result (node_of c.args.node.now) c.args.work.now) c.requires.ready.points c.index_mut.ensures.value c.as_mut_slice-sets.ensures.value
    (subst (λ xs. Loses lost c.as_mut_slice-sets.result.now c.lead.new.sets (NodeLeads graph.heads.items xs graph.result (node_of c.args.node.now) c.args.work.now)) c.as_slice.ensures.value l)) c.lead.ensures.lost
