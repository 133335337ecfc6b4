use Rattle.std.proofs.Common.{◌∙◌, ◌||◌, arith}
use Rattle.rc_graph.specs.Nodes.{node_of}
use Rattle.rc_boundaries.proofs.Lost.{loses_as, loses_then}
use Rattle.rc_passing.specs.Leading.{EdgeLeads, NodeLeads}
use Rattle.rc_passing.proofs.Leadings.{edge_of, fork_leads, go_is, go_leads, if_ok, left_is, left_on, may_still, read_at, right_is, turned_leads}
use Rattle.rc_passing.proofs.leading.lead.Goals as goal

pub follow-requires-clause-may : goal.follow-requires-clause-may
follow-requires-clause-may c = c.requires.may 0 (edge_of c.in-Go.effect c.in-Go.to) (go_is c.args.node.now c.in-Go.effect c.in-Go.to c.in-Go.is)

pub index-requires : goal.index-requires
index-requires c =
    let w = (c.requires.may 0 (edge_of c.in-Fork.left c.in-Fork.to_left) (left_is c.args.node.now c.in-Fork.left c.in-Fork.right c.in-Fork.to_left c.in-Fork.to_right c.in-Fork.is)).within in
    let k = c.args.setting.now.graph.now.heads.ok.0 in
    omega (arith, w, k)

pub part-requires-clause-may : goal.part-requires-clause-may
part-requires-clause-may c = c.requires.may 0 (edge_of c.in-Fork.left c.in-Fork.to_left) (left_is c.args.node.now c.in-Fork.left c.in-Fork.right c.in-Fork.to_left c.in-Fork.to_right c.in-Fork.is)

pub part-requires-else-index-clause-may : goal.part-requires-else-index-clause-may
part-requires-else-index-clause-may c = c.requires.may 1 (edge_of c.in-Fork.right c.in-Fork.to_right) (right_is c.args.node.now c.in-Fork.left c.in-Fork.right c.in-Fork.to_left c.in-Fork.to_right c.in-Fork.is)

pub follow-requires-then-index-clause-may : goal.follow-requires-then-index-clause-may
follow-requires-then-index-clause-may c = may_still c.args.setting.now.graph.now.heads.items c.args.setting.now.exits.now c.args.setting.now.graph.now.result (edge_of c.in-Fork.right c.in-Fork.to_right) c.args.sets.now c.part.new.sets c.in_ok-away-in-Fork.away
    (EdgeLeads c.args.setting.now.graph.now.heads.items c.args.setting.now.exits.now c.args.setting.now.graph.now.result (edge_of c.in-Fork.left c.in-Fork.to_left) c.args.work.now) c.in_ok-away-in-Fork.ensures
    (c.requires.may 1 (edge_of c.in-Fork.right c.in-Fork.to_right) (right_is c.args.node.now c.in-Fork.left c.in-Fork.right c.in-Fork.to_left c.in-Fork.to_right c.in-Fork.is))

pub returns-in-Go-clause-lost : goal.returns-in-Go-clause-lost
returns-in-Go-clause-lost c = if_ok c.follow.result _ _ (λ lost l.
    loses_as lost c.args.sets.now c.follow.new.sets (EdgeLeads c.args.setting.now.graph.now.heads.items c.args.setting.now.exits.now c.args.setting.now.graph.now.result (edge_of c.in-Go.effect c.in-Go.to) c.args.work.now)
    (NodeLeads c.args.setting.now.graph.now.heads.items c.args.setting.now.exits.now c.args.setting.now.graph.now.result (node_of c.args.node.now) c.args.work.now)
    (go_leads c.args.setting.now.graph.now.heads.items c.args.setting.now.exits.now c.args.setting.now.graph.now.result c.args.work.now c.args.node.now c.in-Go.effect c.in-Go.to c.in-Go.is) l) c.follow.ensures.lost

pub follow-requires-else-index-clause-may : goal.follow-requires-else-index-clause-may
follow-requires-else-index-clause-may c = may_still c.args.setting.now.graph.now.heads.items c.args.setting.now.exits.now c.args.setting.now.graph.now.result (edge_of c.in-Fork.left c.in-Fork.to_left) c.args.sets.now c.part-else-index.new.sets c.in_ok-away-in-Fork-2.away
    (EdgeLeads c.args.setting.now.graph.now.heads.items c.args.setting.now.exits.now c.args.setting.now.graph.now.result (edge_of c.in-Fork.right c.in-Fork.to_right) c.args.work.now) c.in_ok-away-in-Fork-2.ensures
    (c.requires.may 0 (edge_of c.in-Fork.left c.in-Fork.to_left) (left_is c.args.node.now c.in-Fork.left c.in-Fork.right c.in-Fork.to_left c.in-Fork.to_right c.in-Fork.is))

pub returns-in_ok-on-in-Fork-clause-lost : goal.returns-in_ok-on-in-Fork-clause-lost
returns-in_ok-on-in-Fork-clause-lost c =
    let away = EdgeLeads c.args.setting.now.graph.now.heads.items c.args.setting.now.exits.now c.args.setting.now.graph.now.result (edge_of c.in-Fork.left c.in-Fork.to_left) c.args.work.now in
    let on = EdgeLeads c.args.setting.now.graph.now.heads.items c.args.setting.now.exits.now c.args.setting.now.graph.now.result (edge_of c.in-Fork.right c.in-Fork.to_right) c.args.work.now in
    loses_as (c.in_ok-away-in-Fork.away || c.in_ok-on-in-Fork.on) c.args.sets.now c.follow-then-index.new.sets (λ p fact. away p fact × on p fact) (NodeLeads c.args.setting.now.graph.now.heads.items c.args.setting.now.exits.now c.args.setting.now.graph.now.result (node_of c.args.node.now) c.args.work.now)
    (fork_leads c.args.setting.now.graph.now.heads.items c.args.setting.now.exits.now c.args.setting.now.graph.now.result c.args.work.now c.args.node.now c.in-Fork.left c.in-Fork.right c.in-Fork.to_left c.in-Fork.to_right c.in-Fork.is)
    (loses_then c.in_ok-away-in-Fork.away c.in_ok-on-in-Fork.on c.args.sets.now c.part.new.sets c.follow-then-index.new.sets away on c.in_ok-away-in-Fork.ensures c.in_ok-on-in-Fork.ensures.lost)

pub returns-in_ok-on-in-Fork-2-clause-led : goal.returns-in_ok-on-in-Fork-2-clause-led
returns-in_ok-on-in-Fork-2-clause-led c =
    let within = (c.requires.may 0 (edge_of c.in-Fork.left c.in-Fork.to_left) (left_is c.args.node.now c.in-Fork.left c.in-Fork.right c.in-Fork.to_left c.in-Fork.to_right c.in-Fork.is)).within in
    left_on c.args.setting.now.graph.now.heads.items c.args.setting.now.exits.now c.args.setting.now.graph.now.result c.args.work.now c.args.node.now c.in-Fork.left c.in-Fork.right c.in-Fork.to_left c.in-Fork.to_right c.follow-else-index.new.work c.in-Fork.is
    (read_at c.args.setting.now.graph.now.heads.items c.in-Fork.to_left c.index.result.now within c.index.ensures ∙ c.if-index.false) c.requires.alone c.in_ok-on-in-Fork-2.ensures.led

pub returns-in_ok-on-in-Fork-2-clause-lost : goal.returns-in_ok-on-in-Fork-2-clause-lost
returns-in_ok-on-in-Fork-2-clause-lost c =
    let away = EdgeLeads c.args.setting.now.graph.now.heads.items c.args.setting.now.exits.now c.args.setting.now.graph.now.result (edge_of c.in-Fork.right c.in-Fork.to_right) c.args.work.now in
    let on = EdgeLeads c.args.setting.now.graph.now.heads.items c.args.setting.now.exits.now c.args.setting.now.graph.now.result (edge_of c.in-Fork.left c.in-Fork.to_left) c.args.work.now in
    loses_as (c.in_ok-away-in-Fork-2.away || c.in_ok-on-in-Fork-2.on) c.args.sets.now c.follow-else-index.new.sets (λ p fact. away p fact × on p fact) (NodeLeads c.args.setting.now.graph.now.heads.items c.args.setting.now.exits.now c.args.setting.now.graph.now.result (node_of c.args.node.now) c.args.work.now)
    (turned_leads c.args.setting.now.graph.now.heads.items c.args.setting.now.exits.now c.args.setting.now.graph.now.result c.args.work.now c.args.node.now c.in-Fork.left c.in-Fork.right c.in-Fork.to_left c.in-Fork.to_right c.in-Fork.is)
    (loses_then c.in_ok-away-in-Fork-2.away c.in_ok-on-in-Fork-2.on c.args.sets.now c.part-else-index.new.sets c.follow-else-index.new.sets away on c.in_ok-away-in-Fork-2.ensures c.in_ok-on-in-Fork-2.ensures.lost)
