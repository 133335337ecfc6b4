use Rattle.std.proofs.Common.{◌∙◌, sym, subst}
use Rattle.rc_rlang.specs.Shapes.{rlang_of}
use Rattle.rc_graph.specs.Nodes.{node_of}
use Rattle.rc_edges.specs.Boundaries.{NodeReady}
use Rattle.rc_edges.specs.Inferred.{family_of}
use Rattle.rc_edges.specs.Searching.{with_entries, with_exits}
use Rattle.rc_infer.proofs.Covers.{ready}
use Rattle.rc_infer.proofs.Places.{shown}
use Rattle.rc_infer.proofs.Walks.{call_covers, closed_there, leave_covers, restarted, stepped}
use Rattle.rc_infer.proofs.walk.step.Goals as goal

pub restart-requires-clause-ready : goal.restart-requires-clause-ready
restart-requires-clause-ready c =
    let r = rlang_of c.args.field.now.code.now in
    let gs = c.args.field.now.graphs.now in
    let t = c.requires.going.turning in
    let g = c.args.place.function in
    let p = c.args.place.point in
    let graph = c.args.graph.now in
    let at = c.requires.graph in
    let m = family_of c.args.facts.now in
    ready r gs t.code t.own g graph at m t.all t.covers

pub call_from-requires : goal.call_from-requires
call_from-requires c =
    let r = rlang_of c.args.field.now.code.now in
    let gs = c.args.field.now.graphs.now in
    let t = c.requires.going.turning in
    let g = c.args.place.function in
    let p = c.args.place.point in
    let graph = c.args.graph.now in
    let at = c.requires.graph in
    let m = family_of c.args.facts.now in
    let work = c.restart.new.work in
    let known = restarted r gs t.code t.own g graph at p m t.all c.args.work.now work t.covers c.restart.ensures.head c.restart.ensures.inner c.requires.going.inner in
    let node = node_of c.index-node.result.now in
    let here = shown node_of graph.nodes.items p c.index-node.result.now c.requires.there c.index-node.ensures in
    let rd = ready r gs t.code t.own g graph at m t.all t.covers in
    subst (λ n. NodeReady node n m.entries) (sym (c.restart.ensures.wide ∙ c.requires.going.wide)) (rd.calls p node here)

pub leave_from-requires-clause-known : goal.leave_from-requires-clause-known
leave_from-requires-clause-known c =
    c.restart.ensures.wide ∙ c.requires.going.wide

pub leave_from-requires-clause-ready : goal.leave_from-requires-clause-ready
leave_from-requires-clause-ready c =
    let r = rlang_of c.args.field.now.code.now in
    let gs = c.args.field.now.graphs.now in
    let t = c.requires.going.turning in
    let g = c.args.place.function in
    let p = c.args.place.point in
    let graph = c.args.graph.now in
    let at = c.requires.graph in
    let m = family_of c.args.facts.now in
    let work = c.restart.new.work in
    let known = restarted r gs t.code t.own g graph at p m t.all c.args.work.now work t.covers c.restart.ensures.head c.restart.ensures.inner c.requires.going.inner in
    let node = node_of c.index-node.result.now in
    let here = shown node_of graph.nodes.items p c.index-node.result.now c.requires.there c.index-node.ensures in
    let m1 = family_of c.call_from.new.facts in
    let covers1 = call_covers r gs t.code t.own g graph at p node here m m1 t.all work c.in_ok-called.called t.covers known c.in_ok-called.ensures in
    let rd1 = ready r gs t.code t.own g graph at m1 (with_entries t.all m1.entries) covers1 in
    rd1.returns p node here

pub leave_from-requires-clause-few : goal.leave_from-requires-clause-few
leave_from-requires-clause-few c =
    let r = rlang_of c.args.field.now.code.now in
    let gs = c.args.field.now.graphs.now in
    let t = c.requires.going.turning in
    let g = c.args.place.function in
    let p = c.args.place.point in
    let graph = c.args.graph.now in
    let at = c.requires.graph in
    let m = family_of c.args.facts.now in
    let work = c.restart.new.work in
    let known = restarted r gs t.code t.own g graph at p m t.all c.args.work.now work t.covers c.restart.ensures.head c.restart.ensures.inner c.requires.going.inner in
    let node = node_of c.index-node.result.now in
    let here = shown node_of graph.nodes.items p c.index-node.result.now c.requires.there c.index-node.ensures in
    let m1 = family_of c.call_from.new.facts in
    let covers1 = call_covers r gs t.code t.own g graph at p node here m m1 t.all work c.in_ok-called.called t.covers known c.in_ok-called.ensures in
    let rd1 = ready r gs t.code t.own g graph at m1 (with_entries t.all m1.entries) covers1 in
    rd1.few

pub leave_from-requires-clause-hidden : goal.leave_from-requires-clause-hidden
leave_from-requires-clause-hidden c =
    let r = rlang_of c.args.field.now.code.now in
    let gs = c.args.field.now.graphs.now in
    let t = c.requires.going.turning in
    let g = c.args.place.function in
    let p = c.args.place.point in
    let graph = c.args.graph.now in
    let at = c.requires.graph in
    let m = family_of c.args.facts.now in
    let work = c.restart.new.work in
    let known = restarted r gs t.code t.own g graph at p m t.all c.args.work.now work t.covers c.restart.ensures.head c.restart.ensures.inner c.requires.going.inner in
    let node = node_of c.index-node.result.now in
    let here = shown node_of graph.nodes.items p c.index-node.result.now c.requires.there c.index-node.ensures in
    let m1 = family_of c.call_from.new.facts in
    let covers1 = call_covers r gs t.code t.own g graph at p node here m m1 t.all work c.in_ok-called.called t.covers known c.in_ok-called.ensures in
    let rd1 = ready r gs t.code t.own g graph at m1 (with_entries t.all m1.entries) covers1 in
    rd1.hidden

pub leave_from-requires-clause-there : goal.leave_from-requires-clause-there
leave_from-requires-clause-there c =
    let r = rlang_of c.args.field.now.code.now in
    let gs = c.args.field.now.graphs.now in
    let t = c.requires.going.turning in
    let g = c.args.place.function in
    let p = c.args.place.point in
    let graph = c.args.graph.now in
    let at = c.requires.graph in
    let m = family_of c.args.facts.now in
    let work = c.restart.new.work in
    let known = restarted r gs t.code t.own g graph at p m t.all c.args.work.now work t.covers c.restart.ensures.head c.restart.ensures.inner c.requires.going.inner in
    let node = node_of c.index-node.result.now in
    let here = shown node_of graph.nodes.items p c.index-node.result.now c.requires.there c.index-node.ensures in
    let m1 = family_of c.call_from.new.facts in
    let covers1 = call_covers r gs t.code t.own g graph at p node here m m1 t.all work c.in_ok-called.called t.covers known c.in_ok-called.ensures in
    let rd1 = ready r gs t.code t.own g graph at m1 (with_entries t.all m1.entries) covers1 in
    rd1.exits

pub leave_from-requires-clause-places : goal.leave_from-requires-clause-places
leave_from-requires-clause-places c =
    let r = rlang_of c.args.field.now.code.now in
    let gs = c.args.field.now.graphs.now in
    let t = c.requires.going.turning in
    let g = c.args.place.function in
    let p = c.args.place.point in
    let graph = c.args.graph.now in
    let at = c.requires.graph in
    let m = family_of c.args.facts.now in
    let work = c.restart.new.work in
    let known = restarted r gs t.code t.own g graph at p m t.all c.args.work.now work t.covers c.restart.ensures.head c.restart.ensures.inner c.requires.going.inner in
    let node = node_of c.index-node.result.now in
    let here = shown node_of graph.nodes.items p c.index-node.result.now c.requires.there c.index-node.ensures in
    let m1 = family_of c.call_from.new.facts in
    let covers1 = call_covers r gs t.code t.own g graph at p node here m m1 t.all work c.in_ok-called.called t.covers known c.in_ok-called.ensures in
    let rd1 = ready r gs t.code t.own g graph at m1 (with_entries t.all m1.entries) covers1 in
    rd1.exit

pub lead_from-requires-clause-ready : goal.lead_from-requires-clause-ready
lead_from-requires-clause-ready c =
    let r = rlang_of c.args.field.now.code.now in
    let gs = c.args.field.now.graphs.now in
    let t = c.requires.going.turning in
    let g = c.args.place.function in
    let p = c.args.place.point in
    let graph = c.args.graph.now in
    let at = c.requires.graph in
    let m = family_of c.args.facts.now in
    let work = c.restart.new.work in
    let known = restarted r gs t.code t.own g graph at p m t.all c.args.work.now work t.covers c.restart.ensures.head c.restart.ensures.inner c.requires.going.inner in
    let node = node_of c.index-node.result.now in
    let here = shown node_of graph.nodes.items p c.index-node.result.now c.requires.there c.index-node.ensures in
    let m1 = family_of c.call_from.new.facts in
    let covers1 = call_covers r gs t.code t.own g graph at p node here m m1 t.all work c.in_ok-called.called t.covers known c.in_ok-called.ensures in
    let rd1 = ready r gs t.code t.own g graph at m1 (with_entries t.all m1.entries) covers1 in
    let m2 = family_of c.leave_from.new.facts in
    let all1 = with_entries t.all m1.entries in
    let covers2 = leave_covers r gs t.code t.own g graph at p node here m1 m2 all1 work c.in_ok-left.left covers1 known c.in_ok-left.ensures in
    let rd2 = ready r gs t.code t.own g graph at m2 (with_exits all1 m2.exits) covers2 in
    rd2

pub lead_from-requires-clause-work : goal.lead_from-requires-clause-work
lead_from-requires-clause-work c =
    c.restart.ensures.wide ∙ c.requires.going.wide

pub lead_from-requires-clause-closed : goal.lead_from-requires-clause-closed
lead_from-requires-clause-closed c =
    let r = rlang_of c.args.field.now.code.now in
    let gs = c.args.field.now.graphs.now in
    let t = c.requires.going.turning in
    let g = c.args.place.function in
    let p = c.args.place.point in
    let graph = c.args.graph.now in
    let at = c.requires.graph in
    let m = family_of c.args.facts.now in
    let work = c.restart.new.work in
    let known = restarted r gs t.code t.own g graph at p m t.all c.args.work.now work t.covers c.restart.ensures.head c.restart.ensures.inner c.requires.going.inner in
    let node = node_of c.index-node.result.now in
    let here = shown node_of graph.nodes.items p c.index-node.result.now c.requires.there c.index-node.ensures in
    closed_there r gs t.code t.own g graph at p m t.all work c.requires.there t.covers known

pub lead_from-requires-clause-may : goal.lead_from-requires-clause-may
lead_from-requires-clause-may c =
    let r = rlang_of c.args.field.now.code.now in
    let gs = c.args.field.now.graphs.now in
    let t = c.requires.going.turning in
    let g = c.args.place.function in
    let p = c.args.place.point in
    let graph = c.args.graph.now in
    let at = c.requires.graph in
    let m = family_of c.args.facts.now in
    let work = c.restart.new.work in
    let known = restarted r gs t.code t.own g graph at p m t.all c.args.work.now work t.covers c.restart.ensures.head c.restart.ensures.inner c.requires.going.inner in
    let node = node_of c.index-node.result.now in
    let here = shown node_of graph.nodes.items p c.index-node.result.now c.requires.there c.index-node.ensures in
    let m1 = family_of c.call_from.new.facts in
    let covers1 = call_covers r gs t.code t.own g graph at p node here m m1 t.all work c.in_ok-called.called t.covers known c.in_ok-called.ensures in
    let rd1 = ready r gs t.code t.own g graph at m1 (with_entries t.all m1.entries) covers1 in
    let m2 = family_of c.leave_from.new.facts in
    let all1 = with_entries t.all m1.entries in
    let covers2 = leave_covers r gs t.code t.own g graph at p node here m1 m2 all1 work c.in_ok-left.left covers1 known c.in_ok-left.ensures in
    let rd2 = ready r gs t.code t.own g graph at m2 (with_exits all1 m2.exits) covers2 in
    rd2.may p node here

pub lead_from-requires-clause-alone : goal.lead_from-requires-clause-alone
lead_from-requires-clause-alone c =
    let r = rlang_of c.args.field.now.code.now in
    let gs = c.args.field.now.graphs.now in
    let t = c.requires.going.turning in
    let g = c.args.place.function in
    let p = c.args.place.point in
    let graph = c.args.graph.now in
    let at = c.requires.graph in
    let m = family_of c.args.facts.now in
    let work = c.restart.new.work in
    let known = restarted r gs t.code t.own g graph at p m t.all c.args.work.now work t.covers c.restart.ensures.head c.restart.ensures.inner c.requires.going.inner in
    let node = node_of c.index-node.result.now in
    let here = shown node_of graph.nodes.items p c.index-node.result.now c.requires.there c.index-node.ensures in
    let m1 = family_of c.call_from.new.facts in
    let covers1 = call_covers r gs t.code t.own g graph at p node here m m1 t.all work c.in_ok-called.called t.covers known c.in_ok-called.ensures in
    let rd1 = ready r gs t.code t.own g graph at m1 (with_entries t.all m1.entries) covers1 in
    let m2 = family_of c.leave_from.new.facts in
    let all1 = with_entries t.all m1.entries in
    let covers2 = leave_covers r gs t.code t.own g graph at p node here m1 m2 all1 work c.in_ok-left.left covers1 known c.in_ok-left.ensures in
    let rd2 = ready r gs t.code t.own g graph at m2 (with_exits all1 m2.exits) covers2 in
    rd2.alone p node here

pub returns-clause-stepped : goal.returns-clause-stepped
returns-clause-stepped c = λ all reached. (
    let r = rlang_of c.args.field.now.code.now in
    let gs = c.args.field.now.graphs.now in
    let t = c.requires.going.turning in
    let g = c.args.place.function in
    let p = c.args.place.point in
    let graph = c.args.graph.now in
    let at = c.requires.graph in
    let m = family_of c.args.facts.now in
    let work = c.restart.new.work in
    let known = restarted r gs t.code t.own g graph at p m all c.args.work.now work reached.covers c.restart.ensures.head c.restart.ensures.inner reached.inner in
    let node = node_of c.index-node.result.now in
    let here = shown node_of graph.nodes.items p c.index-node.result.now c.requires.there c.index-node.ensures in
    stepped r gs t.code t.own g graph at p node here m (family_of c.call_from.new.facts) (family_of c.leave_from.new.facts) (family_of c.lead_from.new.facts) all work c.lead_from.new.work c.in_ok-called.called c.in_ok-left.left c.in_ok-led.led reached.covers known
    c.in_ok-called.ensures c.in_ok-left.ensures c.in_ok-led.ensures.led (c.in_ok-led.ensures.work ∙ c.restart.ensures.wide ∙ c.requires.going.wide) c.in_ok-led.ensures.lost)
