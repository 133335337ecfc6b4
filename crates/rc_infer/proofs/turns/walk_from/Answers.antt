use Rattle.std.proofs.Common.{rules, ◌≡◌, length, ap, arith}
use Rattle.std.proofs.lemmas.List.{length-map}
use Rattle.rc_rlang.specs.Shapes.{rlang_of}
use Rattle.rc_edges.specs.Inferred.{family_of}
use Rattle.rc_graph.specs.Nodes.{node_of}
use Rattle.rc_infer.proofs.Covers.{ready}
use Rattle.rc_infer.proofs.turns.walk_from.Goals as goal

pub index-requires : goal.index-requires
index-requires c =
    let t = c.requires.turning in
    let graph = c.args.graph.now in
    let h = (ready (rlang_of c.args.field.now.code.now) c.args.field.now.graphs.now t.code t.own c.args.place.function graph c.requires.graph (family_of c.args.facts.now) t.all t.covers).heads.long in
    let q = length-map graph.nodes.items node_of in
    let end : c.in_ok-end.end ≡ length graph.nodes.items = search rules in
    let k = graph.heads.ok.0 in
    let below = c.if-place-end.false in
    omega (arith, h, q, end, k, below)

pub next_head-next-requires-clause-heads : goal.next_head-next-requires-clause-heads
next_head-next-requires-clause-heads c =
    let t = c.requires.turning in
    let graph = c.args.graph.now in
    let h = (ready (rlang_of c.args.field.now.code.now) c.args.field.now.graphs.now t.code t.own c.args.place.function graph c.requires.graph (family_of c.args.facts.now) t.all t.covers).heads.long in
    let q = length-map graph.nodes.items node_of in
    let end : c.in_ok-end.end ≡ length graph.nodes.items = search rules in
    let v = ap length c.as_slice.ensures.value in
    omega (arith, h, q, end, v)
