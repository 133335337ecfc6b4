use Rattle.std.proofs.Common.{◌≡◌, length, ap, subst, arith}
use Rattle.std.proofs.lemmas.List.{length-map}
use Rattle.rc_rlang.specs.declared.code.RegionParts.{RegionParts}
use Rattle.rc_rlang.specs.Shapes.{rlang_of, routine_in}
use Rattle.rc_graph.specs.Nodes.{AreGraphs}
use Rattle.rc_infer.proofs.Places.{found}
use Rattle.rc_infer.proofs.GraphLists.{graphs_none, graphs_more}
use Rattle.rc_infer.proofs.graphs.graphs_of.Goals as goal

pub loop-g-init : goal.loop-g-init
loop-g-init c = graphs_none (rlang_of c.args.code.now) c.new-all.result.items c.new-all.ensures.items

pub loop-g-preserved : goal.loop-g-preserved
loop-g-preserved c =
    let r = rlang_of c.args.code.now in
    let test = c.loop-g-test.true in
    let end = c.len-g-end.ensures in
    let room = c.parts-parts.result.now.functions.ok.0 in
    let same = ap (λ (p : RegionParts). length p.functions.items) c.parts-parts.ensures.parts in
    let there = found c.args.code.now c.parts-parts.result.now c.loop-g.g c.index.result.now c.parts-parts.ensures.parts (omega (arith, test, end, room, same)) c.index.ensures in
    graphs_more r c.loop-g.g (routine_in r.structs c.index.result.now) c.loop-g.all.items c.push.new.self.items c.in_ok-graph.graph there c.loop-g.invariant (c.in_ok-graph.ensures r.structs c.layouts-layouts.ensures) c.in_ok-push.ensures.items

pub returns : goal.returns
returns c =
    let r = rlang_of c.args.code.now in
    let test = c.loop-g-test.false in
    let end = c.len-g-end.ensures in
    let room = c.parts-parts.result.now.functions.ok.0 in
    let same = ap (λ (p : RegionParts). length p.functions.items) c.parts-parts.ensures.parts in
    let long = length-map c.args.code.now.functions.items (routine_in r.structs) in
    let top = c.loop-g.auto.g-end in
    let all : c.loop-g.g ≡ length r.functions = omega (arith, test, top, end, room, same, long) in
    subst (λ k. AreGraphs r k c.loop-g.all.items) all c.loop-g.invariant

pub graph_of-requires : goal.graph_of-requires
graph_of-requires c = record { laid = record { structs = (rlang_of c.args.code.now).structs; laid = c.layouts-layouts.ensures } }
