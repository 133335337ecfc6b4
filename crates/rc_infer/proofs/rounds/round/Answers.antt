use Rattle.std.proofs.Common.{rules, ◌≡◌, ◌<◌, length, get_or, subst}
use Rattle.std.proofs.lemmas.Option.{slice_get-get_or}
use Rattle.rc_rlang.specs.Shapes.{rlang_of}
use Rattle.rc_edges.specs.Inferred.{family_of}
use Rattle.rc_infer.specs.Walking.{Walked}
use Rattle.rc_infer.proofs.Covers.{ready}
use Rattle.rc_infer.proofs.Walks.{rounded_more, rounded_none}
use Rattle.rc_infer.proofs.rounds.round.Goals as goal

pub loop-function-init : goal.loop-function-init
loop-function-init c = rounded_none (rlang_of c.args.field.now.code.now) c.args.field.now.graphs.now (family_of c.args.facts.now) c.requires.all c.requires.covers

pub walk-requires-clause-head : goal.walk-requires-clause-head
walk-requires-clause-head c =
    let gs = c.args.field.now.graphs.now in
    let g = c.loop-function.function in
    let lt : g < length gs = search rules in
    let graph = get_or gs g c.index-field-function.result in
    let i = c.loop-function.invariant in
    (ready (rlang_of c.args.field.now.code.now) gs c.requires.code c.requires.own g graph (slice_get-get_or gs g c.index-field-function.result lt) (family_of c.loop-function.facts) i.all1 i.covers).heads.first

pub loop-function-preserved : goal.loop-function-preserved
loop-function-preserved c =
    let r = rlang_of c.args.field.now.code.now in
    let gs = c.args.field.now.graphs.now in
    let g = c.loop-function.function in
    let lt : g < length gs = search rules in
    let graph = get_or gs g c.index-field-function.result in
    let i = c.loop-function.invariant in
    let end : c.in_ok-end.end ≡ length graph.nodes.items = search rules in
    let w = c.in_ok-losses.ensures i.all1 i.covers in
    rounded_more r gs c.requires.code c.requires.own g graph (slice_get-get_or gs g c.index-field-function.result lt) (family_of c.args.facts.now) (family_of c.loop-function.facts) (family_of c.walk.new.facts) c.loop-function.lost c.in_ok-losses.losses.lost i
    (subst (λ n. Walked r gs graph g 0 n (family_of c.loop-function.facts) (family_of c.walk.new.facts) i.all1 c.in_ok-losses.losses.lost) end w)
