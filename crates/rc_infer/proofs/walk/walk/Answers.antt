use Rattle.rc_rlang.specs.Shapes.{rlang_of}
use Rattle.rc_edges.specs.Inferred.{family_of}
use Rattle.rc_infer.proofs.Walks.{walked}
use Rattle.rc_infer.proofs.walk.walk.Goals as goal

pub go-requires-clause-turning : goal.go-requires-clause-turning
go-requires-clause-turning c =
    let t = c.requires.turning in
    let b = c.in_ok-begun.ensures t.all t.covers in
    record { code = t.code; own = t.own; all = b.all1; covers = b.covers }

pub returns : goal.returns
returns c = λ all covers. (
    let t = c.requires.turning in
    let b = c.in_ok-begun.ensures all covers in
    let w = c.in_ok-losses.ensures b.all1 b.covers in
    walked (rlang_of c.args.field.now.code.now) c.args.field.now.graphs.now t.code t.own c.args.from.function c.args.graph.now c.requires.graph c.args.from.point c.args.to (family_of c.args.facts.now) (family_of c.enter.new.facts) (family_of c.go.new.facts) all w.0 c.in_ok-begun.begun c.in_ok-losses.losses.lost b w.1)
