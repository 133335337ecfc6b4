use Rattle.rc_infer.proofs.Covers.{ready}
use Rattle.rc_rlang.specs.Shapes.{rlang_of}
use Rattle.rc_edges.specs.Inferred.{family_of}
use Rattle.rc_infer.proofs.Places.{if_ok}
use Rattle.rc_infer.proofs.Walks.{begun_in}
use Rattle.rc_infer.proofs.walk.enter.Goals as goal

pub come_in-requires : goal.come_in-requires
come_in-requires c = ready (rlang_of c.args.field.now.code.now) c.args.field.now.graphs.now c.requires.turning.code c.requires.turning.own c.args.from.function c.args.graph.now c.requires.graph (family_of c.args.facts.now) c.requires.turning.all c.requires.turning.covers

pub returns : goal.returns
returns c = λ all covers. if_ok c.come_in.result _ _ (λ lost l.
    begun_in (rlang_of c.args.field.now.code.now) c.args.field.now.graphs.now c.requires.turning.code c.requires.turning.own c.args.from.function c.args.graph.now c.requires.graph (family_of c.args.facts.now) (family_of c.come_in.new.facts) all lost covers l c.args.from.point) c.come_in.ensures
