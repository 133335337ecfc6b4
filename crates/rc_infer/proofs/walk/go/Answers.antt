use Rattle.std.proofs.Common.{◌≡◌, ◌+◌, ◌∙◌, ◌||◌, suc, subst, arith}
use Rattle.rc_rlang.specs.Shapes.{rlang_of}
use Rattle.rc_edges.specs.Inferred.{family_of}
use Rattle.rc_infer.specs.Walking.{Went}
use Rattle.rc_infer.proofs.Covers.{ready}
use Rattle.rc_infer.proofs.Walks.{went_more, went_none}
use Rattle.rc_infer.proofs.walk.go.Goals as goal

pub overflow_add-graph : goal.overflow_add-graph
overflow_add-graph c =
    let t = c.requires.turning in
    let few = (ready (rlang_of c.args.field.now.code.now) c.args.field.now.graphs.now t.code t.own c.args.from.function c.args.graph.now c.requires.graph (family_of c.args.facts.now) t.all t.covers).few in
    omega (arith, few)

pub empty-requires : goal.empty-requires
empty-requires c =
    let t = c.requires.turning in
    let few = (ready (rlang_of c.args.field.now.code.now) c.args.field.now.graphs.now t.code t.own c.args.from.function c.args.graph.now c.requires.graph (family_of c.args.facts.now) t.all t.covers).few in
    omega (arith, few)

pub loop-point-init : goal.loop-point-init
loop-point-init c =
    let t = c.requires.turning in
    record {
      over = omega arith;
      wide = (let w = c.in_ok-work.ensures.variables in omega (arith, w));
      went = λ all covers. went_none (rlang_of c.args.field.now.code.now) c.args.field.now.graphs.now t.code t.own c.args.from.function c.args.graph.now c.requires.graph c.args.from.point c.requires.head (family_of c.args.facts.now) all c.in_ok-work.work covers;
    }

pub step-requires-clause-going : goal.step-requires-clause-going
step-requires-clause-going c =
    let t = c.requires.turning in
    let w = c.loop-point.invariant.went t.all t.covers in
    record { turning = record { code = t.code; own = t.own; all = w.all1; covers = w.reached.covers }; inner = w.reached.inner; wide = c.loop-point.invariant.wide }

pub loop-point-preserved : goal.loop-point-preserved
loop-point-preserved c =
    let t = c.requires.turning in
    let r = rlang_of c.args.field.now.code.now in
    let gs = c.args.field.now.graphs.now in
    let g = c.args.from.function in
    let graph = c.args.graph.now in
    let from = c.args.from.point in
    let p = c.loop-point.point in
    let m = family_of c.args.facts.now in
    let m1 = family_of c.loop-point.facts in
    let m2 = family_of c.step.new.facts in
    let over = c.loop-point.invariant.over in
    record {
      over = omega (arith, over);
      wide = c.step.ensures.work ∙ c.loop-point.invariant.wide;
      went = λ all covers. (
          let w = c.loop-point.invariant.went all covers in
          subst (λ q. Went r gs graph g from q m m2 all c.step.new.work (c.loop-point.lost || c.in_ok-more.more)) (let e : suc p ≡ p + 1 = omega arith in e)
          (went_more r gs t.code t.own g graph c.requires.graph from p over m m1 m2 all c.loop-point.work c.step.new.work c.loop-point.lost c.in_ok-more.more w (c.in_ok-more.ensures.stepped w.all1 w.reached)));
    }

pub returns : goal.returns
returns c = λ all covers. (
    let r = rlang_of c.args.field.now.code.now in
    let gs = c.args.field.now.graphs.now in
    let g = c.args.from.function in
    let graph = c.args.graph.now in
    let from = c.args.from.point in
    let test = c.loop-point-test.false in
    let top = c.loop-point.auto.point-end in
    let order = c.requires.order in
    let end : c.loop-point.point ≡ c.args.to = omega (arith, test, top, order) in
    (c.loop-point.work, subst (λ q. Went r gs graph g from q (family_of c.args.facts.now) (family_of c.loop-point.facts) all c.loop-point.work c.loop-point.lost) end (c.loop-point.invariant.went all covers)))
