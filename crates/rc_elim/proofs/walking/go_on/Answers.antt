use Rattle.std.proofs.Common.{rules, ◌≡◌, ◌+◌, ◌↔◌, sym, subst, IsTrue}
use Rattle.rc_facts.specs.Facts.{holds}
use Rattle.rc_facts.specs.Flow.{Behind, IsClosed, set_at}
use Rattle.rc_rlang.specs.RegionFlow.{assigned}
use Rattle.rc_edges.specs.News.{news_of}
use Rattle.rc_graph.specs.Nodes.{effect_of}
use Rattle.rc_edges.specs.Edges.{renewed}
use Rattle.rc_elim.proofs.Walks.{after_ok, closed_there, step_fits, step_there, stepped}
use Rattle.rc_elim.proofs.walking.go_on.Goals as goal

pub cross-requires-clause-below : goal.cross-requires-clause-below
cross-requires-clause-below c =
    let way = c.args.way.now in
    let next : c.in_ok-next.next ≡ c.args.at + 1 = search rules in
    (step_fits way.graph.now way.exits.now c.args._sets.now c.requires.walkable c.args.at (effect_of c.in-Some.effect.now)
    (step_there way.graph.now way.exits.now c.args._sets.now c.requires.walkable c.args.at c.in_ok-next.next c.index-2.result.now c.index.result.now (effect_of c.in-Some.effect.now) c.requires.there c.index.ensures c.if-index.false c.index-2.ensures next c.in-Some.ensures)).1

pub cross-requires-clause-call : goal.cross-requires-clause-call
cross-requires-clause-call c =
    let way = c.args.way.now in
    let next : c.in_ok-next.next ≡ c.args.at + 1 = search rules in
    (step_fits way.graph.now way.exits.now c.args._sets.now c.requires.walkable c.args.at (effect_of c.in-Some.effect.now)
    (step_there way.graph.now way.exits.now c.args._sets.now c.requires.walkable c.args.at c.in_ok-next.next c.index-2.result.now c.index.result.now (effect_of c.in-Some.effect.now) c.requires.there c.index.ensures c.if-index.false c.index-2.ensures next c.in-Some.ensures)).0

pub cross-requires-clause-closed : goal.cross-requires-clause-closed
cross-requires-clause-closed c =
    let way = c.args.way.now in
    subst (λ n. IsClosed n way.graph.now.result (holds c.args.work.now)) (sym c.requires.variables)
    (closed_there way.graph.now way.exits.now c.args._sets.now c.requires.walkable c.args.at (holds c.args.work.now) c.requires.there c.requires.here)

pub returns-clause-next : goal.returns-clause-next
returns-clause-next c =
    let way = c.args.way.now in
    let next : c.in_ok-next.next ≡ c.args.at + 1 = search rules in
    let done = effect_of c.in-Some.effect.now in
    let step = step_there way.graph.now way.exits.now c.args._sets.now c.requires.walkable c.args.at c.in_ok-next.next c.index-2.result.now c.index.result.now done c.requires.there c.index.ensures c.if-index.false c.index-2.ensures next c.in-Some.ensures in
    after_ok c.cross.result (λ now. stepped way.graph.now way.exits.now c.args._sets.now c.args.at done (holds c.args.work.now) (holds c.cross.new.set) step c.requires.here
    (λ fact. subst (λ n. IsTrue (holds c.cross.new.set fact) ↔ Behind n way.graph.now.result (assigned done) (news_of n (set_at way.exits.now) (renewed way.graph.now.result done)) (holds c.args.work.now) fact) c.requires.variables (now fact))) c.cross.ensures.facts
