use Rattle.std.proofs.Common.{◌<◌, ◌∙◌, ◌↔◌, IsTrue, Option, ℕ, sym, subst, arith}
use Rattle.rc_facts.specs.declared.fact.Fact.{Fact}
use Rattle.rc_facts.specs.Facts.{holds, is_over}
use Rattle.rc_facts.specs.Flow.{Behind, set_at}
use Rattle.rc_rlang.specs.RegionFlow.{assigned}
use Rattle.rc_graph.specs.Nodes.{effect_of}
use Rattle.rc_edges.specs.Edges.{renewed}
use Rattle.rc_edges.specs.News.{news_of}
use Rattle.rc_carrying.specs.Left.{stay, HasOwn, Left}
use Rattle.rc_carrying.proofs.Dropping.{fresh_over, fresh_own, all_left}
use Rattle.rc_carrying.proofs.Carried.{assigned_below, listed_over}
use Rattle.rc_carrying.proofs.Ready.{added_over, added_own, behind_before, forgot_closed}
use Rattle.rc_carrying.proofs.leaving.carry_any.Goals as goal

pub cross-requires-clause-closed : goal.cross-requires-clause-closed
unfolding holds
cross-requires-clause-closed c = rw c.forget.ensures.variables (forgot_closed c.args.set.now.variables c.args.scratch (holds c.args.set.now) (holds c.forget.new.self) c.requires.ready c.forget.ensures.facts)

pub drop_gone-requires-clause-over : goal.drop_gone-requires-clause-over
drop_gone-requires-clause-over c =
    let n = c.args.set.now.variables in
    let e = effect_of c.args.effect.now in
    let news = news_of n (set_at c.args.exits.now) (renewed c.args.scratch e) in
    let crossed = behind_before n c.args.scratch (holds c.args.set.now) (holds c.forget.new.self) c.requires.ready c.forget.ensures.facts (assigned e) news (holds c.cross.new.set)
    (subst (λ m. (p : Fact) → IsTrue (holds c.cross.new.set p) ↔ Behind m c.args.scratch (assigned e) (news_of m (set_at c.args.exits.now) (renewed c.args.scratch e)) (holds c.forget.new.self) p) c.forget.ensures.variables c.in_ok-cross.ensures.facts) in
    let over = listed_over n news (added_over n c.args.scratch c.args.exits.now e c.requires.ready.last c.requires.below) in
    let lt : c.args.scratch < n = (let r = c.requires.ready.last in omega (arith, r)) in
    subst (λ m. (fact : Fact) → IsTrue (holds c.add_own.new.set fact) → IsTrue (is_over m fact)) (sym (c.add_own.ensures.variables ∙ c.in_ok-cross.ensures.variables ∙ c.forget.ensures.variables)) (fresh_over n c.args.scratch lt (assigned e) (assigned_below c.args.scratch e c.requires.below) news (holds c.args.set.now) over c.requires.ready.closed (holds c.cross.new.set) (holds c.add_own.new.set) crossed (added_own c.args.scratch (holds c.cross.new.set) (holds c.add_own.new.set) (λ p is. ((crossed p).0 is).1) c.add_own.ensures.facts))

pub drop_gone-requires-clause-own : goal.drop_gone-requires-clause-own
drop_gone-requires-clause-own c =
    let n = c.args.set.now.variables in
    let e = effect_of c.args.effect.now in
    let news = news_of n (set_at c.args.exits.now) (renewed c.args.scratch e) in
    let crossed = behind_before n c.args.scratch (holds c.args.set.now) (holds c.forget.new.self) c.requires.ready c.forget.ensures.facts (assigned e) news (holds c.cross.new.set)
    (subst (λ m. (p : Fact) → IsTrue (holds c.cross.new.set p) ↔ Behind m c.args.scratch (assigned e) (news_of m (set_at c.args.exits.now) (renewed c.args.scratch e)) (holds c.forget.new.self) p) c.forget.ensures.variables c.in_ok-cross.ensures.facts) in
    let over = listed_over n news (added_over n c.args.scratch c.args.exits.now e c.requires.ready.last c.requires.below) in
    let lt : c.args.scratch < n = (let r = c.requires.ready.last in omega (arith, r)) in
    subst (λ m. HasOwn m (holds c.add_own.new.set)) (sym (c.add_own.ensures.variables ∙ c.in_ok-cross.ensures.variables ∙ c.forget.ensures.variables)) (fresh_own n c.args.scratch lt (assigned e) (assigned_below c.args.scratch e c.requires.below) news (holds c.args.set.now) over c.requires.ready.closed (holds c.cross.new.set) (holds c.add_own.new.set) crossed (added_own c.args.scratch (holds c.cross.new.set) (holds c.add_own.new.set) (λ p is. ((crossed p).0 is).1) c.add_own.ensures.facts))

pub returns-clause-facts : goal.returns-clause-facts
returns-clause-facts c =
    let n = c.args.set.now.variables in
    let e = effect_of c.args.effect.now in
    let news = news_of n (set_at c.args.exits.now) (renewed c.args.scratch e) in
    let crossed = behind_before n c.args.scratch (holds c.args.set.now) (holds c.forget.new.self) c.requires.ready c.forget.ensures.facts (assigned e) news (holds c.cross.new.set)
    (subst (λ m. (p : Fact) → IsTrue (holds c.cross.new.set p) ↔ Behind m c.args.scratch (assigned e) (news_of m (set_at c.args.exits.now) (renewed c.args.scratch e)) (holds c.forget.new.self) p) c.forget.ensures.variables c.in_ok-cross.ensures.facts) in
    let over = listed_over n news (added_over n c.args.scratch c.args.exits.now e c.requires.ready.last c.requires.below) in
    let lt : c.args.scratch < n = (let r = c.requires.ready.last in omega (arith, r)) in
    subst (λ (x : Option ℕ). (fact : Fact) → IsTrue (holds c.drop_gone.new.set fact) ↔ Left n c.args.scratch (stay c.args.low c.args.top x) (assigned e) news (holds c.args.set.now) fact) c.assigned_by.ensures
    (all_left n c.args.scratch lt (assigned e) (assigned_below c.args.scratch e c.requires.below) news (holds c.args.set.now) over c.requires.ready.closed (holds c.cross.new.set) (holds c.add_own.new.set) crossed (added_own c.args.scratch (holds c.cross.new.set) (holds c.add_own.new.set) (λ p is. ((crossed p).0 is).1) c.add_own.ensures.facts) (stay c.args.low c.args.top c.assigned_by.result) (holds c.drop_gone.new.set) c.drop_gone.ensures.facts)
