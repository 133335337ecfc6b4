use Rattle.std.proofs.Common.{rules, ◌≡◌, ◌<◌, ◌∷◌, [], ◌∙◌, List, map, length, ap, subst, arith}
use Rattle.rc_facts.specs.declared.fact.Fact.TheVariants.{In}
use Rattle.rc_facts.specs.Facts.{holds}
use Rattle.rc_facts.proofs.Behind.{behind_nothing, closed_again}
use Rattle.rc_graph.specs.declared.node.Entry.{Entry}
use Rattle.rc_graph.specs.Nodes.{entry_of}
use Rattle.rc_edges.specs.Edges.{pairs_below}
use Rattle.rc_edges.specs.News.{pair_news}
use Rattle.rc_crossing.proofs.Effects.{behind_then, none_there, unnamed_in}
use Rattle.rc_crossing.proofs.crossing.+enter.Goals as goal

pub returns-in_default-clause-facts : goal.returns-in_default-clause-facts
unfolding holds
returns-in_default-clause-facts t c =
    let l : length c.args.entries.now ≡ 0 = search rules in
    let e : c.args.entries.now ≡ [] = none_there c.args.entries.now l in
    rw e (behind_nothing c.args.set.now.variables c.args.scratch (holds c.args.set.now) c.requires.closed)

pub link-requires-2-clause-closed : goal.link-requires-2-clause-closed
unfolding holds
link-requires-2-clause-closed t c =
    let e = c.in-Some.first in
    rw c.link.ensures.variables (closed_again c.args.set.now.variables c.args.scratch (holds c.args.set.now) (holds c.link.new.set) (In e.now.local e.now.copy ∷ []) c.link.ensures.facts)

pub enter-requires : goal.enter-requires
unfolding holds
enter-requires t c =
    let e = c.in-Some.first.now in
    let is : c.args.entries.now ≡ e ∷ c.in-Some.rest.now = search rules in
    let below : pairs_below c.args.scratch (map entry_of (e ∷ c.in-Some.rest.now)) = subst (λ (es : List Entry). pairs_below c.args.scratch (map entry_of es)) is c.requires.below in
    let v = c.link.ensures.variables in
    let w = c.link-2.ensures.variables in
    let s = c.requires.scratch in
    let long : length c.in-Some.rest.now < t = (let q = ap length is in let d = c.decreases in omega (arith, q, d)) in
    let one = closed_again c.args.set.now.variables c.args.scratch (holds c.args.set.now) (holds c.link.new.set) (In e.local e.copy ∷ []) c.link.ensures.facts in
    let two = closed_again c.args.set.now.variables c.args.scratch (holds c.link.new.set) (holds c.link-2.new.set) (In e.copy e.local ∷ []) (rw v at c.link-2.ensures.facts) in
    (long, (below.2, (omega (arith, v, w, s), rw (w ∙ v) two)))

pub returns-clause-facts : goal.returns-clause-facts
unfolding holds
returns-clause-facts t c =
    let e = c.in-Some.first.now in
    let is : c.args.entries.now ≡ e ∷ c.in-Some.rest.now = search rules in
    let below : pairs_below c.args.scratch (map entry_of (e ∷ c.in-Some.rest.now)) = subst (λ (es : List Entry). pairs_below c.args.scratch (map entry_of es)) is c.requires.below in
    let n = c.args.set.now.variables in
    let s = c.args.scratch in
    let v = c.link.ensures.variables in
    let w = c.link-2.ensures.variables in
    let rest = pair_news (map entry_of c.in-Some.rest.now) in
    let one = closed_again n s (holds c.args.set.now) (holds c.link.new.set) (In e.local e.copy ∷ []) c.link.ensures.facts in
    let all = behind_then n s (In e.local e.copy) (In e.copy e.local ∷ rest) (holds c.args.set.now) (holds c.link.new.set) (holds c.enter.new.set) (unnamed_in s e.local e.copy below.0 below.1) c.requires.closed c.link.ensures.facts
    (behind_then n s (In e.copy e.local) rest (holds c.link.new.set) (holds c.link-2.new.set) (holds c.enter.new.set) (unnamed_in s e.copy e.local below.1 below.0) one (rw v at c.link-2.ensures.facts) (rw (w ∙ v) at c.enter.ensures.facts)) in
    rw is all
