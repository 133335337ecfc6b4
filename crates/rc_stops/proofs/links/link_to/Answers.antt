use Rattle.std.proofs.Common.{◌∙◌, ◌<◌, ℕ, length, Option, subst}
use Rattle.std.specs.Prelude.{IfSome}
use Rattle.rc_stops.proofs.Linked.{links_none, links_some}
use Rattle.rc_stops.proofs.links.link_to.Goals as goal

pub returns-in-None-clause-links : goal.returns-in-None-clause-links
returns-in-None-clause-links c = λ stops lt e d is links. links_none stops c.args.at c.args.first.now c.args.next.now (is ∙ c.in-None.is) links

pub returns-in-Some-clause-links : goal.returns-in-Some-clause-links
returns-in-Some-clause-links c = λ stops lt e d is links.
    let below : c.in-Some.to < length c.args.first.now = subst (λ (o : Option ℕ). IfSome o (λ to. to < length c.args.first.now)) c.in-Some.is c.requires.to in
    links_some stops c.args.at c.in-Some.to c.get-before.result c.args.first.now c.args.next.now c.get-before.ensures lt (subst (λ n. c.in-Some.to < n) e below) e d (is ∙ c.in-Some.is) links
