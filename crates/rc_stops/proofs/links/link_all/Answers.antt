use Rattle.std.proofs.Common.{◌≡◌, ◌∙◌, ◌+◌, ◌-◌, sym, subst, arith}
use Rattle.rc_stops.specs.Waits.{LinksFrom}
use Rattle.rc_stops.proofs.links.link_all.Goals as goal

pub stops-preserved : goal.stops-preserved
stops-preserved c =
    let at = c.stops.left - 1 in
    let e : at + 1 ≡ c.stops.left = (let t = c.stops-test.true in omega (arith, t)) in
    record {
      within = (let w = c.stops.invariant.within in omega (arith, w));
      first = c.link.ensures.first ∙ c.stops.invariant.first;
      next = c.link.ensures.next ∙ c.stops.invariant.next;
      links = c.link.ensures.links (subst (λ n. LinksFrom c.args.stops.now n c.stops.first c.stops.next) (sym e) c.stops.invariant.links);
    }
