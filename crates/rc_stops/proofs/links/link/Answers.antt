use Rattle.std.proofs.Common.{◌<◌, sym, subst, ap, length}
use Rattle.std.specs.Prelude.{IfSome}
use Rattle.rc_stops.specs.declared.stop.Stop.{Stop}
use Rattle.rc_stops.proofs.links.link.Goals as goal

pub link_to-requires-clause-to : goal.link_to-requires-clause-to
link_to-requires-clause-to c =
    subst (λ n. IfSome c.stop_of-stop.result.leads (λ to. to < n)) (sym c.requires.first)
    (subst (λ (s : Stop). IfSome s.leads (λ to. to < length c.args.stops.now)) (sym c.stop_of-stop.ensures) (c.requires.fits c.args.at c.requires.at).leads)

pub returns-clause-links : goal.returns-clause-links
returns-clause-links c = λ links. c.link_to.ensures.links c.args.stops.now c.requires.at c.requires.first c.requires.next (ap (λ (s : Stop). s.leads) (sym c.stop_of-stop.ensures)) links
