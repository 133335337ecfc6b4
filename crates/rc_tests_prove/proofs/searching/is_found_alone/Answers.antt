use Rattle.std.proofs.Common.{List, length, sym, subst}
use Rattle.std.specs.List.{All}
use Rattle.rc_prove_parts.specs.declared.route.Route.{Route}
use Rattle.rc_prove.specs.declared.start.Counts.{Counts}
use Rattle.rc_prove.specs.Family.{RouteFits}
use Rattle.rc_prove.specs.Starting.{IsBegun}
use Rattle.rc_tests_prove.proofs.searching.is_found_alone.Goals as goal

pub greatest-requires-clause-routes : goal.greatest-requires-clause-routes
greatest-requires-clause-routes c = λ m begun.
    subst (λ (routes : List Route). All (λ (route : Route). RouteFits route m) routes) (sym c.as_slice-routes.ensures.value)
    (c.in_ok-all.ensures.fits m (subst (λ (counts : List Counts). IsBegun counts (length counts) m) c.as_slice-counts.ensures.value begun))
