use Rattle.std.proofs.Common.{List, length, map, sym, subst}
use Rattle.std.specs.List.{All}
use Rattle.rc_prove_parts.specs.declared.route.Route.{Route}
use Rattle.rc_prove.specs.declared.start.Counts.{Counts}
use Rattle.rc_prove.specs.Family.{family_of, RouteFits}
use Rattle.rc_prove.specs.Starting.{IsBegun}
use Rattle.rc_prove.specs.TheGreatest.{AreRoutes}
use Rattle.rc_seal.specs.Marking.{bits_of}
use Rattle.rc_seal.proofs.Found.{all_tell, are_found}
use Rattle.rc_seal.proofs.finding.find.Goals as goal

pub greatest-requires-clause-routes : goal.greatest-requires-clause-routes
greatest-requires-clause-routes c = λ m begun.
    subst (λ (routes : List Route). All (λ (route : Route). RouteFits route m) routes) (sym c.as_slice-routes.ensures.value)
    (c.in_ok-all.ensures.fits m (subst (λ (counts : List Counts). IsBegun counts (length counts) m) c.as_slice-counts.ensures.value begun))

pub proofs_of-requires-clause-counts : goal.proofs_of-requires-clause-counts
proofs_of-requires-clause-counts c =
    let are = subst (AreRoutes c.args.parts.now c.in_ok-all.all.routes.items) (sym c.as_slice-counts.ensures.value) c.in_ok-all.ensures.routes in
    record { counted = are.counted; count = are.count }

pub returns : goal.returns
returns c =
    let parts = c.args.parts.now in
    let routes = c.as_slice-routes.result.now in
    let counts = c.as_slice-counts.result.now in
    let m = family_of c.in_ok-claims.claims.entries.items c.in_ok-claims.claims.exits.items c.in_ok-claims.claims.frames.items in
    let are = subst (AreRoutes parts routes) (sym c.as_slice-counts.ensures.value) (subst (λ (rs : List Route). AreRoutes parts rs c.in_ok-all.all.counts.items) (sym c.as_slice-routes.ensures.value) c.in_ok-all.ensures.routes) in
    are_found parts m c.in_ok-proofs.proofs (map bits_of c.in_ok-marks.marks.items) c.in_ok-proofs.ensures.fits c.in_ok-proofs.ensures.claims c.in_ok-proofs.ensures.frames (c.in_ok-claims.ensures.greatest parts are)
    (all_tell parts routes counts m (map bits_of c.in_ok-marks.marks.items) are (c.in_ok-claims.ensures.looks parts are) c.in_ok-marks.ensures)
