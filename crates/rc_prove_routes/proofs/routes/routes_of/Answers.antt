use Rattle.std.proofs.Common.{◌≡◌, length, subst, arith}
use Rattle.rc_prove_routes.specs.Routed.{AreFirst, IsFound}
use Rattle.rc_prove_routes.proofs.Routing.{all_counts_fit, all_fit, are_routes, routes_more}
use Rattle.rc_prove_routes.proofs.routes.routes_of.Goals as goal

pub loop-at-preserved : goal.loop-at-preserved
loop-at-preserved c =
    let P = c.args.parts.now in
    let found = c.in_ok-found.found in
    let is : IsFound P c.loop-at.at found = subst (λ k. IsFound P k found) c.in_ok-number.ensures c.in_ok-found.ensures in
    routes_more P c.loop-at.at c.loop-at.all.routes.items c.put.new.all.routes.items c.loop-at.all.counts.items c.put.new.all.counts.items found.route found.counts c.in_ok-put.ensures.routes c.in_ok-put.ensures.counts is.route is.counts c.loop-at.invariant

pub returns-clause-counts : goal.returns-clause-counts
returns-clause-counts c =
    let P = c.args.parts.now in
    let last : c.loop-at.at ≡ length P.functions = (let f = c.loop-at-test.false in let e = c.loop-at.auto.at-end in let n = c.functions_in-size.ensures in omega (arith, f, e, n)) in
    all_counts_fit P c.requires.sound c.requires.narrow c.loop-at.all.routes.items c.loop-at.all.counts.items (subst (λ k. AreFirst P k c.loop-at.all.routes.items c.loop-at.all.counts.items) last c.loop-at.invariant)

pub returns-clause-fits : goal.returns-clause-fits
returns-clause-fits c =
    let P = c.args.parts.now in
    let last : c.loop-at.at ≡ length P.functions = (let f = c.loop-at-test.false in let e = c.loop-at.auto.at-end in let n = c.functions_in-size.ensures in omega (arith, f, e, n)) in
    all_fit P c.requires.sound c.requires.narrow c.loop-at.all.routes.items c.loop-at.all.counts.items (subst (λ k. AreFirst P k c.loop-at.all.routes.items c.loop-at.all.counts.items) last c.loop-at.invariant)

pub returns-clause-routes : goal.returns-clause-routes
returns-clause-routes c =
    let P = c.args.parts.now in
    let last : c.loop-at.at ≡ length P.functions = (let f = c.loop-at-test.false in let e = c.loop-at.auto.at-end in let n = c.functions_in-size.ensures in omega (arith, f, e, n)) in
    are_routes P c.requires.sound c.requires.narrow c.loop-at.all.routes.items c.loop-at.all.counts.items (subst (λ k. AreFirst P k c.loop-at.all.routes.items c.loop-at.all.counts.items) last c.loop-at.invariant)
