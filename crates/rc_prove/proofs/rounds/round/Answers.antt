use Rattle.std.proofs.Common.{◌∙◌, get_or, Some, sym, ap, subst, arith}
use Rattle.std.proofs.lemmas.Option.{slice_get-get_or}
use Rattle.rc_prove_parts.specs.declared.route.Route.{Route}
use Rattle.rc_prove.specs.Family.{family_of, RouteFits, Rounded}
use Rattle.rc_prove.proofs.Families.{fits_later, rounded_none, rounded_more}
use Rattle.rc_prove.proofs.rounds.round.Goals as goal

pub loop-at-init : goal.loop-at-init
loop-at-init c = rounded_none c.args.routes.now (family_of c.args.entries.now c.args.exits.now c.args.frames.now)

pub lower_at-requires : goal.lower_at-requires
lower_at-requires c = subst (λ (r : Route). RouteFits r (family_of c.loop-at.entries c.loop-at.exits c.loop-at.frames)) (sym c.index-routes-at.is) (fits_later (family_of c.args.entries.now c.args.exits.now c.args.frames.now) (family_of c.loop-at.entries c.loop-at.exits c.loop-at.frames) c.loop-at.invariant.lessened.fewer (get_or c.args.routes.now c.loop-at.at c.index-routes-at.result) (c.requires c.loop-at.at c.index-routes-at.result c.loop-at-test.true))

pub loop-at-preserved : goal.loop-at-preserved
loop-at-preserved c = rounded_more c.args.routes.now c.loop-at.at c.index-routes-at.result (family_of c.args.entries.now c.args.exits.now c.args.frames.now) (family_of c.loop-at.entries c.loop-at.exits c.loop-at.frames) (family_of c.lower_at.new.entries c.lower_at.new.exits c.lower_at.new.frames)
    c.loop-at.lost c.in_ok-more.more c.loop-at-test.true c.index-routes-at.is (slice_get-get_or c.args.routes.now c.loop-at.at c.index-routes-at.result c.loop-at-test.true ∙ ap Some (sym c.index-routes-at.is)) c.loop-at.invariant c.in_ok-more.ensures

pub returns : goal.returns
returns c = subst (λ k. Rounded c.args.routes.now k (family_of c.args.entries.now c.args.exits.now c.args.frames.now) (family_of c.loop-at.entries c.loop-at.exits c.loop-at.frames) c.loop-at.lost) (let f = c.loop-at-test.false in let e = c.loop-at.auto.at-end in omega (arith, f, e)) c.loop-at.invariant
