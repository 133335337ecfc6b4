use Rattle.std.proofs.Common.{◌≡◌, sym, subst}
use Rattle.std.specs.List.{All}
use Rattle.rc_code.specs.Running.{reading_of}
use Rattle.rc_prove_parts.specs.declared.route.Route.{Route}
use Rattle.rc_prove.specs.Family.{Family, family_of, IsRoute, RouteFits}
use Rattle.rc_prove.specs.Starting.{AreShaped}
use Rattle.rc_prove.specs.TheGreatest.{AreGreatest}
use Rattle.rc_prove.proofs.Families.{all_fit, all_look}
use Rattle.rc_prove.proofs.Starts.{shaped}
use Rattle.rc_prove.proofs.Answering.{are_greatest}
use Rattle.rc_prove.proofs.answer.greatest.Goals.{In_ok-done}
use Rattle.rc_prove.proofs.answer.greatest.Goals as goal

abbrev first : goal.In_ok-done → Family
first c = family_of c.in_ok-claims.claims.entries.items c.in_ok-claims.claims.exits.items c.in_ok-claims.claims.frames.items

abbrev last : goal.In_ok-done → Family
last c = family_of c.lower_all.new.claims.entries.items c.lower_all.new.claims.exits.items c.lower_all.new.claims.frames.items

abbrev given : goal.In_ok-done → Family
given c = family_of c.in_ok-done.done.entries.items c.in_ok-done.done.exits.items c.in_ok-done.done.frames.items

same : (c : goal.In_ok-done) → last c ≡ given c
same c = sym c.in_ok-done.ensures

pub lower_all-requires : goal.lower_all-requires
lower_all-requires c = c.requires.routes (family_of c.in_ok-claims.claims.entries.items c.in_ok-claims.claims.exits.items c.in_ok-claims.claims.frames.items) c.in_ok-claims.ensures

pub returns-clause-greatest : goal.returns-clause-greatest
returns-clause-greatest c = λ parts are. subst (AreGreatest parts) (same c) (are_greatest parts c.args.routes.now c.args.counts.now are (first c) (last c) c.in_ok-claims.ensures c.in_ok-lower_all.ensures)

pub returns-clause-shaped : goal.returns-clause-shaped
returns-clause-shaped c = subst (AreShaped c.args.counts.now) (same c) (shaped c.args.counts.now (first c) (last c) c.in_ok-claims.ensures c.in_ok-lower_all.ensures.lessened.fewer)

pub returns-clause-fits : goal.returns-clause-fits
returns-clause-fits c = subst (λ m. All (λ (route : Route). RouteFits route m) c.args.routes.now) (same c) (all_fit (first c) (last c) c.in_ok-lower_all.ensures.lessened.fewer c.args.routes.now (c.requires.routes (first c) c.in_ok-claims.ensures))

pub returns-clause-looks : goal.returns-clause-looks
returns-clause-looks c = λ parts are. subst (λ m. All (IsRoute (reading_of parts) m) c.args.routes.now) (same c) (all_look (first c) (last c) c.in_ok-lower_all.ensures.lessened.fewer c.args.routes.now (reading_of parts) (are.looks (first c) c.in_ok-claims.ensures))
