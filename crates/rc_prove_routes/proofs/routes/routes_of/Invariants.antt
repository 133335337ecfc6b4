use Rattle.rc_prove_routes.specs.Routed.{AreFirst}
use Rattle.rc_prove_routes.proofs.routes.routes_of.Given as goal

abbrev pub invariant-loop-at : goal.invariant-loop-at
invariant-loop-at l = AreFirst l.parts l.at l.all.routes.items l.all.counts.items
