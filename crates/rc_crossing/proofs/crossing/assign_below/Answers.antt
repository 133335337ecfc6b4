use Rattle.std.proofs.Common.{◌∷◌, [], arith}
use Rattle.rc_facts.specs.Facts.{holds}
use Rattle.rc_facts.specs.declared.fact.Fact.TheVariants.{NonNull, Up}
use Rattle.rc_facts.proofs.Behind.{behind_first, closed_again}
use Rattle.rc_crossing.proofs.crossing.assign_below.Goals as goal

pub assign_under-requires-clause-shut : goal.assign_under-requires-clause-shut
unfolding holds
assign_under-requires-clause-shut c = rw c.look_at.ensures.variables (closed_again c.args.set.now.variables c.args.scratch (holds c.args.set.now) (holds c.look_at.new.set) (NonNull c.args.y ∷ []) c.look_at.ensures.facts).shut

pub returns-clause-facts : goal.returns-clause-facts
unfolding holds
returns-clause-facts c =
    let then = rw c.look_at.ensures.variables at c.assign_under.ensures.facts in
    behind_first c.args.set.now.variables c.args.scratch c.args.x c.args.y (holds c.args.set.now) (holds c.look_at.new.set) (holds c.assign_under.new.self) (NonNull c.args.scratch ∷ Up c.args.y c.args.scratch ∷ []) c.requires.closed (λ e. let r = e in let l = c.requires.y in omega (arith, r, l)) c.look_at.ensures.facts then
