use Rattle.std.proofs.Common.{◌∷◌, [], arith}
use Rattle.rc_facts.specs.Facts.{holds}
use Rattle.rc_facts.specs.declared.fact.Fact.TheVariants.{In, NonNull}
use Rattle.rc_facts.proofs.Behind.{behind_first, closed_again}
use Rattle.rc_crossing.proofs.Effects.{present_there}
use Rattle.rc_crossing.proofs.crossing.assign_beside.Goals as goal

pub assign_moved-requires-clause-shut : goal.assign_moved-requires-clause-shut
unfolding holds
assign_moved-requires-clause-shut c = rw c.look_at.ensures.variables (closed_again c.args.set.now.variables c.args.scratch (holds c.args.set.now) (holds c.look_at.new.set) (NonNull c.args.y ∷ []) c.look_at.ensures.facts).shut

pub returns-clause-facts : goal.returns-clause-facts
unfolding holds
returns-clause-facts c =
    let then = rw c.look_at.ensures.variables at c.assign_moved.ensures.beside (present_there c.args.set.now.variables c.args.scratch c.args.y (holds c.args.set.now) (holds c.look_at.new.set) c.requires.y c.look_at.ensures.facts) in
    behind_first c.args.set.now.variables c.args.scratch c.args.x c.args.y (holds c.args.set.now) (holds c.look_at.new.set) (holds c.assign_moved.new.self) (NonNull c.args.scratch ∷ In c.args.scratch c.args.y ∷ []) c.requires.closed (λ e. let r = e in let l = c.requires.y in omega (arith, r, l)) c.look_at.ensures.facts then
