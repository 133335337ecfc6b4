use Rattle.std.proofs.Common.{◌∷◌, [], arith}
use Rattle.rc_facts.specs.Facts.{holds}
use Rattle.rc_facts.specs.declared.fact.Fact.TheVariants.{NonNull}
use Rattle.rc_facts.proofs.Behind.{behind_first, closed_again}
use Rattle.rc_edges.specs.News.{note_news}
use Rattle.rc_crossing.proofs.crossing.load.Goals as goal

pub assign_noted-requires-clause-closed : goal.assign_noted-requires-clause-closed
unfolding holds
assign_noted-requires-clause-closed c = rw c.look_at.ensures.variables (closed_again c.args.set.now.variables c.args.scratch (holds c.args.set.now) (holds c.look_at.new.set) (NonNull c.args.y ∷ []) c.look_at.ensures.facts)

pub returns-clause-facts : goal.returns-clause-facts
unfolding holds
returns-clause-facts c =
    let then = rw c.look_at.ensures.variables at c.assign_noted.ensures.facts in
    behind_first c.args.set.now.variables c.args.scratch c.args.x c.args.y (holds c.args.set.now) (holds c.look_at.new.set) (holds c.assign_noted.new.set) (note_news c.args.annotation c.args.scratch c.args.y) c.requires.closed (λ e. let r = e in let l = c.requires.y in omega (arith, r, l)) c.look_at.ensures.facts then
