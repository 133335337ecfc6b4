use Rattle.std.proofs.Common.{◌∷◌, []}
use Rattle.rc_facts.specs.Facts.{holds}
use Rattle.rc_facts.specs.declared.fact.Fact.TheVariants.{NonNull}
use Rattle.rc_facts.proofs.Behind.{closed_again}
use Rattle.rc_edges.specs.News.{note_news}
use Rattle.rc_crossing.proofs.Effects.{behind_present}
use Rattle.rc_crossing.proofs.crossing.store.Goals as goal

pub note-requires-clause-closed : goal.note-requires-clause-closed
unfolding holds
note-requires-clause-closed c = rw c.look_at.ensures.variables (closed_again c.args.set.now.variables c.args.scratch (holds c.args.set.now) (holds c.look_at.new.set) (NonNull c.args.y ∷ []) c.look_at.ensures.facts)

pub returns-clause-facts : goal.returns-clause-facts
unfolding holds
returns-clause-facts c =
    let then = rw c.look_at.ensures.variables at c.note.ensures.facts in
    behind_present c.args.set.now.variables c.args.scratch c.args.y (note_news c.args.annotation c.args.value c.args.y) (holds c.args.set.now) (holds c.look_at.new.set) (holds c.note.new.set) c.requires.y c.requires.closed c.look_at.ensures.facts then
