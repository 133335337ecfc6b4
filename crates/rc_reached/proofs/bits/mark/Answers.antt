use Rattle.rc_reached.proofs.Rows.{mark_here, mark_others}
use Rattle.rc_reached.proofs.bits.mark.Goals as goal

pub returns-clause-marked : goal.returns-clause-marked
returns-clause-marked c = mark_here c.args.words.now c.args.place c.requires.room

pub returns-clause-others : goal.returns-clause-others
returns-clause-others c = mark_others c.args.words.now c.args.place c.requires.room
