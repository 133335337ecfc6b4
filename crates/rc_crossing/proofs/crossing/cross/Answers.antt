use Rattle.rc_facts.specs.Facts.{holds}
use Rattle.rc_facts.proofs.Behind.{behind_nothing}
use Rattle.rc_crossing.proofs.crossing.cross.Goals as goal

pub returns-in-Nothing-clause-facts : goal.returns-in-Nothing-clause-facts
returns-in-Nothing-clause-facts c = rw c.in-Nothing.is (behind_nothing c.args.set.now.variables c.args.scratch (holds c.args.set.now) c.requires.closed)
