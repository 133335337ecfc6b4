use Rattle.std.proofs.Common.{◌∙◌, sym}
use Rattle.rc_facts.specs.Facts.{holds}
use Rattle.rc_facts.proofs.Behind.{settled_same}
use Rattle.rc_crossing.proofs.calls.settle.Goals as goal

pub returns-then-not-lacks-clause-facts : goal.returns-then-not-lacks-clause-facts
returns-then-not-lacks-clause-facts c = settled_same c.args.set.now.variables c.args.scratch c.args.news.now (holds c.args.set.now) c.requires.closed.shut (sym c.lacks.ensures ∙ c.if-not-lacks.true)
