use Rattle.std.proofs.Common.{◌∙◌, sym}
use Rattle.rc_facts.specs.Facts.{holds}
use Rattle.rc_facts.specs.declared.fact.Fact.TheVariants.{In}
use Rattle.rc_facts.proofs.Behind.{behind_known}
use Rattle.rc_crossing.proofs.crossing.link.Goals as goal

pub returns-then-has-clause-facts : goal.returns-then-has-clause-facts
returns-then-has-clause-facts c = behind_known c.args.set.now.variables c.args.scratch (holds c.args.set.now) (In c.args.x c.args.y) c.requires.closed (sym c.has.ensures ∙ c.if-has.true)
