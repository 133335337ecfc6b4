use Rattle.std.proofs.Common.{◌∙◌, sym, arith}
use Rattle.rc_facts.specs.Facts.{holds}
use Rattle.rc_facts.specs.declared.fact.Fact.TheVariants.{NonNull}
use Rattle.rc_facts.proofs.Behind.{behind_known}
use Rattle.rc_crossing.proofs.crossing.look_at.Goals as goal

pub returns-then-has-clause-facts : goal.returns-then-has-clause-facts
returns-then-has-clause-facts c = behind_known c.args.set.now.variables c.args.scratch (holds c.args.set.now) (NonNull c.args.y) c.requires.closed (sym c.has.ensures ∙ c.if-has.true)

pub returns-clause-facts : goal.returns-clause-facts
returns-clause-facts c = c.add_present.ensures.facts c.args.scratch (λ e. let r = e in let l = c.requires.y in omega (arith, r, l)) c.requires.closed.shut c.requires.closed.clean
