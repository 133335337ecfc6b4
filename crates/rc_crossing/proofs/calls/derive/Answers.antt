use Rattle.std.proofs.Common.{◌↔◌, IsTrue, subst}
use Rattle.rc_facts.specs.Derivable.{Derivable}
use Rattle.rc_facts.specs.Facts.{holds}
use Rattle.rc_facts.proofs.Behind.{derived_to}
use Rattle.rc_crossing.proofs.calls.derive.Goals as goal

pub returns-clause-facts : goal.returns-clause-facts
returns-clause-facts c = derived_to c.args.set.now.variables c.args.news.now (holds c.args.set.now) (holds c.fill.new.set) (holds c.close.new.self) c.fill.ensures.facts (λ p. subst (λ m. IsTrue (holds c.close.new.self p) ↔ Derivable m (holds c.fill.new.set) p) c.fill.ensures.variables (c.close.ensures.facts p))
