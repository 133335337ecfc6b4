use Rattle.std.proofs.Common.{suc, IsTrue, ◌↔◌, ◌∙◌, subst}
use Rattle.rc_facts.specs.Facts.{holds}
use Rattle.rc_facts.specs.Derivable.{Derivable}
use Rattle.rc_boundaries.proofs.Handing.{settled_some}
use Rattle.rc_boundaries.proofs.returns.tie.Goals as goal

pub returns-clause-facts : goal.returns-clause-facts
returns-clause-facts c = settled_some (suc c.args.spare) c.args.spare c.args.x (holds c.args.known.now) (holds c.add.new.self) (holds c.add-2.new.self) (holds c.close.new.self) c.add.ensures.facts c.add-2.ensures.facts (λ p. subst (λ m. IsTrue (holds c.close.new.self p) ↔ Derivable m (holds c.add-2.new.self) p) (c.add-2.ensures.variables ∙ c.add.ensures.variables ∙ c.requires.variables) (c.close.ensures.facts p))
