use Rattle.std.proofs.Common.{suc, IsTrue, ◌↔◌, subst}
use Rattle.rc_facts.specs.Facts.{holds}
use Rattle.rc_facts.specs.Derivable.{Derivable}
use Rattle.rc_boundaries.proofs.Handing.{settled_none}
use Rattle.rc_boundaries.proofs.returns.settle.Goals as goal

pub returns-in-None-clause-facts : goal.returns-in-None-clause-facts
returns-in-None-clause-facts c = rw c.in-None.is (settled_none (suc c.args.spare) c.args.spare (holds c.args.known.now) (holds c.close.new.self) (λ p. subst (λ m. IsTrue (holds c.close.new.self p) ↔ Derivable m (holds c.args.known.now) p) c.requires.variables (c.close.ensures.facts p)))

pub returns-in-Some-clause-facts : goal.returns-in-Some-clause-facts
returns-in-Some-clause-facts c = rw c.in-Some.is c.tie.ensures.facts
