use Rattle.std.proofs.Common.{◌≡◌, ◌∙◌, ◌||◌, ◌↔◌, IsTrue, sym, subst, ap}
use Rattle.rc_facts.specs.declared.fact.Fact.{Fact}
use Rattle.rc_facts.specs.Derivable.{Derivable}
use Rattle.rc_facts.specs.Facts.{Known, holds}
use Rattle.rc_annotations.proofs.Derivations.{derivable_more}
use Rattle.rc_carrying.specs.Passing.{listed}
use Rattle.rc_carrying.proofs.passing.restart.Goals as goal

pub returns-clause-facts : goal.returns-clause-facts
returns-clause-facts c = λ fact. subst (λ m. IsTrue (holds c.close.new.self fact) ↔ Derivable m (listed c.args.facts.now) fact) (c.fill.ensures.variables ∙ ap (λ (k : Known). k.variables) c.copy.ensures ∙ c.requires.variables)
    ((λ is. derivable_more (λ p e. sym (filled p) ∙ e) ((c.close.ensures.facts fact).0 is)), (λ d. (c.close.ensures.facts fact).1 (derivable_more (λ p e. filled p ∙ e) d)))
  where
    filled : (p : Fact) → holds c.fill.new.set p ≡ listed c.args.facts.now p
    filled p = c.fill.ensures.facts p ∙ ap (λ b. b || listed c.args.facts.now p) (ap (λ (k : Known). holds k p) c.copy.ensures ∙ c.requires.none p)
