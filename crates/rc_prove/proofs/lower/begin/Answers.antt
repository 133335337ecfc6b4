use Rattle.std.proofs.Common.{◌≡◌, ◌∙◌, ◌↔◌, ◌||◌, suc, ◌+◌, IsTrue, sym, ap, subst, arith}
use Rattle.rc_facts.specs.declared.fact.Fact.{Fact}
use Rattle.rc_facts.specs.Derivable.{Derivable}
use Rattle.rc_facts.specs.Facts.{holds}
use Rattle.rc_annotations.specs.Annotations.{some_pair}
use Rattle.rc_annotations.proofs.Derivations.{derivable_more}
use Rattle.rc_sealed.specs.Carrying.{entry_pairs}
use Rattle.rc_prove.proofs.lower.begin.Goals as goal

pub add_pairs-requires : goal.add_pairs-requires
add_pairs-requires c = record { room = (let r = c.requires.room in let v = c.in_ok-work.ensures.variables in omega (arith, r, v)); few = (let r = c.requires.room in let f = c.requires.few in omega (arith, r, f)) }

pub returns-clause-facts : goal.returns-clause-facts
returns-clause-facts c = λ fact. subst (λ n. IsTrue (holds c.close.new.self fact) ↔ Derivable n (λ p. holds c.args.entry.now p || some_pair (entry_pairs c.args.place.copies c.args.place.copies) p) fact) (c.add_pairs.ensures.variables ∙ c.in_ok-work.ensures.variables ∙ two)
    ((λ is. derivable_more (λ p e. sym (whole p) ∙ e) ((c.close.ensures.facts fact).0 is)), (λ d. (c.close.ensures.facts fact).1 (derivable_more (λ p e. whole p ∙ e) d)))
  where
    two : c.args.place.result + 2 ≡ suc (suc c.args.place.result)
    two = omega arith

    whole : (p : Fact) → holds c.add_pairs.new.work p ≡ (holds c.args.entry.now p || some_pair (entry_pairs c.args.place.copies c.args.place.copies) p)
    whole p = c.add_pairs.ensures.facts p ∙ ap (λ b. b || some_pair (entry_pairs c.args.place.copies c.args.place.copies) p) (c.in_ok-work.ensures.facts p)
