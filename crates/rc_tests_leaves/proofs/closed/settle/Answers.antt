use Rattle.std.proofs.Common.{◌≡◌, ◌∙◌, true, sym}
use Rattle.std.proofs.lemmas.Bool.{and_from, and_parts}
use Rattle.rc_facts.specs.declared.fact.Fact.{Fact}
use Rattle.rc_facts.specs.Derivable.{Derivable}
use Rattle.rc_facts.specs.Facts.{holds, names}
use Rattle.rc_facts.proofs.Shut.{falsely, truly}
use Rattle.rc_facts.proofs.Table.{follows_cut}
use Rattle.rc_tests_leaves.proofs.closed.settle.Goals as goal

pub returns-clause-shut : goal.returns-clause-shut
unfolding holds
returns-clause-shut c =
    let closes = rw c.requires at c.close.ensures.facts in
    let back : (g : Fact) → holds c.forget.new.self g ≡ true → Derivable 4 (holds c.args.set.now) g = λ g at. (closes g).0 (and_parts (holds c.close.new.self g) _ (sym (c.forget.ensures.facts g) ∙ at)).0 in
    λ fact unnamed d. c.forget.ensures.facts fact ∙ and_from (holds c.close.new.self fact) _ ((closes fact).1 (follows_cut back d)) (truly (names 3 fact) unnamed)

pub returns-clause-clean : goal.returns-clause-clean
returns-clause-clean c = λ fact at. falsely (names 3 fact) (and_parts (holds c.close.new.self fact) _ (sym (c.forget.ensures.facts fact) ∙ at)).1
