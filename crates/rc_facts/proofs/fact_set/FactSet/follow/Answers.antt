use Rattle.std.proofs.Common.{◌≡◌, ◌∙◌, true, false, ap, refl, sym}
use Rattle.rc_facts.specs.declared.fact.Fact.TheVariants.{NonNull}
use Rattle.rc_facts.specs.Facts.{holds}
use Rattle.rc_facts.specs.Inside.{fields}
use Rattle.rc_facts.proofs.SetLaws.{test_is}
use Rattle.rc_facts.proofs.fact_set.FactSet.follow.Goals as goal

pub returns-then-contains-clause-facts : goal.returns-then-contains-clause-facts
returns-then-contains-clause-facts c =
    let s = c.self.inside in
    let is : holds c.args.self.now (NonNull c.args.x) ≡ true = sym (ap (λ test. test (NonNull c.args.x)) (test_is (fields s.within.items s.above.items s.traditional s.present) c.args.self.now c.self.view_is c.self.invariant)) ∙ sym c.if-contains.ensures in
    rw is (c.add_present.ensures.facts c.args.scratch c.requires.apart c.requires.shut c.requires.clean)

pub returns-else-contains-clause-facts : goal.returns-else-contains-clause-facts
returns-else-contains-clause-facts c =
    let s = c.self.inside in
    let out : holds c.args.self.now (NonNull c.args.x) ≡ false = sym (ap (λ test. test (NonNull c.args.x)) (test_is (fields s.within.items s.above.items s.traditional s.present) c.args.self.now c.self.view_is c.self.invariant)) ∙ sym c.if-contains.ensures in
    rw out refl
