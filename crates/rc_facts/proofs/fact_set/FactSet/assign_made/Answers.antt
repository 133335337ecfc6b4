use Rattle.std.proofs.Common.{◌≡◌, ℕ, true, false, List, ◌∷◌, [], ap}
use Rattle.std.proofs.lemmas.Bool.{ltb-true}
use Rattle.rc_facts.specs.declared.fact.Fact.{Fact}
use Rattle.rc_facts.specs.declared.fact.Fact.TheVariants.{NonNull, Trad}
use Rattle.rc_base.specs.BitSets.{marks}
use Rattle.rc_facts.specs.Facts.{holds}
use Rattle.rc_facts.specs.Inside.{fields}
use Rattle.rc_facts.specs.Shut.{placed}
use Rattle.rc_facts.proofs.Shut.{laws_of}
use Rattle.rc_facts.proofs.SetLaws.{test_is}
use Rattle.rc_facts.proofs.Table.{row_law, made_placed, made_row}
use Rattle.rc_facts.proofs.fact_set.FactSet.assign_made.Goals as goal

pub place-requires-clause-into_up : goal.place-requires-clause-into_up
place-requires-clause-into_up c = λ y is. rw (ap (λ known. known.variables) c.self.view_is) at (ltb-true y _ (c.self.invariant.over (Trad y) is))

abbrev one : Fact → List Fact
one fact = fact ∷ []

pub returns-clause-facts : goal.returns-clause-facts
returns-clause-facts c =
    let s = c.self.inside in
    let n = c.args.self.now.variables in
    let old = holds c.args.self.now in
    let traditional : (y : ℕ) → marks s.traditional y ≡ old (Trad y) = λ y. ap (λ test. test (Trad y)) (test_is (fields s.within.items s.above.items s.traditional s.present) c.args.self.now c.self.view_is c.self.invariant) in
    let none = c.empty-none.result in
    let wanted = made_placed n c.args.scratch old (laws_of n c.args.scratch old c.requires.shut c.requires.clean) c.requires.clean in
    let same : placed none none none s.traditional false true ≡ wanted = λ i. record { row_in = λ y. c.empty-none.ensures y i; row_up = λ y. c.empty-none.ensures y i; into_in = λ y. c.empty-none.ensures y i; into_up = λ y. traditional y i; trad = false; present = true } in
    row_law n c.args.scratch c.args.x old (holds c.place.new.self) (one (NonNull c.args.scratch)) wanted (placed none none none s.traditional false true) c.requires.scratch c.requires.apart c.requires.shut c.requires.clean (made_row n c.args.scratch old (laws_of n c.args.scratch old c.requires.shut c.requires.clean) c.requires.clean) same c.place.ensures.facts
