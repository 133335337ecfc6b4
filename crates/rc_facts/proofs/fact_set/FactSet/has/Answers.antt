use Rattle.std.proofs.Common.{◌∙◌, ap, sym}
use Rattle.rc_facts.specs.declared.fact.Fact.TheVariants.{In, Up, Trad, NonNull}
use Rattle.rc_facts.specs.Facts.{holds}
use Rattle.rc_facts.specs.Inside.{fields}
use Rattle.rc_facts.specs.Rows.{links}
use Rattle.rc_facts.proofs.SetLaws.{test_is}
use Rattle.rc_facts.proofs.fact_set.FactSet.has.Goals as goal

pub returns-in-In : goal.returns-in-In
returns-in-In c =
    let s = c.self.inside in
    let before = test_is (fields s.within.items s.above.items s.traditional s.present) c.args.self.now c.self.view_is c.self.invariant in
    c.linked.ensures ∙ ap (λ rows. links rows c.in-In.x c.in-In.y) c.deref.ensures.value ∙ ap (λ test. test (In c.in-In.x c.in-In.y)) before ∙ ap (holds c.args.self.now) (sym c.in-In.is)

pub returns-in-Up : goal.returns-in-Up
returns-in-Up c =
    let s = c.self.inside in
    let before = test_is (fields s.within.items s.above.items s.traditional s.present) c.args.self.now c.self.view_is c.self.invariant in
    c.linked-in-Up.ensures ∙ ap (λ rows. links rows c.in-Up.x c.in-Up.y) c.deref-in-Up.ensures.value ∙ ap (λ test. test (Up c.in-Up.x c.in-Up.y)) before ∙ ap (holds c.args.self.now) (sym c.in-Up.is)

pub returns-in-Trad : goal.returns-in-Trad
returns-in-Trad c =
    let s = c.self.inside in
    let before = test_is (fields s.within.items s.above.items s.traditional s.present) c.args.self.now c.self.view_is c.self.invariant in
    c.contains.ensures ∙ ap (λ test. test (Trad c.in-Trad.x)) before ∙ ap (holds c.args.self.now) (sym c.in-Trad.is)

pub returns-in-NonNull : goal.returns-in-NonNull
returns-in-NonNull c =
    let s = c.self.inside in
    let before = test_is (fields s.within.items s.above.items s.traditional s.present) c.args.self.now c.self.view_is c.self.invariant in
    c.contains-in-NonNull.ensures ∙ ap (λ test. test (NonNull c.in-NonNull.x)) before ∙ ap (holds c.args.self.now) (sym c.in-NonNull.is)
