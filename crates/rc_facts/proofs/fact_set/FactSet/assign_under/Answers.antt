use Rattle.std.proofs.Common.{◌≡◌, ◌∙◌, ℕ, true, false, ◌||◌, ◌∷◌, [], ap, sym, refl, inl, inr}
use Rattle.std.proofs.lemmas.Bool.{or_cases, or_left, or_right, eqb-true, eq-eqb}
use Rattle.rc_base.specs.BitSets.{marks}
use Rattle.rc_facts.specs.declared.fact.Fact.TheVariants.{NonNull, Trad, Up}
use Rattle.rc_facts.specs.Facts.{holds}
use Rattle.rc_facts.specs.Inside.{fields}
use Rattle.rc_facts.specs.Rows.{links}
use Rattle.rc_facts.specs.Shut.{placed}
use Rattle.rc_facts.proofs.Shut.{laws_of}
use Rattle.rc_facts.proofs.Assigning.{has, trad_below, above_from, is_other, same_bool}
use Rattle.rc_facts.proofs.Table.{row_law, under_placed, under_row}
use Rattle.rc_facts.proofs.fact_set.FactSet.assign_under.Goals as goal

pub place-requires-clause-into_up : goal.place-requires-clause-into_up
place-requires-clause-into_up c = λ x is.
    let s = c.self.inside in
    let f = fields s.within.items s.above.items s.traditional s.present in
    elim ((c.led_back-over.ensures x).0 is) [
      | inl at ↦ elim (or_cases (marks s.traditional x) _ (sym (c.with.ensures x) ∙ at)) [
        | inl root ↦ trad_below f c.args.self.now c.self.view_is c.self.invariant x root
        | inr own ↦ rw (eqb-true x c.args.y own) c.requires.y
      ]
      | inr (k, link, _) ↦ above_from f c.args.self.now c.self.view_is c.self.invariant x k (ap (λ r. links r x k) (sym c.deref.ensures.value) ∙ link)
    ]

pub returns-clause-facts : goal.returns-clause-facts
returns-clause-facts c =
    let s = c.self.inside in
    let f = fields s.within.items s.above.items s.traditional s.present in
    let n = c.args.self.now.variables in
    let old = holds c.args.self.now in
    let shut = c.requires.shut in
    let clean = c.requires.clean in
    let l = laws_of n c.args.scratch old shut clean in
    let trad : (y : ℕ) → marks s.traditional y ≡ old (Trad y) = λ y. has f c.args.self.now c.self.view_is c.self.invariant (Trad y) in
    let there : (y : ℕ) → marks s.present y ≡ old (NonNull y) = λ y. has f c.args.self.now c.self.view_is c.self.invariant (NonNull y) in
    let inside = is_other n c.args.scratch c.args.y c.requires.y c.requires.other in
    let up : (x y : ℕ) → links s.above.items x y ≡ old (Up x y) = λ x y. has f c.args.self.now c.self.view_is c.self.invariant (Up x y) in
    let over : (x : ℕ) → marks c.led_back-over.result x ≡ (old (Trad x) || old (Up x c.args.y)) = λ x. same_bool _ _
    (λ is. elim ((c.led_back-over.ensures x).0 is) [
      | inl at ↦ elim (or_cases (marks s.traditional x) _ (sym (c.with.ensures x) ∙ at)) [
        | inl root ↦ or_left (old (Trad x)) _ (sym (trad x) ∙ root)
        | inr own ↦ rw (eqb-true x c.args.y own) (or_right (old (Trad c.args.y)) _ (l.in_up c.args.y c.args.y (l.itself c.args.y inside)))
      ]
      | inr (k, link, at) ↦ elim (or_cases (marks s.traditional k) _ (sym (c.with.ensures k) ∙ at)) [
        | inl root ↦ or_left (old (Trad x)) _ (l.up_trad x k (sym (up x k) ∙ (ap (λ r. links r x k) (sym c.deref.ensures.value) ∙ link)) (sym (trad k) ∙ root))
        | inr own ↦ or_right (old (Trad x)) _ (ap (λ v. old (Up x v)) (sym (eqb-true k c.args.y own)) ∙ (sym (up x k) ∙ (ap (λ r. links r x k) (sym c.deref.ensures.value) ∙ link)))
      ]
    ])
    (λ is. (c.led_back-over.ensures x).1 (elim (or_cases (old (Trad x)) _ is) [
      | inl root ↦ inl (c.with.ensures x ∙ or_left (marks s.traditional x) _ (trad x ∙ root))
      | inr link ↦ inr (c.args.y, ap (λ r. links r x c.args.y) c.deref.ensures.value ∙ up x c.args.y ∙ link, c.with.ensures c.args.y ∙ or_right (marks s.traditional c.args.y) _ (eq-eqb c.args.y c.args.y refl))
    ])) in
    let wanted = under_placed n c.args.scratch old l clean c.args.y inside in
    let is : placed c.empty-none.result c.empty-none.result c.empty-none.result c.led_back-over.result false true ≡ wanted = λ i. record { row_in = λ y. c.empty-none.ensures y i; row_up = λ y. c.empty-none.ensures y i; into_in = λ y. c.empty-none.ensures y i; into_up = λ y. over y i; trad = false; present = true } in
    row_law n c.args.scratch c.args.x old (holds c.place.new.self) (NonNull c.args.scratch ∷ Up c.args.y c.args.scratch ∷ []) wanted (placed c.empty-none.result c.empty-none.result c.empty-none.result c.led_back-over.result false true) c.requires.scratch c.requires.apart shut clean (under_row n c.args.scratch old l clean c.args.y inside) is c.place.ensures.facts
