use Rattle.std.proofs.Common.{◌≡◌, ◌∙◌, ℕ, false, ◌∷◌, [], ap, sym}
use Rattle.rc_base.specs.BitSets.{marks}
use Rattle.rc_facts.specs.declared.fact.Fact.TheVariants.{In, NonNull, Trad, Up}
use Rattle.rc_facts.specs.Facts.{holds}
use Rattle.rc_facts.specs.Inside.{fields}
use Rattle.rc_facts.specs.Rows.{links}
use Rattle.rc_facts.specs.Shut.{placed}
use Rattle.rc_facts.proofs.Shut.{laws_of}
use Rattle.rc_facts.proofs.Assigning.{has, within_below, above_below, is_other}
use Rattle.rc_facts.proofs.Table.{row_law, loaded_same_placed, loaded_same_row}
use Rattle.rc_facts.proofs.fact_set.FactSet.assign_within.Goals as goal

pub place-requires-clause-row_in : goal.place-requires-clause-row_in
place-requires-clause-row_in c = λ x is. within_below (fields c.self.inside.within.items c.self.inside.above.items c.self.inside.traditional c.self.inside.present) c.args.self.now c.self.view_is c.self.invariant c.args.y x (ap (λ r. links r c.args.y x) (sym c.deref.ensures.value) ∙ sym (c.row_of-within.ensures x) ∙ is)

pub place-requires-clause-row_up : goal.place-requires-clause-row_up
place-requires-clause-row_up c = λ x is. above_below (fields c.self.inside.within.items c.self.inside.above.items c.self.inside.traditional c.self.inside.present) c.args.self.now c.self.view_is c.self.invariant c.args.y x (ap (λ r. links r c.args.y x) (sym c.deref-2.ensures.value) ∙ sym (c.row_of-above.ensures x) ∙ is)

pub returns-clause-facts : goal.returns-clause-facts
returns-clause-facts c =
    let s = c.self.inside in
    let f = fields s.within.items s.above.items s.traditional s.present in
    let n = c.args.self.now.variables in
    let old = holds c.args.self.now in
    let shut = c.requires.shut in
    let clean = c.requires.clean in
    let l = laws_of n c.args.scratch old shut clean in
    let trad : (y : ℕ) → marks s.traditional y ≡ old (Trad y) = λ y. has f c.args.self.now c.self.view_is c.self.invariant (Trad y) in
    let there : (y : ℕ) → marks s.present y ≡ old (NonNull y) = λ y. has f c.args.self.now c.self.view_is c.self.invariant (NonNull y) in
    let inside = is_other n c.args.scratch c.args.y c.requires.y c.requires.other in
    let within : (y : ℕ) → marks c.row_of-within.result y ≡ old (In c.args.y y) = λ y. c.row_of-within.ensures y ∙ ap (λ r. links r c.args.y y) c.deref.ensures.value ∙ has f c.args.self.now c.self.view_is c.self.invariant (In c.args.y y) in
    let above : (y : ℕ) → marks c.row_of-above.result y ≡ old (Up c.args.y y) = λ y. c.row_of-above.ensures y ∙ ap (λ r. links r c.args.y y) c.deref-2.ensures.value ∙ has f c.args.self.now c.self.view_is c.self.invariant (Up c.args.y y) in
    let wanted = loaded_same_placed n c.args.scratch old l clean c.args.y inside in
    let is : placed c.row_of-within.result c.row_of-above.result c.empty-none.result c.empty-none.result c.contains-root.result false ≡ wanted = λ i. record { row_in = λ y. within y i; row_up = λ y. above y i; into_in = λ y. c.empty-none.ensures y i; into_up = λ y. c.empty-none.ensures y i; trad = (c.contains-root.ensures ∙ trad c.args.y) i; present = false } in
    row_law n c.args.scratch c.args.x old (holds c.place.new.self) (In c.args.scratch c.args.y ∷ []) wanted (placed c.row_of-within.result c.row_of-above.result c.empty-none.result c.empty-none.result c.contains-root.result false) c.requires.scratch c.requires.apart shut clean (loaded_same_row n c.args.scratch old l clean c.args.y inside) is c.place.ensures.facts
