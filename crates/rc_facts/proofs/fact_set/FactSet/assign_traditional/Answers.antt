use Rattle.std.proofs.Common.{◌≡◌, ◌∙◌, ℕ, true, false, ◌&&◌, ◌∷◌, [], sym}
use Rattle.std.proofs.lemmas.Bool.{and_parts}
use Rattle.rc_base.specs.BitSets.{marks}
use Rattle.rc_facts.specs.declared.fact.Fact.TheVariants.{NonNull, Trad}
use Rattle.rc_facts.specs.Facts.{holds}
use Rattle.rc_facts.specs.Inside.{fields}
use Rattle.rc_facts.specs.Shut.{placed}
use Rattle.rc_facts.proofs.Shut.{laws_of}
use Rattle.rc_facts.proofs.Assigning.{has, trad_below, present_below}
use Rattle.rc_facts.proofs.Table.{row_law, loaded_trad_placed, loaded_trad_row}
use Rattle.rc_facts.proofs.fact_set.FactSet.assign_traditional.Goals as goal

pub place-requires-clause-row_in : goal.place-requires-clause-row_in
place-requires-clause-row_in c = λ y is. trad_below (fields c.self.inside.within.items c.self.inside.above.items c.self.inside.traditional c.self.inside.present) c.args.self.now c.self.view_is c.self.invariant y (and_parts (marks c.self.inside.traditional y) _ (sym (c.intersection.ensures y) ∙ is)).0

pub place-requires-clause-row_up : goal.place-requires-clause-row_up
place-requires-clause-row_up c = present_below (fields c.self.inside.within.items c.self.inside.above.items c.self.inside.traditional c.self.inside.present) c.args.self.now c.self.view_is c.self.invariant

pub returns-clause-facts : goal.returns-clause-facts
returns-clause-facts c =
    let s = c.self.inside in
    let f = fields s.within.items s.above.items s.traditional s.present in
    let n = c.args.self.now.variables in
    let old = holds c.args.self.now in
    let shut = c.requires.shut in
    let clean = c.requires.clean in
    let l = laws_of n c.args.scratch old shut clean in
    let trad : (y : ℕ) → marks s.traditional y ≡ old (Trad y) = λ y. has f c.args.self.now c.self.view_is c.self.invariant (Trad y) in
    let there : (y : ℕ) → marks s.present y ≡ old (NonNull y) = λ y. has f c.args.self.now c.self.view_is c.self.invariant (NonNull y) in
    let wanted = loaded_trad_placed n c.args.scratch old l clean in
    let is : placed c.intersection.result s.present c.empty-none.result c.empty-none.result true false ≡ wanted = λ i. record { row_in = λ y. (c.intersection.ensures y ∙ (λ j. trad y j && there y j)) i; row_up = λ y. there y i; into_in = λ y. c.empty-none.ensures y i; into_up = λ y. c.empty-none.ensures y i; trad = true; present = false } in
    row_law n c.args.scratch c.args.x old (holds c.place.new.self) (Trad c.args.scratch ∷ []) wanted (placed c.intersection.result s.present c.empty-none.result c.empty-none.result true false) c.requires.scratch c.requires.apart shut clean (loaded_trad_row n c.args.scratch old l clean) is c.place.ensures.facts
