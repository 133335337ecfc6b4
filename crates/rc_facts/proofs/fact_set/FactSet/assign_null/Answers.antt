use Rattle.std.proofs.Common.{◌≡◌, ◌∙◌, ℕ, true, false, ◌&&◌, not, nat_lt, ◌==◌, length, ap, refl}
use Rattle.std.proofs.lemmas.Bool.{or_left, or_right, and_parts, eq-eqb, ltb-true}
use Rattle.rc_base.specs.BitSets.{marks}
use Rattle.rc_facts.specs.declared.fact.Fact.{Fact}
use Rattle.rc_facts.specs.declared.fact.Fact.TheVariants.{In, NonNull, Trad}
use Rattle.rc_facts.specs.Facts.{holds, is_over, same_fact}
use Rattle.rc_facts.specs.Inside.{fields}
use Rattle.rc_facts.specs.Null.{null_news}
use Rattle.rc_facts.specs.Shut.{placed}
use Rattle.rc_facts.proofs.Shut.{laws_of, others}
use Rattle.rc_facts.proofs.Assigning.{has, null_links, null_only}
use Rattle.rc_facts.proofs.Table.{row_law, nulled_placed, nulled_row}
use Rattle.rc_facts.proofs.fact_set.FactSet.assign_null.Goals as goal

pub returns-clause-facts : goal.returns-clause-facts
returns-clause-facts c =
    let s = c.self.inside in
    let f = fields s.within.items s.above.items s.traditional s.present in
    let n = c.args.self.now.variables in
    let old = holds c.args.self.now in
    let shut = c.requires.shut in
    let clean = c.requires.clean in
    let l = laws_of n c.args.scratch old shut clean in
    let trad : (y : ℕ) → marks s.traditional y ≡ old (Trad y) = λ y. has f c.args.self.now c.self.view_is c.self.invariant (Trad y) in
    let there : (y : ℕ) → marks s.present y ≡ old (NonNull y) = λ y. has f c.args.self.now c.self.view_is c.self.invariant (NonNull y) in
    let count : length s.within.items ≡ n = ap (λ k. k.variables) c.self.view_is in
    let over : (fact : Fact) → old fact ≡ true → is_over n fact ≡ true = λ fact is. rw count at (c.self.invariant.over fact (has f c.args.self.now c.self.view_is c.self.invariant fact ∙ is)) in
    let all : (y : ℕ) → marks c.without-all.result y ≡ others n c.args.scratch y = λ y. c.without-all.ensures y ∙ ap (λ b. b && not (y == c.args.scratch)) (c.below.ensures y ∙ ap (nat_lt y) (c.len.ensures ∙ s.within.ok.0 ∙ count)) in
    let wanted = nulled_placed n c.args.scratch old l clean over in
    let is : placed c.without-all.result c.without-all.result c.empty-none.result c.empty-none.result true false ≡ wanted = λ i. record { row_in = λ y. all y i; row_up = λ y. all y i; into_in = λ y. c.empty-none.ensures y i; into_up = λ y. c.empty-none.ensures y i; trad = true; present = false } in
    row_law n c.args.scratch c.args.x old (holds c.place.new.self) (null_news n c.args.scratch) wanted (placed c.without-all.result c.without-all.result c.empty-none.result c.empty-none.result true false) c.requires.scratch c.requires.apart shut clean (nulled_row n c.args.scratch old l clean over (null_news n c.args.scratch) (or_left (c.args.scratch == c.args.scratch) _ (eq-eqb c.args.scratch c.args.scratch refl)) (λ v other. or_right (same_fact (Trad c.args.scratch) (In c.args.scratch v)) _ (null_links n c.args.scratch v (ltb-true v n (and_parts (nat_lt v n) _ other).0))) (null_only n c.args.scratch)) is c.place.ensures.facts
