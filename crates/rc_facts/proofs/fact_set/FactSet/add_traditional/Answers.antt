use Rattle.std.proofs.Common.{◌∙◌, List, ◌∷◌, [], ap, length, sym}
use Rattle.std.proofs.lemmas.List.{with_items_is}
use Rattle.rc_facts.specs.declared.fact.Fact.TheVariants.{Trad}
use Rattle.rc_facts.specs.Inside.{fields}
use Rattle.rc_facts.proofs.SetLaws.{Turns, gained}
use Rattle.rc_facts.specs.declared.fact.Fact.{Fact}
use Rattle.rc_facts.proofs.fact_set.FactSet.add_traditional.Goals as goal

abbrev one : Fact → List Fact
one fact = fact ∷ []

pub returns-clause-facts : goal.returns-clause-facts
returns-clause-facts c =
    let s = c.self.inside in
    let now = c.traditional_rows.new in
    let turns : Turns (fields s.within.items s.above.items s.traditional s.present) (fields now.within now.above now.traditional s.present) c.args.self.now = record {
      is = c.self.view_is;
      sound = c.self.invariant;
      same_within = c.traditional_rows.auto.within ∙ ap length c.deref_mut.ensures.value;
      same_above = c.traditional_rows.auto.above ∙ ap length c.deref_mut-2.ensures.value;
    } in
    rw (with_items_is s.within now.within (turns.same_within ∙ sym s.within.ok.0), with_items_is s.above now.above (turns.same_above ∙ sym s.above.ok.0))
    (gained turns (one (Trad c.args.x)) c.args.x c.traditional_rows.ensures.sound (rw (c.deref_mut.ensures.value, c.deref_mut-2.ensures.value) at c.traditional_rows.ensures.facts))
