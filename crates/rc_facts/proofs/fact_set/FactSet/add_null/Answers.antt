use Rattle.std.proofs.Common.{◌≡◌, ◌∙◌, ap, length, sym}
use Rattle.std.proofs.lemmas.List.{with_items_is}
use Rattle.rc_facts.specs.declared.fact.Fact.TheVariants.{NonNull}
use Rattle.rc_facts.specs.Inside.{fields}
use Rattle.rc_facts.specs.Null.{null_news}
use Rattle.rc_facts.proofs.Assigning.{has}
use Rattle.rc_facts.proofs.SetLaws.{Turns, gained_at}
use Rattle.rc_facts.proofs.fact_set.FactSet.add_null.Goals as goal

pub null_rows-requires-clause-null : goal.null_rows-requires-clause-null
null_rows-requires-clause-null c =
    let s = c.self.inside in
    has (fields s.within.items s.above.items s.traditional s.present) c.args.self.now c.self.view_is c.self.invariant (NonNull c.args.x) ∙ c.requires.null

pub returns-clause-facts : goal.returns-clause-facts
returns-clause-facts c =
    let s = c.self.inside in
    let now = c.null_rows.new in
    let turns : Turns (fields s.within.items s.above.items s.traditional s.present) (fields now.within now.above now.traditional s.present) c.args.self.now = record {
      is = c.self.view_is;
      sound = c.self.invariant;
      same_within = c.null_rows.auto.within ∙ ap length c.deref_mut.ensures.value;
      same_above = c.null_rows.auto.above ∙ ap length c.deref_mut-2.ensures.value;
    } in
    let count : length s.within.items ≡ c.args.self.now.variables = ap (λ k. k.variables) c.self.view_is in
    rw (with_items_is s.within now.within (turns.same_within ∙ sym s.within.ok.0), with_items_is s.above now.above (turns.same_above ∙ sym s.above.ok.0))
    (rw count at (gained_at turns (null_news (length s.within.items) c.args.x) c.args.scratch c.null_rows.ensures.sound (rw (c.deref_mut.ensures.value, c.deref_mut-2.ensures.value) at (c.null_rows.ensures.facts c.requires.apart)) c.requires.shut c.requires.clean))
