use Rattle.std.proofs.Common.{◌∙◌, ap, length, sym}
use Rattle.std.proofs.lemmas.List.{with_items_is}
use Rattle.rc_facts.specs.Inside.{fields}
use Rattle.rc_facts.proofs.SetLaws.{Turns, forgot}
use Rattle.rc_facts.proofs.fact_set.FactSet.forget.Goals as goal

pub returns-clause-facts : goal.returns-clause-facts
returns-clause-facts c =
    let s = c.self.inside in
    let turns : Turns (fields s.within.items s.above.items s.traditional s.present) (fields c.cut.new.rows c.cut-2.new.rows c.without-self-inside.result c.without-self-inside-2.result) c.args.self.now = record {
      is = c.self.view_is;
      sound = c.self.invariant;
      same_within = c.cut.auto.rows ∙ ap length c.deref_mut.ensures.value;
      same_above = c.cut-2.auto.rows ∙ ap length c.deref_mut-2.ensures.value;
    } in
    rw (with_items_is s.within c.cut.new.rows (turns.same_within ∙ sym s.within.ok.0), with_items_is s.above c.cut-2.new.rows (turns.same_above ∙ sym s.above.ok.0))
    (forgot turns c.args.x (record {
      ins = rw c.deref_mut.ensures.value at c.cut.ensures;
      ups = rw c.deref_mut-2.ensures.value at c.cut-2.ensures;
      trads = c.without-self-inside.ensures;
      presents = c.without-self-inside-2.ensures;
    }))
