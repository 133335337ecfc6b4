use Rattle.std.proofs.Common.{◌∙◌, ap, length, sym}
use Rattle.std.proofs.lemmas.List.{with_items_is}
use Rattle.rc_facts.specs.Inside.{fields}
use Rattle.rc_facts.specs.Shut.{placed}
use Rattle.rc_facts.proofs.SetLaws.{Turns, placed_set}
use Rattle.rc_facts.proofs.fact_set.FactSet.place.Goals as goal

pub returns-clause-facts : goal.returns-clause-facts
returns-clause-facts c =
    let s = c.self.inside in
    let turns : Turns (fields s.within.items s.above.items s.traditional s.present) (fields c.write.new.rows c.write-2.new.rows c.marked-self-inside.result c.marked-self-inside-2.result) c.args.self.now = record {
      is = c.self.view_is;
      sound = c.self.invariant;
      same_within = c.write.auto.rows ∙ ap length c.deref_mut.ensures.value;
      same_above = c.write-2.auto.rows ∙ ap length c.deref_mut-2.ensures.value;
    } in
    rw (with_items_is s.within c.write.new.rows (turns.same_within ∙ sym s.within.ok.0), with_items_is s.above c.write-2.new.rows (turns.same_above ∙ sym s.above.ok.0))
    (placed_set turns c.args.x (placed c.args.row_in c.args.row_up c.args.into_in c.args.into_up c.args.trad c.args.present) c.requires.x c.requires.row_in c.requires.row_up c.requires.into_in c.requires.into_up (record {
      ins = rw c.deref_mut.ensures.value at c.write.ensures;
      ups = rw c.deref_mut-2.ensures.value at c.write-2.ensures;
      trads = c.marked-self-inside.ensures;
      presents = c.marked-self-inside-2.ensures;
    })).1
