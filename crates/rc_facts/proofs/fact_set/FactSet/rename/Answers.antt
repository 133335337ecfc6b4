use Rattle.std.proofs.Common.{◌∙◌, ap, length, sym}
use Rattle.std.proofs.lemmas.List.{with_items_is}
use Rattle.rc_facts.specs.Inside.{fields}
use Rattle.rc_facts.proofs.SetLaws.{Turns, renamed}
use Rattle.rc_facts.proofs.fact_set.FactSet.rename.Goals as goal

pub invariant_of-self : goal.invariant_of-self
invariant_of-self c =
    let s = c.self.inside in
    let turns : Turns (fields s.within.items s.above.items s.traditional s.present) (fields c.shift.new.rows c.shift-2.new.rows c.moved-self-inside.result c.moved-self-inside-2.result) c.args.self.now = record {
      is = c.self.view_is;
      sound = c.self.invariant;
      same_within = c.shift.auto.rows ∙ ap length c.deref_mut.ensures.value;
      same_above = c.shift-2.auto.rows ∙ ap length c.deref_mut-2.ensures.value;
    } in
    rw (with_items_is s.within c.shift.new.rows (turns.same_within ∙ sym s.within.ok.0), with_items_is s.above c.shift-2.new.rows (turns.same_above ∙ sym s.above.ok.0))
    (renamed turns c.args.from c.args.to c.requires.to (record {
      ins = rw c.deref_mut.ensures.value at c.shift.ensures;
      ups = rw c.deref_mut-2.ensures.value at c.shift-2.ensures;
      trads = c.moved-self-inside.ensures;
      presents = c.moved-self-inside-2.ensures;
    })).0

pub returns-clause-facts : goal.returns-clause-facts
returns-clause-facts c =
    let s = c.self.inside in
    let turns : Turns (fields s.within.items s.above.items s.traditional s.present) (fields c.shift.new.rows c.shift-2.new.rows c.moved-self-inside.result c.moved-self-inside-2.result) c.args.self.now = record {
      is = c.self.view_is;
      sound = c.self.invariant;
      same_within = c.shift.auto.rows ∙ ap length c.deref_mut.ensures.value;
      same_above = c.shift-2.auto.rows ∙ ap length c.deref_mut-2.ensures.value;
    } in
    rw (with_items_is s.within c.shift.new.rows (turns.same_within ∙ sym s.within.ok.0), with_items_is s.above c.shift-2.new.rows (turns.same_above ∙ sym s.above.ok.0))
    (renamed turns c.args.from c.args.to c.requires.to (record {
      ins = rw c.deref_mut.ensures.value at c.shift.ensures;
      ups = rw c.deref_mut-2.ensures.value at c.shift-2.ensures;
      trads = c.moved-self-inside.ensures;
      presents = c.moved-self-inside-2.ensures;
    })).1
