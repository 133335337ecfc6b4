use Rattle.std.proofs.Common.{◌∙◌, ap, length, sym}
use Rattle.std.proofs.lemmas.List.{with_items_is}
use Rattle.rc_facts.specs.Inside.{fields}
use Rattle.rc_facts.proofs.SetLaws.{Turns, doubled}
use Rattle.rc_facts.proofs.fact_set.FactSet.alias.Goals as goal

pub invariant_of-self : goal.invariant_of-self
invariant_of-self c =
    let s = c.self.inside in
    let turns : Turns (fields s.within.items s.above.items s.traditional s.present) (fields c.double.new.rows c.double-2.new.rows c.aliased-self-inside.result c.aliased-self-inside-2.result) c.args.self.now = record {
      is = c.self.view_is;
      sound = c.self.invariant;
      same_within = c.double.auto.rows ∙ ap length c.deref_mut.ensures.value;
      same_above = c.double-2.auto.rows ∙ ap length c.deref_mut-2.ensures.value;
    } in
    rw (with_items_is s.within c.double.new.rows (turns.same_within ∙ sym s.within.ok.0), with_items_is s.above c.double-2.new.rows (turns.same_above ∙ sym s.above.ok.0))
    (doubled turns c.args.from c.args.to c.requires.to (record {
      ins = rw c.deref_mut.ensures.value at c.double.ensures;
      ups = rw c.deref_mut-2.ensures.value at c.double-2.ensures;
      trads = c.aliased-self-inside.ensures;
      presents = c.aliased-self-inside-2.ensures;
    })).0

pub returns-clause-facts : goal.returns-clause-facts
returns-clause-facts c =
    let s = c.self.inside in
    let turns : Turns (fields s.within.items s.above.items s.traditional s.present) (fields c.double.new.rows c.double-2.new.rows c.aliased-self-inside.result c.aliased-self-inside-2.result) c.args.self.now = record {
      is = c.self.view_is;
      sound = c.self.invariant;
      same_within = c.double.auto.rows ∙ ap length c.deref_mut.ensures.value;
      same_above = c.double-2.auto.rows ∙ ap length c.deref_mut-2.ensures.value;
    } in
    rw (with_items_is s.within c.double.new.rows (turns.same_within ∙ sym s.within.ok.0), with_items_is s.above c.double-2.new.rows (turns.same_above ∙ sym s.above.ok.0))
    (doubled turns c.args.from c.args.to c.requires.to (record {
      ins = rw c.deref_mut.ensures.value at c.double.ensures;
      ups = rw c.deref_mut-2.ensures.value at c.double-2.ensures;
      trads = c.aliased-self-inside.ensures;
      presents = c.aliased-self-inside-2.ensures;
    })).1
