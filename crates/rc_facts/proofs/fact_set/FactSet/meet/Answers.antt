use Rattle.std.proofs.Common.{◌∙◌, ◌&&◌, ap, length, sym}
use Rattle.std.proofs.lemmas.List.{with_items_is}
use Rattle.rc_facts.specs.Inside.{fields, test_of}
use Rattle.rc_facts.proofs.SetLaws.{Has, Turns, met, met_dropped, met_fewer}
use Rattle.rc_facts.proofs.fact_set.FactSet.meet.Goals as goal

pub returns : goal.returns
returns c =
    let s = c.self.inside in
    let o = c.other.inside in
    let before = fields s.within.items s.above.items s.traditional s.present in
    let other = fields o.within.items o.above.items o.traditional o.present in
    let after = fields c.keep_links-within.new.rows c.keep_links-above.new.rows c.keep-traditional.new.row c.keep-present.new.row in
    let turns : Turns before after c.args.self.now = record {
      is = c.self.view_is;
      sound = c.self.invariant;
      same_within = c.keep_links-within.auto.rows ∙ ap length c.deref_mut.ensures.value;
      same_above = c.keep_links-above.auto.rows ∙ ap length c.deref_mut-2.ensures.value;
    } in
    let ins = rw (c.deref_mut.ensures.value, c.deref.ensures.value) at c.keep_links-within.ensures in
    let ups = rw (c.deref_mut-2.ensures.value, c.deref-2.ensures.value) at c.keep_links-above.ensures in
    let both : Has after (λ fact. test_of before fact && test_of other fact) = record { ins = ins.both; ups = ups.both; trads = c.keep-traditional.ensures.both; presents = c.keep-present.ensures.both } in
    let dropped = met_dropped turns other both _ _ _ _ ins.dropped ups.dropped c.keep-traditional.ensures.dropped c.keep-present.ensures.dropped in
    rw (with_items_is s.within c.keep_links-within.new.rows (turns.same_within ∙ sym s.within.ok.0), with_items_is s.above c.keep_links-above.new.rows (turns.same_above ∙ sym s.above.ok.0))
    (record {
      variables = turns.same_within ∙ ap (λ known. known.variables) c.self.view_is;
      facts = met turns other both c.args.other.now c.other.view_is c.other.invariant;
      dropped = dropped;
      fewer = met_fewer turns other both _ dropped;
    })
