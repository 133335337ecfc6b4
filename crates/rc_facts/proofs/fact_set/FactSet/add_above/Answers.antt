use Rattle.std.proofs.Common.{◌∙◌, ◌&&◌, ◌==◌, List, ◌∷◌, [], ap, length, refl, sym}
use Rattle.std.proofs.lemmas.List.{with_items_is}
use Rattle.std.proofs.lemmas.Bool.{or_left, or_right, and_from, eq-eqb}
use Rattle.rc_facts.specs.declared.fact.Fact.{Fact}
use Rattle.rc_facts.specs.declared.fact.Fact.TheVariants.{NonNull, Up}
use Rattle.rc_facts.specs.Facts.{holds}
use Rattle.rc_facts.specs.Inside.{fields}
use Rattle.rc_facts.specs.Derivable.{stated, present_by_up}
use Rattle.rc_facts.proofs.SetLaws.{Turns, gained_at, test_is}
use Rattle.rc_facts.proofs.Follow.{followed}
use Rattle.rc_facts.proofs.fact_set.FactSet.add_above.Goals as goal

pub above_rows-requires-clause-there : goal.above_rows-requires-clause-there
above_rows-requires-clause-there c =
    let s = c.self.inside in
    let known = test_is (fields s.within.items s.above.items s.traditional s.present) c.follow.new.self c.self.view_is c.self.invariant in
    let f = followed c.args.self.now.variables c.args.scratch c.args.x c.args.y c.args.self.now c.follow.new.self c.requires.shut c.requires.clean c.requires.apart_y c.follow.ensures.facts in
    λ is. ap (λ test. test (NonNull c.args.y)) known ∙ f.there (sym (ap (λ test. test (NonNull c.args.x)) known) ∙ is)

abbrev one : Fact → List Fact
one fact = fact ∷ []

pub returns-clause-facts : goal.returns-clause-facts
unfolding holds
returns-clause-facts c =
    let s = c.self.inside in
    let now = c.above_rows.new in
    let old = holds c.args.self.now in
    let turns : Turns (fields s.within.items s.above.items s.traditional s.present) (fields now.within now.above now.traditional s.present) c.follow.new.self = record {
      is = c.self.view_is;
      sound = c.self.invariant;
      same_within = c.above_rows.auto.within ∙ ap length c.deref_mut.ensures.value;
      same_above = c.above_rows.auto.above ∙ ap length c.deref_mut-2.ensures.value;
    } in
    let f = followed c.args.self.now.variables c.args.scratch c.args.x c.args.y c.args.self.now c.follow.new.self c.requires.shut c.requires.clean c.requires.apart_y c.follow.ensures.facts in
    let count = c.follow.ensures.variables in
    let rows = rw (c.deref_mut.ensures.value, c.deref_mut-2.ensures.value) at (c.above_rows.ensures.facts c.args.scratch c.requires.apart_x c.requires.apart_y) in
    let first = gained_at turns (one (Up c.args.x c.args.y)) c.args.scratch c.above_rows.ensures.sound rows (rw count f.shut) f.clean in
    rw (with_items_is s.within now.within (turns.same_within ∙ sym s.within.ok.0), with_items_is s.above now.above (turns.same_above ∙ sym s.above.ok.0))
    (λ fact.
    let then = f.same (Up c.args.x c.args.y) (λ there. present_by_up {x = c.args.x} (stated (or_right (old (Up c.args.x c.args.y)) _ (or_left (c.args.x == c.args.x && c.args.y == c.args.y) _ (and_from (c.args.x == c.args.x) _ (eq-eqb c.args.x c.args.x refl) (eq-eqb c.args.y c.args.y refl))))) (stated (or_left (old (NonNull c.args.x)) _ there))) fact in
    let step = rw count at (first fact) in
    (λ at. then.0 (step.0 at), λ d. step.1 (then.1 d)))
