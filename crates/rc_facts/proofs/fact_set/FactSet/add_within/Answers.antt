use Rattle.std.proofs.Common.{◌≡◌, ◌∙◌, ◌&&◌, ◌==◌, true, List, ◌∷◌, [], ap, length, refl, sym}
use Rattle.std.proofs.lemmas.List.{with_items_is}
use Rattle.std.proofs.lemmas.Bool.{or_left, or_right, and_from, eq-eqb, ne_eqb}
use Rattle.rc_facts.specs.declared.fact.Fact.{Fact}
use Rattle.rc_facts.specs.declared.fact.Fact.TheVariants.{In, NonNull}
use Rattle.rc_facts.specs.Facts.{holds}
use Rattle.rc_facts.specs.Inside.{fields}
use Rattle.rc_facts.specs.Derivable.{stated, present_by_in}
use Rattle.rc_facts.proofs.SetLaws.{Turns, gained_at, test_is}
use Rattle.rc_facts.proofs.Added.{shut_again, implied_first}
use Rattle.rc_facts.proofs.fact_set.FactSet.add_within.Goals as goal

pub one_region_rows-requires-clause-x_there : goal.one_region_rows-requires-clause-x_there
one_region_rows-requires-clause-x_there c =
    let s = c.self.inside in
    let r = c.self-then-contains.inside in
    let is : holds c.args.self.now (NonNull c.args.x) ≡ true = sym (ap (λ test. test (NonNull c.args.x)) (test_is (fields s.within.items s.above.items s.traditional s.present) c.args.self.now c.self.view_is c.self.invariant)) ∙ sym c.if-contains.ensures in
    let known = test_is (fields r.within.items r.above.items r.traditional r.present) c.add_present.new.self c.self-then-contains.view_is c.self-then-contains.invariant in
    ap (λ test. test (NonNull c.args.x)) known ∙ (c.add_present.ensures.facts c.args.scratch c.requires.apart_y c.requires.shut c.requires.clean (NonNull c.args.x)).1 (stated (or_left (holds c.args.self.now (NonNull c.args.x)) _ is), ne_eqb c.args.x c.args.scratch (λ e. c.requires.apart_x (sym e)))

pub one_region_rows-requires-clause-y_there : goal.one_region_rows-requires-clause-y_there
one_region_rows-requires-clause-y_there c =
    let r = c.self-then-contains.inside in
    let known = test_is (fields r.within.items r.above.items r.traditional r.present) c.add_present.new.self c.self-then-contains.view_is c.self-then-contains.invariant in
    ap (λ test. test (NonNull c.args.y)) known ∙ (c.add_present.ensures.facts c.args.scratch c.requires.apart_y c.requires.shut c.requires.clean (NonNull c.args.y)).1 (stated (or_right (holds c.args.self.now (NonNull c.args.y)) _ (or_left (c.args.y == c.args.y) _ (eq-eqb c.args.y c.args.y refl))), ne_eqb c.args.y c.args.scratch (λ e. c.requires.apart_y (sym e)))

abbrev one : Fact → List Fact
one fact = fact ∷ []

pub returns-then-contains-clause-facts : goal.returns-then-contains-clause-facts
unfolding holds
returns-then-contains-clause-facts c =
    let b = c.self.inside in
    let s = c.self-then-contains.inside in
    let now = c.one_region_rows.new in
    let old = holds c.args.self.now in
    let new = holds c.add_present.new.self in
    let is : old (NonNull c.args.x) ≡ true = sym (ap (λ test. test (NonNull c.args.x)) (test_is (fields b.within.items b.above.items b.traditional b.present) c.args.self.now c.self.view_is c.self.invariant)) ∙ sym c.if-contains.ensures in
    let turns : Turns (fields s.within.items s.above.items s.traditional s.present) (fields now.within now.above now.traditional s.present) c.add_present.new.self = record {
      is = c.self-then-contains.view_is;
      sound = c.self-then-contains.invariant;
      same_within = c.one_region_rows.auto.within ∙ ap length c.deref_mut.ensures.value;
      same_above = c.one_region_rows.auto.above ∙ ap length c.deref_mut-then-contains.ensures.value;
    } in
    let behind = c.add_present.ensures.facts c.args.scratch c.requires.apart_y c.requires.shut c.requires.clean in
    let again = shut_again c.args.self.now.variables c.args.scratch old new (one (NonNull c.args.y)) behind in
    let count = c.add_present.ensures.variables in
    let rows = rw (c.deref_mut.ensures.value, c.deref_mut-then-contains.ensures.value) at (c.one_region_rows.ensures.facts c.args.scratch c.requires.apart_x c.requires.apart_y) in
    let first = gained_at turns (one (In c.args.x c.args.y)) c.args.scratch c.one_region_rows.ensures.sound rows (rw count again.0) again.1 in
    rw (with_items_is s.within now.within (turns.same_within ∙ sym s.within.ok.0), with_items_is s.above now.above (turns.same_above ∙ sym s.above.ok.0))
    (λ fact.
    let then = implied_first c.args.self.now.variables c.args.scratch old new (NonNull c.args.y) (In c.args.x c.args.y) c.requires.clean behind (present_by_in {x = c.args.x} (stated (or_right (old (In c.args.x c.args.y)) _ (or_left (c.args.x == c.args.x && c.args.y == c.args.y) _ (and_from (c.args.x == c.args.x) _ (eq-eqb c.args.x c.args.x refl) (eq-eqb c.args.y c.args.y refl))))) (stated (or_left (old (NonNull c.args.x)) _ is))) fact in
    let step = rw count at (first fact) in
    (λ at. then.0 (step.0 at), λ d. step.1 (then.1 d)))

pub returns-else-contains-clause-facts : goal.returns-else-contains-clause-facts
returns-else-contains-clause-facts c =
    let s = c.self.inside in
    let now = c.null_within_rows.new in
    let turns : Turns (fields s.within.items s.above.items s.traditional s.present) (fields now.within now.above now.traditional s.present) c.args.self.now = record {
      is = c.self.view_is;
      sound = c.self.invariant;
      same_within = c.null_within_rows.auto.within ∙ ap length c.deref_mut-else-contains.ensures.value;
      same_above = c.null_within_rows.auto.above ∙ ap length c.deref_mut-else-contains-2.ensures.value;
    } in
    rw (with_items_is s.within now.within (turns.same_within ∙ sym s.within.ok.0), with_items_is s.above now.above (turns.same_above ∙ sym s.above.ok.0))
    (gained_at turns (one (In c.args.x c.args.y)) c.args.scratch c.null_within_rows.ensures.sound (rw (c.deref_mut-else-contains.ensures.value, c.deref_mut-else-contains-2.ensures.value) at (c.null_within_rows.ensures.facts c.args.scratch c.requires.apart_x c.requires.apart_y)) c.requires.shut c.requires.clean)
