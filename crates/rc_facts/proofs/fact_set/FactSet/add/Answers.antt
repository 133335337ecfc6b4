use Rattle.std.proofs.Common.{◌∙◌, ap, length, sym, refl}
use Rattle.std.proofs.lemmas.List.{with_items_is}
use Rattle.rc_facts.specs.declared.fact.Fact.TheVariants.{In, Up, Trad, NonNull}
use Rattle.rc_facts.specs.Inside.{fields}
use Rattle.rc_facts.proofs.SetLaws.{Turns, added, has_in, has_up, has_trad, has_present}
use Rattle.rc_facts.proofs.fact_set.FactSet.add.Goals as goal

pub returns-in-In-clause-facts : goal.returns-in-In-clause-facts
returns-in-In-clause-facts c =
    let s = c.self.inside in
    let before = fields s.within.items s.above.items s.traditional s.present in
    let same = c.link.auto.rows ∙ ap length c.deref_mut.ensures.value in
    let turns : Turns before (fields c.link.new.rows s.above.items s.traditional s.present) c.args.self.now = record { is = c.self.view_is; sound = c.self.invariant; same_within = same; same_above = refl } in
    rw (with_items_is s.within c.link.new.rows (same ∙ sym s.within.ok.0), c.in-In.is)
    (added turns (In c.in-In.x c.in-In.y) (rw c.in-In.is at c.requires) (has_in before c.link.new.rows c.in-In.x c.in-In.y (rw c.deref_mut.ensures.value at c.link.ensures)))

pub returns-in-Up-clause-facts : goal.returns-in-Up-clause-facts
returns-in-Up-clause-facts c =
    let s = c.self.inside in
    let before = fields s.within.items s.above.items s.traditional s.present in
    let same = c.link-in-Up.auto.rows ∙ ap length c.deref_mut-in-Up.ensures.value in
    let turns : Turns before (fields s.within.items c.link-in-Up.new.rows s.traditional s.present) c.args.self.now = record { is = c.self.view_is; sound = c.self.invariant; same_within = refl; same_above = same } in
    rw (with_items_is s.above c.link-in-Up.new.rows (same ∙ sym s.above.ok.0), c.in-Up.is)
    (added turns (Up c.in-Up.x c.in-Up.y) (rw c.in-Up.is at c.requires) (has_up before c.link-in-Up.new.rows c.in-Up.x c.in-Up.y (rw c.deref_mut-in-Up.ensures.value at c.link-in-Up.ensures)))

pub returns-in-Trad-clause-facts : goal.returns-in-Trad-clause-facts
returns-in-Trad-clause-facts c =
    let s = c.self.inside in
    let before = fields s.within.items s.above.items s.traditional s.present in
    let turns : Turns before (fields s.within.items s.above.items c.with-self-inside.result s.present) c.args.self.now = record { is = c.self.view_is; sound = c.self.invariant; same_within = refl; same_above = refl } in
    rw c.in-Trad.is
    (added turns (Trad c.in-Trad.x) (rw c.in-Trad.is at c.requires) (has_trad before c.with-self-inside.result c.in-Trad.x c.with-self-inside.ensures))

pub returns-in-NonNull-clause-facts : goal.returns-in-NonNull-clause-facts
returns-in-NonNull-clause-facts c =
    let s = c.self.inside in
    let before = fields s.within.items s.above.items s.traditional s.present in
    let turns : Turns before (fields s.within.items s.above.items s.traditional c.with-self-inside-in-NonNull.result) c.args.self.now = record { is = c.self.view_is; sound = c.self.invariant; same_within = refl; same_above = refl } in
    rw c.in-NonNull.is
    (added turns (NonNull c.in-NonNull.x) (rw c.in-NonNull.is at c.requires) (has_present before c.with-self-inside-in-NonNull.result c.in-NonNull.x c.with-self-inside-in-NonNull.ensures))
