use Rattle.std.proofs.Common.{◌≡◌, ◌∙◌, Bool, true, false, not, sym, ap}
use Rattle.rc_facts.specs.Facts.{holds}
use Rattle.rc_crossing.specs.Fitting.{lacks}
use Rattle.rc_carrying.specs.Passing.{Visited, passes, fails, fails_behind}
use Rattle.rc_carrying.proofs.passing.visit.Goals as goal

pub returns-then-lacks-clause-told : goal.returns-then-lacks-clause-told
returns-then-lacks-clause-told c = fails (ap (lacks (holds c.args.set.now)) (sym c.as_slice.ensures.value) ∙ sym c.lacks.ensures ∙ c.if-lacks.true)

pub returns-clause-told : goal.returns-clause-told
returns-clause-told c = tell c.lacks-2.result (ap (lacks (holds c.carry.new.set)) (sym c.as_slice-2.ensures.value) ∙ sym c.lacks-2.ensures)
  where
    before : lacks (holds c.args.set.now) c.args.step.now.before.items ≡ false
    before = ap (lacks (holds c.args.set.now)) (sym c.as_slice.ensures.value) ∙ sym c.lacks.ensures ∙ c.if-lacks.false

    tell : (b : Bool) → lacks (holds c.carry.new.set) c.args.step.now.behind.items ≡ b → Visited c.args.set.now.variables c.args.scratch c.args.exits.now c.args.step.now (holds c.args.set.now) (holds c.carry.new.set) (not b)
    tell true e = fails_behind before c.in_ok-carry.ensures.facts e
    tell false e = passes before c.in_ok-carry.ensures.facts e
