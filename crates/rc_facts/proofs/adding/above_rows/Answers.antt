use Rattle.std.proofs.Common.{◌∙◌, ◌||◌, ◌==◌, length, ap, sym, arith}
use Rattle.rc_base.specs.BitSets.{marks}
use Rattle.rc_facts.specs.Rows.{links}
use Rattle.rc_facts.specs.Steps.{IsWidened}
use Rattle.rc_facts.proofs.RowLoops.{read_row}
use Rattle.rc_facts.proofs.Added.{widened_as, up_over, up_exact}
use Rattle.rc_facts.proofs.adding.above_rows.Goals as goal

pub returns-clause-sound : goal.returns-clause-sound
returns-clause-sound c =
    let same_up = c.settle.auto.above ∙ c.widen.auto.rows in
    let wide : IsWidened (links c.args.above.now) (links c.widen.new.rows) (λ k. k == c.args.x) (links c.args.above.now c.args.y) = widened_as (λ k. c.with.ensures k ∙ ap (λ b. b || k == c.args.x) (c.empty.ensures k)) (read_row c.args.above.now c.args.y c.index-above-y.result (omega (arith, c.requires.sound.same)) c.index-above-y.is) c.widen.ensures in
    record {
      few = rw c.settle.auto.within c.requires.sound.few;
      same = same_up ∙ c.requires.sound.same ∙ sym c.settle.auto.within;
      over = λ fact there. rw c.settle.auto.within (up_over (length c.args.within.now) c.args.x c.args.y (links c.args.within.now) (links c.args.above.now) (links c.widen.new.rows) (marks c.args.traditional.now) (marks c.args.present) c.requires.sound.over c.requires.x c.requires.y wide c.settle.ensures fact there);
    }

pub returns-clause-facts : goal.returns-clause-facts
returns-clause-facts c =
    let wide : IsWidened (links c.args.above.now) (links c.widen.new.rows) (λ k. k == c.args.x) (links c.args.above.now c.args.y) = widened_as (λ k. c.with.ensures k ∙ ap (λ b. b || k == c.args.x) (c.empty.ensures k)) (read_row c.args.above.now c.args.y c.index-above-y.result (omega (arith, c.requires.sound.same)) c.index-above-y.is) c.widen.ensures in
    up_exact (length c.args.within.now) c.args.x c.args.y (links c.args.within.now) (links c.args.above.now) (links c.widen.new.rows) (marks c.args.traditional.now) (marks c.args.present) c.requires.sound.over c.requires.x c.requires.y wide c.settle.ensures c.requires.there
