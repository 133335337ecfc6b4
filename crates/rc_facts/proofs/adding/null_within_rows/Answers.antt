use Rattle.std.proofs.Common.{◌∙◌, ◌||◌, ◌==◌, length, ap, sym, arith}
use Rattle.rc_base.specs.BitSets.{marks}
use Rattle.rc_facts.specs.Rows.{links}
use Rattle.rc_facts.specs.Steps.{IsWidened}
use Rattle.rc_facts.proofs.RowLoops.{read_row}
use Rattle.rc_facts.proofs.Added.{widened_as, in_null_over, in_null_exact}
use Rattle.rc_facts.proofs.adding.null_within_rows.Goals as goal

pub returns-clause-sound : goal.returns-clause-sound
returns-clause-sound c =
    let wide_in : IsWidened (links c.args.within.now) (links c.widen.new.rows) (λ k. k == c.args.x) (links c.args.within.now c.args.y) = widened_as (λ k. c.with-entry.ensures k ∙ ap (λ b. b || k == c.args.x) (c.empty.ensures k)) (read_row c.args.within.now c.args.y c.index-within-y.result (omega arith) c.index-within-y.is) c.widen.ensures in
    let wide_up : IsWidened (links c.args.above.now) (links c.widen-2.new.rows) (λ k. k == c.args.x) (links c.args.above.now c.args.y) = widened_as (λ k. c.with-entry.ensures k ∙ ap (λ b. b || k == c.args.x) (c.empty.ensures k)) (read_row c.args.above.now c.args.y c.index-above-y.result (omega (arith, c.requires.sound.same)) c.index-above-y.is) c.widen-2.ensures in
    let settles = rw c.widen.auto.rows at c.settle.ensures in
    let same_in = c.settle.auto.within ∙ c.widen.auto.rows in
    record {
      few = rw same_in c.requires.sound.few;
      same = c.settle.auto.above ∙ c.widen-2.auto.rows ∙ c.requires.sound.same ∙ sym same_in;
      over = λ fact there. rw same_in (in_null_over (length c.args.within.now) c.args.x c.args.y (links c.args.within.now) (links c.args.above.now) (links c.widen.new.rows) (links c.widen-2.new.rows) (marks c.args.traditional.now) (marks c.args.present) c.requires.sound.over c.requires.x c.requires.y settles wide_in wide_up fact there);
    }

pub returns-clause-facts : goal.returns-clause-facts
returns-clause-facts c =
    let wide_in : IsWidened (links c.args.within.now) (links c.widen.new.rows) (λ k. k == c.args.x) (links c.args.within.now c.args.y) = widened_as (λ k. c.with-entry.ensures k ∙ ap (λ b. b || k == c.args.x) (c.empty.ensures k)) (read_row c.args.within.now c.args.y c.index-within-y.result (omega arith) c.index-within-y.is) c.widen.ensures in
    let wide_up : IsWidened (links c.args.above.now) (links c.widen-2.new.rows) (λ k. k == c.args.x) (links c.args.above.now c.args.y) = widened_as (λ k. c.with-entry.ensures k ∙ ap (λ b. b || k == c.args.x) (c.empty.ensures k)) (read_row c.args.above.now c.args.y c.index-above-y.result (omega (arith, c.requires.sound.same)) c.index-above-y.is) c.widen-2.ensures in
    let settles = rw c.widen.auto.rows at c.settle.ensures in
    in_null_exact (length c.args.within.now) c.args.x c.args.y (links c.args.within.now) (links c.args.above.now) (links c.widen.new.rows) (links c.widen-2.new.rows) (marks c.args.traditional.now) (marks c.args.present) c.requires.sound.over c.requires.x c.requires.y settles wide_in wide_up c.requires.null
