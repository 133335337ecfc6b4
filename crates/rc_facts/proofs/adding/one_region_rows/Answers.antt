use Rattle.std.proofs.Common.{◌≡◌, ◌∙◌, ◌||◌, ℕ, length, sym, arith}
use Rattle.rc_base.specs.BitSets.{marks}
use Rattle.rc_facts.specs.Rows.{links}
use Rattle.rc_facts.proofs.RowLoops.{read_row}
use Rattle.rc_facts.proofs.Added.{in_class_over, in_class_exact}
use Rattle.rc_facts.proofs.adding.one_region_rows.Goals as goal

pub returns-clause-sound : goal.returns-clause-sound
returns-clause-sound c =
    let class_is : (k : ℕ) → marks c.union-class.result k ≡ (links c.args.within.now c.args.x k || links c.args.within.now c.args.y k) = λ k. c.union-class.ensures k ∙ (λ i. read_row c.args.within.now c.args.x c.index-within-x.result (omega arith) c.index-within-x.is k i || read_row c.args.within.now c.args.y c.index-within-y.result (omega arith) c.index-within-y.is k i) in
    let above_is : (k : ℕ) → marks c.union-over.result k ≡ (links c.args.above.now c.args.x k || links c.args.above.now c.args.y k) = λ k. c.union-over.ensures k ∙ (λ i. read_row c.args.above.now c.args.x c.index-above-x.result (omega (arith, c.requires.sound.same)) c.index-above-x.is k i || read_row c.args.above.now c.args.y c.index-above-y.result (omega (arith, c.requires.sound.same)) c.index-above-y.is k i) in
    let settles = rw c.widen.auto.rows at c.settle.ensures in
    let same_in = c.settle.auto.within ∙ c.widen.auto.rows in
    record {
      few = rw same_in c.requires.sound.few;
      same = c.settle.auto.above ∙ c.widen-2.auto.rows ∙ c.requires.sound.same ∙ sym same_in;
      over = λ fact there. rw same_in (in_class_over (length c.args.within.now) c.args.x c.args.y (links c.args.within.now) (links c.args.above.now) (links c.widen.new.rows) (links c.widen-2.new.rows) (marks c.args.traditional.now) (marks c.args.present) c.requires.sound.over c.requires.x c.requires.y settles (marks c.union-class.result) (marks c.union-over.result) class_is above_is c.widen.ensures c.widen-2.ensures c.requires.x_there c.requires.y_there fact there);
    }

pub returns-clause-facts : goal.returns-clause-facts
returns-clause-facts c =
    let class_is : (k : ℕ) → marks c.union-class.result k ≡ (links c.args.within.now c.args.x k || links c.args.within.now c.args.y k) = λ k. c.union-class.ensures k ∙ (λ i. read_row c.args.within.now c.args.x c.index-within-x.result (omega arith) c.index-within-x.is k i || read_row c.args.within.now c.args.y c.index-within-y.result (omega arith) c.index-within-y.is k i) in
    let above_is : (k : ℕ) → marks c.union-over.result k ≡ (links c.args.above.now c.args.x k || links c.args.above.now c.args.y k) = λ k. c.union-over.ensures k ∙ (λ i. read_row c.args.above.now c.args.x c.index-above-x.result (omega (arith, c.requires.sound.same)) c.index-above-x.is k i || read_row c.args.above.now c.args.y c.index-above-y.result (omega (arith, c.requires.sound.same)) c.index-above-y.is k i) in
    let settles = rw c.widen.auto.rows at c.settle.ensures in
    in_class_exact (length c.args.within.now) c.args.x c.args.y (links c.args.within.now) (links c.args.above.now) (links c.widen.new.rows) (links c.widen-2.new.rows) (marks c.args.traditional.now) (marks c.args.present) c.requires.sound.over c.requires.x c.requires.y settles (marks c.union-class.result) (marks c.union-over.result) class_is above_is c.widen.ensures c.widen-2.ensures c.requires.x_there c.requires.y_there
