use Rattle.std.proofs.Common.{◌≡◌, ◌∙◌, ◌||◌, ◌&&◌, not, ℕ, true, length, ap, sym, arith}
use Rattle.std.proofs.lemmas.Bool.{or_right, and_parts}
use Rattle.rc_base.specs.BitSets.{marks}
use Rattle.rc_facts.specs.Rows.{links}
use Rattle.rc_facts.proofs.RowLoops.{read_row}
use Rattle.rc_facts.proofs.Present.{follows_starts, joining_starts, follows_step, joining_step, joining_skips, after_over, present_exact}
use Rattle.rc_facts.proofs.adding.present_rows.Goals as goal
use Rattle.rc_facts.proofs.adding.present_rows.Goals.{then-contains, else-contains}

pub loop-u-init : goal.loop-u-init
loop-u-init c =
    let n = length c.args.within.now in
    let in0 = links c.args.within.now in
    let up0 = links c.args.above.now in
    let t0 = marks c.args.traditional.now in
    let p0 = marks c.args.present.now in
    let wider = marks c.union-wider.result in
    let widens : (y : ℕ) → wider y ≡ (p0 y || up0 c.args.x y) = λ y. c.union-wider.ensures y ∙ ap (λ b. p0 y || b) (read_row c.args.above.now c.args.x c.index-above-x.result (omega (arith, c.requires.sound.same)) c.index-above-x.is y) in
    let lefts : (y : ℕ) → marks c.difference-left.result y ≡ (up0 c.args.x y && not (p0 y)) = λ y. c.difference-left.ensures y ∙ ap (λ b. b && not (p0 y)) (read_row c.args.above.now c.args.x c.index-above-x-2.result (omega (arith, c.requires.sound.same)) c.index-above-x-2.is y) in
    record {
      follows = follows_starts n c.args.x in0 up0 t0 p0 wider c.requires.sound.over c.requires.x widens;
      left_wider = λ y is. widens y ∙ or_right (p0 y) _ (and_parts (up0 c.args.x y) _ (sym (lefts y) ∙ is)).0;
      joining = λ s apart shut clean. joining_starts n c.args.x in0 up0 t0 p0 wider c.requires.sound.over c.requires.x widens s apart shut clean (marks c.difference-left.result) lefts;
    }

pub loop-u-preserved : goal.loop-u-preserved
loop-u-preserved c =
    let n = length c.args.within.now in
    let in0 = links c.args.within.now in
    let up0 = links c.args.above.now in
    let t0 = marks c.args.traditional.now in
    let p0 = marks c.args.present.now in
    let wider = marks c.union-wider.result in
    let widens : (y : ℕ) → wider y ≡ (p0 y || up0 c.args.x y) = λ y. c.union-wider.ensures y ∙ ap (λ b. p0 y || b) (read_row c.args.above.now c.args.x c.index-above-x.result (omega (arith, c.requires.sound.same)) c.index-above-x.is y) in
    elim c.if-contains.branch [
      | then-contains w ↦
          let class_is : (y : ℕ) → marks w.index-within-u.result y ≡ links c.loop-u.within c.loop-u.u y = read_row c.loop-u.within c.loop-u.u w.index-within-u.result (omega arith) w.index-within-u.is in
          let above_is : (y : ℕ) → marks w.index-above-u.result y ≡ links c.loop-u.above c.loop-u.u y = read_row c.loop-u.above c.loop-u.u w.index-above-u.result (omega (arith, c.requires.sound.same)) w.index-above-u.is in
          let u_left : marks c.loop-u.left c.loop-u.u ≡ true = sym w.if-contains.ensures in
          let u_wider : wider c.loop-u.u ≡ true = c.loop-u.invariant.left_wider c.loop-u.u u_left in
          rw (w.within-is, w.above-is, w.left-is) (record {
            follows = follows_step n c.args.x in0 up0 t0 p0 wider c.requires.sound.over c.requires.x widens (links c.loop-u.within) (links c.loop-u.above) (links w.widen.new.rows) (links w.widen-then-contains.new.rows) (marks w.index-within-u.result) (marks w.index-above-u.result) c.loop-u.u w.widen.ensures w.widen-then-contains.ensures class_is above_is u_wider c.loop-u.invariant.follows;
            left_wider = λ y is. c.loop-u.invariant.left_wider y (and_parts (marks c.loop-u.left y) _ (sym (w.difference-left-then-contains.ensures y) ∙ is)).0;
            joining = λ s apart shut clean. joining_step n c.args.x in0 up0 t0 p0 wider c.requires.sound.over c.requires.x widens (links c.loop-u.within) (links c.loop-u.above) (links w.widen.new.rows) (links w.widen-then-contains.new.rows) (marks w.index-within-u.result) (marks w.index-above-u.result) c.loop-u.u w.widen.ensures w.widen-then-contains.ensures class_is above_is u_wider s (marks c.loop-u.left) (marks w.difference-left-then-contains.result) c.loop-u.invariant.follows (c.loop-u.invariant.joining s apart shut clean) w.difference-left-then-contains.ensures;
          })
      | else-contains w ↦ rw (w.within-is, w.above-is, w.left-is) (record {
        follows = c.loop-u.invariant.follows;
        left_wider = c.loop-u.invariant.left_wider;
        joining = λ s apart shut clean. joining_skips n c.args.x in0 up0 t0 p0 wider c.requires.sound.over c.requires.x widens s (links c.loop-u.within) (links c.loop-u.above) (marks c.loop-u.left) c.loop-u.u (sym w.if-contains.ensures) (c.loop-u.invariant.joining s apart shut clean);
      })
    ]

pub returns-clause-sound : goal.returns-clause-sound
returns-clause-sound c =
    let n = length c.args.within.now in
    let in0 = links c.args.within.now in
    let up0 = links c.args.above.now in
    let t0 = marks c.args.traditional.now in
    let p0 = marks c.args.present.now in
    let wider = marks c.union-wider.result in
    let widens : (y : ℕ) → wider y ≡ (p0 y || up0 c.args.x y) = λ y. c.union-wider.ensures y ∙ ap (λ b. p0 y || b) (read_row c.args.above.now c.args.x c.index-above-x.result (omega (arith, c.requires.sound.same)) c.index-above-x.is y) in
    let same_in : length c.settle.new.within ≡ n = c.settle.auto.within ∙ c.loop-u.auto.within in
    let same_up : length c.settle.new.above ≡ length c.args.above.now = c.settle.auto.above ∙ c.loop-u.auto.above in
    record {
      few = rw same_in c.requires.sound.few;
      same = same_up ∙ c.requires.sound.same ∙ sym same_in;
      over = λ fact there. rw same_in (after_over n c.args.x in0 up0 t0 p0 wider c.requires.sound.over c.requires.x widens (links c.loop-u.within) (links c.loop-u.above) (links c.settle.new.within) (links c.settle.new.above) (marks c.settle.new.traditional) c.loop-u.invariant.follows (rw c.loop-u.auto.within at c.settle.ensures) fact there);
    }

pub returns-clause-facts : goal.returns-clause-facts
returns-clause-facts c =
    let n = length c.args.within.now in
    let in0 = links c.args.within.now in
    let up0 = links c.args.above.now in
    let t0 = marks c.args.traditional.now in
    let p0 = marks c.args.present.now in
    let wider = marks c.union-wider.result in
    let widens : (y : ℕ) → wider y ≡ (p0 y || up0 c.args.x y) = λ y. c.union-wider.ensures y ∙ ap (λ b. p0 y || b) (read_row c.args.above.now c.args.x c.index-above-x.result (omega (arith, c.requires.sound.same)) c.index-above-x.is y) in
    let ends : c.loop-u.u ≡ n = omega arith in
    λ s apart shut clean. present_exact n c.args.x in0 up0 t0 p0 wider c.requires.sound.over c.requires.x widens (links c.loop-u.within) (links c.loop-u.above) (links c.settle.new.within) (links c.settle.new.above) (marks c.settle.new.traditional) c.loop-u.invariant.follows (rw c.loop-u.auto.within at c.settle.ensures) s apart shut clean (marks c.loop-u.left) (rw ends at c.loop-u.invariant.joining s apart shut clean)
