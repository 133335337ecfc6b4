use Rattle.std.proofs.Common.{◌∙◌, ◌||◌, ℕ, ap, sym, arith}
use Rattle.rc_base.specs.BitSets.{marks}
use Rattle.rc_facts.specs.Rows.{here, links, either_step}
use Rattle.rc_facts.proofs.RowLoops.{read_row}
use Rattle.rc_facts.proofs.RowLaws.{sweep_keeps, sweep_steps, sweep_sound, sweep_skips, stepped_below}
use Rattle.rc_facts.proofs.spread.swept.Goals as goal
use Rattle.rc_facts.proofs.spread.swept.Goals.{then-contains, else-contains}

pub loop-x-init : goal.loop-x-init
loop-x-init c = record {
  kept = λ x is. is;
  one = λ x y below. absurd (omega arith);
  sound = λ x is. here is;
}

pub loop-x-preserved : goal.loop-x-preserved
loop-x-preserved c =
    let step = either_step (links c.args.within.now) (links c.args.above.now) in
    let sweep = marks c.loop-x.reached in
    elim c.if-contains.branch [
      | then-contains w ↦
          let here_is = sym c.contains.ensures ∙ w.if-contains.true in
          let widens = λ (y : ℕ). ap (λ r. marks r y) w.reached-is ∙ w.union-reached.ensures y ∙ ap (λ b. sweep y || b) (w.union.ensures y ∙ (λ j. read_row c.args.within.now c.loop-x.x w.index-within-x.result (omega arith) w.index-within-x.is y j || read_row c.args.above.now c.loop-x.x w.index-above-x.result (omega (arith, c.requires.same)) w.index-above-x.is y j)) in
          record {
            kept = λ x is. sweep_keeps (marks c.args.start) sweep (marks c.if-contains.reached) step c.loop-x.x here_is widens x (c.loop-x.invariant.kept x is);
            one = sweep_steps (marks c.args.start) sweep (marks c.if-contains.reached) step c.loop-x.x here_is widens c.loop-x.invariant.one;
            sound = sweep_sound (marks c.args.start) sweep (marks c.if-contains.reached) step c.loop-x.x here_is widens c.loop-x.invariant.sound;
          }
      | else-contains w ↦ rw w.reached-is (record {
        kept = c.loop-x.invariant.kept;
        one = sweep_skips (marks c.args.start) sweep step c.loop-x.x (sym c.contains.ensures ∙ w.if-contains.false) c.loop-x.invariant.kept c.loop-x.invariant.one;
        sound = c.loop-x.invariant.sound;
      })
    ]

pub returns-clause-one : goal.returns-clause-one
returns-clause-one c = λ x y at is.
    let below = stepped_below c.args.within.now c.args.above.now x y c.requires.same is in
    c.loop-x.invariant.one x y (omega arith) at is
