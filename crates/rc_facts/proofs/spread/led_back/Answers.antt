use Rattle.std.proofs.Common.{inl, inr, arith}
use Rattle.rc_facts.proofs.RowLaws.{linked_below}
use Rattle.rc_facts.proofs.spread.led_back.Goals as goal

pub returns : goal.returns
returns c = λ x. (
  c.loop-x.invariant.sound x,
  λ from. elim from [
    | inl at ↦ c.loop-x.invariant.kept x at
    | inr (y, is, at) ↦ (let below = linked_below c.args.rows.now x y is in c.loop-x.invariant.found x y (omega arith) is at)
  ],
)
