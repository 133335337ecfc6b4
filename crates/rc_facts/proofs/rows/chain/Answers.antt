use Rattle.std.proofs.Common.{arith}
use Rattle.rc_facts.specs.Rows.{link}
use Rattle.rc_facts.proofs.RowLaws.{pass_keeps, pass_sound, pass_passes, chain_all}
use Rattle.rc_facts.specs.Rows.{links}
use Rattle.rc_facts.proofs.rows.chain.Goals as goal

pub loop-middle-init : goal.loop-middle-init
loop-middle-init c = record {
  kept = λ x y is. is;
  sound = λ x y is. link is;
  passed = λ x y z below. absurd (omega arith);
}

pub loop-middle-preserved : goal.loop-middle-preserved
loop-middle-preserved c =
    let r = links c.loop-middle.rows in
    let s = links c.pass.new.rows in
    record {
      kept = λ x y is. pass_keeps r s c.loop-middle.middle c.pass.ensures (c.loop-middle.invariant.kept x y is);
      sound = pass_sound r s c.loop-middle.middle c.pass.ensures c.loop-middle.invariant.sound;
      passed = pass_passes r s c.loop-middle.middle c.pass.ensures c.loop-middle.invariant.passed;
    }

pub returns : goal.returns
returns c = λ x y. (c.loop-middle.invariant.sound x y, chain_all _ c.requires.within c.loop-middle.invariant.kept (λ x y z below. c.loop-middle.invariant.passed x y z (omega arith)))
