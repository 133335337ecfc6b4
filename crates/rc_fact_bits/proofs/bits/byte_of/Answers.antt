use Rattle.std.proofs.Common.{◌≡◌, ◌∙◌, ◌+◌, true, false, refl, subst, arith}
use Rattle.rc_facts.specs.Facts.{holds}
use Rattle.rc_fact_bits.specs.Standing.{number_at, Stands}
use Rattle.rc_fact_bits.proofs.Bytes.{fill_none, fill_on}
use Rattle.rc_fact_bits.proofs.bits.byte_of.Goals as goal
use Rattle.rc_fact_bits.proofs.bits.byte_of.Goals.{then-so, else-so}

pub loop-at-init : goal.loop-at-init
loop-at-init c = record {
  inside = c.requires.inside;
  rows = omega arith;
  next = omega arith;
  filled = fill_none c.args.n (holds c.args.set.now) (number_at c.args.n c.args.first);
}

pub loop-at-preserved : goal.loop-at-preserved
loop-at-preserved c = record {
  inside = c.place_behind-behind.ensures.inside;
  rows = (let r = c.place_behind-behind.ensures.rows in let q = c.loop-at.invariant.rows in omega (arith, r, q));
  next = c.place_behind-behind.ensures.next ∙ (let e = c.loop-at.invariant.next in omega (arith, e));
  filled = fill_on c.args.n (holds c.args.set.now) (number_at c.args.n c.args.first) c.loop-at.at (c.loop-at.at + 1) c.loop-at.byte c.if-so.byte c.bit_of-so.result refl c.loop-at-test.true c.loop-at.invariant.filled (subst (λ k. Stands c.args.n (holds c.args.set.now) k c.bit_of-so.result) c.loop-at.invariant.next c.bit_of-so.ensures)
      (λ so. elim c.if-so.branch [
        | then-so w ↦ w.byte-is
        | else-so w ↦ (let no : c.bit_of-so.result ≡ false = w.if-so.false in cc)
      ])
      (λ so. elim c.if-so.branch [
        | then-so w ↦ (let yes : c.bit_of-so.result ≡ true = w.if-so.true in cc)
        | else-so w ↦ w.byte-is
      ]);
}
