use Rattle.std.proofs.Common.{◌≡◌, ◌∙◌, ℕ, suc, ◌+◌, ◌*◌, List, sym, ap, subst, arith}
use Rattle.rc_facts.specs.Facts.{holds}
use Rattle.rc_claims.specs.Bits.{byte_count}
use Rattle.rc_fact_bits.specs.Standing.{ByteStands}
use Rattle.rc_fact_bits.proofs.Bytes.{Packed, pack_none, pack_more, packed_claims, packed_fit}
use Rattle.rc_fact_bits.proofs.bits.bits_of.Goals as goal

pub loop-at-init : goal.loop-at-init
loop-at-init c = record {
  packed = subst (λ (all : List ℕ). Packed c.args.n (holds c.args.set.now) 0 all) (sym c.in_ok-bytes.ensures.items) (pack_none c.args.n (holds c.args.set.now));
  inside = λ some. (let e = c.first_place-next.ensures.column in omega (arith, e, some));
  rows = (let e = c.first_place-next.ensures.row in omega (arith, e));
  next = ap (λ r. r * c.args.n + c.first_place-next.result.column) c.first_place-next.ensures.row ∙ (let e = c.first_place-next.ensures.column in omega (arith, e));
}

pub loop-at-preserved : goal.loop-at-preserved
loop-at-preserved c =
    let next : suc c.loop-at._at ≡ c.loop-at._at + 1 = omega arith in
    record {
      packed = subst (λ k. Packed c.args.n (holds c.args.set.now) k c.push.new.self.items) next (pack_more c.args.n (holds c.args.set.now) c.loop-at._at c.loop-at.bytes.items c.push.new.self.items c.byte_of-found.result.byte c.loop-at.invariant.packed
          (subst (λ k. ByteStands c.args.n (holds c.args.set.now) k c.byte_of-found.result.byte) c.loop-at.invariant.next c.byte_of-found.ensures.stands) c.in_ok-push.ensures.items);
      inside = λ some. c.byte_of-found.ensures.inside;
      rows = (let r = c.byte_of-found.ensures.rows in let q = c.loop-at.invariant.rows in omega (arith, r, q));
      next = c.byte_of-found.ensures.next ∙ (let e = c.loop-at.invariant.next in omega (arith, e));
    }

pub returns : goal.returns
returns c =
    let end : c.loop-at._at ≡ byte_count c.args.n = omega (arith, c.loop-at-test.false, c.loop-at.auto._at-end, c.count_of-count.ensures.is) in
    let packed = subst (λ k. Packed c.args.n (holds c.args.set.now) k c.new.result) end (subst (Packed c.args.n (holds c.args.set.now) c.loop-at._at) (sym c.new.ensures) c.loop-at.invariant.packed) in
    record {
      facts = packed_claims c.args.n (holds c.args.set.now) c.new.result packed;
      fit = packed_fit c.args.n (holds c.args.set.now) c.new.result packed;
    }
