use Rattle.std.proofs.Common.{ap, ◌≡◌, length, subst, arith}
use Rattle.rc_seal.specs.Claiming.{family, AreFirstKnown}
use Rattle.rc_seal.proofs.Claiming.{none_known, one_more_known}
use Rattle.rc_seal.proofs.claims.all_known.Goals as goal

pub loop-at-init : goal.loop-at-init
loop-at-init c = none_known c.args.sets.now.parts.now (family c.args.sets.now) c.new-all.result.items c.new-all.ensures.items

pub loop-at-preserved : goal.loop-at-preserved
loop-at-preserved c =
    let parts = c.args.sets.now.parts.now in
    let m = family c.args.sets.now in
    one_more_known parts m c.loop-at.at c.loop-at.all.items c.put.new.out.items c.in_ok-known.known c.in_ok-put.ensures
    c.in_ok-known.ensures c.loop-at.invariant

pub returns : goal.returns
returns c =
    let last : c.loop-at.at ≡ length c.args.sets.now.parts.now.functions = (let f = c.loop-at-test.false in let e = c.loop-at.auto.at-end in let n = ap length c.as_slice-at-end.ensures in omega (arith, f, e, n)) in
    subst (λ k. AreFirstKnown c.args.sets.now.parts.now (family c.args.sets.now) k c.loop-at.all.items) last c.loop-at.invariant
