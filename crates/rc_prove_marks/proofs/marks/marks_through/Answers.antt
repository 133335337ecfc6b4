use Rattle.std.proofs.Common.{◌≡◌, ◌+◌, suc, subst, length, arith}
use Rattle.rc_prove.specs.Family.{family_of}
use Rattle.rc_prove_marks.specs.Going.{IsAt, AreFirst}
use Rattle.rc_prove_marks.proofs.Going.{one_more}
use Rattle.rc_prove_marks.proofs.marks.marks_through.Goals as goal

pub loop-at-preserved : goal.loop-at-preserved
loop-at-preserved c =
    let m = family_of c.args.claims.now.entries.items c.args.claims.now.exits.items c.args.claims.now.frames.items in
    let next : suc c.loop-at.at ≡ c.loop-at.at + 1 = omega arith in
    record {
      here = subst (λ k. IsAt c.args.route.now m k c.go_on.new.work) next c.in_ok-proved.ensures.next;
      marked = subst (λ k. AreFirst c.args.route.now m k c.push.new.self.items) next (one_more c.args.route.now m c.loop-at.at c.loop-at.marks.items c.push.new.self.items c.in_ok-proved.proved c.loop-at.invariant.marked c.in_ok-push.ensures.items c.in_ok-proved.ensures.tells);
    }

pub returns : goal.returns
returns c =
    let m = family_of c.args.claims.now.entries.items c.args.claims.now.exits.items c.args.claims.now.frames.items in
    let last : c.loop-at.at ≡ length c.args.route.now.spots.items = (let f = c.loop-at-test.false in let e = c.loop-at.auto.at-end in let z = c.len-at-end.ensures in omega (arith, f, e, z)) in
    subst (λ k. AreFirst c.args.route.now m k c.loop-at.marks.items) last c.loop-at.invariant.marked
