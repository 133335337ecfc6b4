use Rattle.std.proofs.Common.{◌≡◌, ◌-◌, length, drop, subst, arith}
use Rattle.rc_scope.proofs.Stacks.{leave_one_more}
use Rattle.rc_scope.proofs.scopes.Scopes.leave.Goals as goal

pub loop-self-preserved : goal.loop-self-preserved
loop-self-preserved g c =
    let n = leave_one_more c.args.self.now c.loop-self.self c.pop.new.self c.loop-self.invariant.fewer c.loop-self.invariant.left (omega (arith, c.len.ensures, c.loop-self-test.true)) c.pop.ensures in
    record {
      fewer = omega (arith, n.0, c.loop-self.invariant.fewer);
      left = n.1;
      deep = omega (arith, n.0, c.loop-self.invariant.fewer, c.loop-self.invariant.deep, c.len.ensures, c.loop-self-test.true);
    }

pub returns : goal.returns
returns g c =
    let count : length c.args.self.now - length c.loop-self.self ≡ length c.args.self.now - c.args.depth = omega (arith, c.loop-self.invariant.fewer, c.loop-self.invariant.deep, c.len.ensures, c.loop-self-test.false) in
    subst (λ n. c.loop-self.self ≡ drop n c.args.self.now) count c.loop-self.invariant.left
