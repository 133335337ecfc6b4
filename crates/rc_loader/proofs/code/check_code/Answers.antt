use Rattle.std.proofs.Common.{◌≡◌, length, ap, arith}
use Rattle.rc_code.specs.Running.{reading_of}
use Rattle.rc_loader.proofs.Firsts.{code_is_sound}
use Rattle.rc_loader.proofs.code.check_code.Goals as goal

pub returns : goal.returns
returns c =
    code_is_sound (reading_of c.args.parts.now) c.args.function.now (λ n place r.
    c.loop-at.invariant.1 n (let long : length c.as_slice-size.result.now ≡ length c.args.function.now.code = ap length c.as_slice-size.ensures in
    omega (arith, place, long, c.loop-at-test.false, c.if-size-eq0.false)) r)
