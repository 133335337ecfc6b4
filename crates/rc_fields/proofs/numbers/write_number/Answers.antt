use Rattle.std.proofs.Common.{◌-◌, ◌++◌}
use Rattle.rc_fields.specs.Spelling.{digits}
use Rattle.rc_fields.proofs.Digits.{last_one, one_more, tenth}
use Rattle.rc_fields.proofs.numbers.write_number.Goals as goal

pub returns-then-rest-lt128 : goal.returns-then-rest-lt128
returns-then-rest-lt128 c =
    last_one c.loop.out.items c.push.new.self.items (c.args.out.now.items ++ digits 9 c.args.n) (9 - c.loop.counter) c.loop.rest c.if-rest-lt128.true c.in_ok-push.ensures.items c.loop.invariant

pub loop-preserved : goal.loop-preserved
loop-preserved c =
    one_more c.loop.out.items c.push-in-loop.new.self.items (c.args.out.now.items ++ digits 9 c.args.n) c.loop.counter c.loop.rest c.loop-test.true c.if-rest-lt128.false c.in_ok-push-2.ensures.items c.loop.invariant

pub returns : goal.returns
returns c = tenth c.loop.out.items c.push-2.new.self.items (c.args.out.now.items ++ digits 9 c.args.n) c.loop.counter c.loop.rest c.loop-test.false c.in_ok-push-3.ensures.items c.loop.invariant
