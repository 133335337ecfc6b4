use Rattle.std.proofs.Common.{arith, ◌-◌}
use Rattle.rc_fields.proofs.Bounds.{bound_least, bound_step, bound_most}
use Rattle.rc_fields.proofs.numbers.+read_tail.Goals as goal

pub returns-then-digit-lt128-clause-bound : goal.returns-then-digit-lt128-clause-bound
returns-then-digit-lt128-clause-bound t c = omega (arith, bound_least (c.args.more - 1), bound_step c.args.more)

pub overflow_mul-result : goal.overflow_mul-result
overflow_mul-result t c = omega (arith, c.in_ok-high.ensures.bound, bound_most (c.args.more - 1))

pub overflow_add-result : goal.overflow_add-result
overflow_add-result t c = omega (arith, c.in_ok-high.ensures.bound, bound_most (c.args.more - 1))
