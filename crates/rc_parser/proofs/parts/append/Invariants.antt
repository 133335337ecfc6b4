use Rattle.std.proofs.Common.{◌≡◌, ◌++◌}
use Rattle.rc_parser.proofs.parts.append.Given as goal

abbrev pub invariant-loop-value : goal.invariant-loop-value
invariant-loop-value g l = l.values.items ≡ l.fn.values.items ++ l.yielded
