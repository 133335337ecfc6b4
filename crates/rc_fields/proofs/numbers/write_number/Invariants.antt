use Rattle.std.proofs.Common.{◌≡◌, ◌-◌, ◌++◌}
use Rattle.rc_fields.specs.Spelling.{digits}
use Rattle.rc_fields.proofs.numbers.write_number.Given as goal

abbrev pub invariant-loop : goal.invariant-loop
invariant-loop l = l.out.items ++ digits (9 - l.counter) l.rest ≡ l.fn.out.items ++ digits 9 l.n
