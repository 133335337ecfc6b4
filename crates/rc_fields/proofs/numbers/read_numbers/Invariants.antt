use Rattle.std.proofs.Common.{◌≡◌, ◌-◌}
use Rattle.rc_fields.specs.Reading.{many, number_at}
use Rattle.rc_fields.proofs.Loop.{with_front}
use Rattle.rc_fields.proofs.numbers.read_numbers.Given as goal

abbrev pub invariant-loop : goal.invariant-loop
invariant-loop l = with_front l.items.items (many number_at (l.count - l.counter) l.rest) ≡ many number_at l.count l.bytes
