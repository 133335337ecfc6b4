use Rattle.std.proofs.Common.{◌≡◌, ◌-◌}
use Rattle.rc_fields.specs.Reading.{many, type_at}
use Rattle.rc_fields.proofs.Loop.{with_front}
use Rattle.rc_fields.proofs.types.read_type_list.Given as goal

abbrev pub invariant-loop : goal.invariant-loop
invariant-loop l = with_front l.items.items (many (type_at l.types) (l.count - l.counter) l.rest) ≡ many (type_at l.types) l.count l.bytes
