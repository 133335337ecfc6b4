use Rattle.std.proofs.Common.{◌≡◌, ◌-◌}
use Rattle.rc_fields.specs.Reading.{many, storage_at}
use Rattle.rc_fields.proofs.Loop.{with_front}
use Rattle.rc_fields.proofs.types.read_locals.Given as goal

abbrev pub invariant-loop : goal.invariant-loop
invariant-loop l = with_front l.items.items (many (storage_at l.types) (l.count - l.counter) l.rest) ≡ many (storage_at l.types) l.count l.bytes
