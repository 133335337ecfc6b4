use Rattle.std.proofs.Common.{◌≡◌, ◌-◌}
use Rattle.rc_fields.specs.Reading.{many, cell_at}
use Rattle.rc_fields.proofs.Loop.{with_front}
use Rattle.rc_fields.proofs.types.read_cells.Given as goal

abbrev pub invariant-loop : goal.invariant-loop
invariant-loop l = with_front l.items.items (many (cell_at l.types) (l.count - l.counter) l.rest) ≡ many (cell_at l.types) l.count l.bytes
