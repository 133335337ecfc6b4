use Rattle.std.proofs.Common.{◌≡◌, ◌-◌}
use Rattle.rc_fields.specs.Reading.{many}
use Rattle.rc_image.specs.Reading.{instruction_at}
use Rattle.rc_fields.proofs.Loop.{with_front}
use Rattle.rc_image.proofs.instructions.read_instruction_list.Given as goal

abbrev pub invariant-loop : goal.invariant-loop
invariant-loop l = with_front l.items.items (many instruction_at (l.count - l.counter) l.rest) ≡ many instruction_at l.count l.bytes
