use Rattle.std.proofs.Common.{◌≡◌, ◌-◌}
use Rattle.rc_fields.specs.Reading.{many}
use Rattle.rc_image.specs.Reading.{function_at}
use Rattle.rc_fields.proofs.Loop.{with_front}
use Rattle.rc_image.proofs.functions.read_function_list.Given as goal

abbrev pub invariant-loop : goal.invariant-loop
invariant-loop l = with_front l.items.items (many (function_at l.version l.types) (l.count - l.counter) l.rest) ≡ many (function_at l.version l.types) l.count l.bytes
