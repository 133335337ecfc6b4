use Rattle.std.proofs.Common.{◌≡◌, ◌-◌}
use Rattle.rc_fields.specs.Reading.{many, index_at}
use Rattle.rc_fields.proofs.Loop.{with_front}
use Rattle.rc_path_rules.proofs.paths.read_index_list.Given as goal

abbrev pub invariant-loop : goal.invariant-loop
invariant-loop l = with_front l.items.items (many index_at (l.count - l.counter) l.rest) ≡ many index_at l.count l.bytes
