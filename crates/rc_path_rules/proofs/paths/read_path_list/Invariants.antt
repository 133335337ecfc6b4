use Rattle.std.proofs.Common.{◌≡◌, ◌-◌}
use Rattle.rc_path_rules.specs.Masks.{AreRight}
use Rattle.rc_fields.specs.Reading.{many, path_at}
use Rattle.rc_fields.proofs.Loop.{with_front}
use Rattle.rc_path_rules.proofs.paths.read_path_list.Given as goal

abbrev pub invariant-loop : goal.invariant-loop
invariant-loop l = (with_front l.items.items (many (path_at l.types) (l.count - l.counter) l.rest) ≡ many (path_at l.types) l.count l.bytes) × AreRight l.types l.masks
