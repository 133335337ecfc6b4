use Rattle.std.proofs.Common.{◌≡◌, ◌-◌}
use Rattle.rc_fields.proofs.Loop.{with_front}
use Rattle.rc_sealed_images.specs.Reading.{frames_at}
use Rattle.rc_sealed_images.proofs.claims.read_frames.Given as goal

abbrev pub invariant-loop : goal.invariant-loop
invariant-loop l = with_front l.frames.items (frames_at l.function (l.count - l.counter) l.least l.rest) ≡ frames_at l.function l.count 0 l.bytes
