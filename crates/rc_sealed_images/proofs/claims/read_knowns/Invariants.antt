use Rattle.std.proofs.Common.{◌≡◌, drop}
use Rattle.rc_fields.proofs.Loop.{with_front}
use Rattle.rc_sealed_images.specs.Reading.{knowns_at}
use Rattle.rc_sealed_images.proofs.claims.read_knowns.Given as goal

abbrev pub invariant-loop-function : goal.invariant-loop-function
invariant-loop-function l = with_front l.knowns.items (knowns_at (drop l.function-index l.functions) l.rest) ≡ knowns_at l.functions l.bytes
