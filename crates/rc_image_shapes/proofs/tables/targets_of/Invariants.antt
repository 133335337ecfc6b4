use Rattle.std.proofs.Common.{◌≡◌, ℕ, ◌<◌, ◌||◌, false, length, get_or}
use Rattle.std.specs.List.{list_any}
use Rattle.rc_sealed.specs.Carrying.{jumps_to}
use Rattle.rc_image_shapes.proofs.tables.targets_of.Given as goal

abbrev pub invariant-loop-rest : goal.invariant-loop-rest
invariant-loop-rest l = record {
  long : length l.targets.items ≡ length l.code;
  marks : (at : ℕ) → at < length l.code → (get_or l.targets.items at false || list_any (jumps_to at) l.rest) ≡ list_any (jumps_to at) l.code;
}

abbrev pub decreases-loop-rest : goal.decreases-loop-rest
decreases-loop-rest l = length l.rest
