use Rattle.std.proofs.Common.{◌≡◌, ◌≤◌, ◌+◌, take}
use Rattle.std.specs.List.{count_by}
use Rattle.rc_plain_objects.specs.Slots.{slot_refs}
use Rattle.rc_plain_objects.proofs.object.any_names.Given as goal

abbrev pub invariant-loop-slot : goal.invariant-loop-slot
invariant-loop-slot g l = record { none : count_by (slot_refs l.region) (take l.slot-index l.slots) ≡ 0; cost : l.steps ≤ l.fn.steps + l.slot-index; never_falls : l.fn.steps ≤ l.steps }
