use Rattle.std.proofs.Common.{◌≡◌, ◌+◌, ◌++◌, map, take, length}
use Rattle.rc_store.specs.Values.{blank_of}
use Rattle.rc_plain_objects.specs.Slots.{slot_kind, slot_value}
use Rattle.rc_plain_objects.proofs.object.push_element.Given as goal

abbrev pub invariant-loop-kind : goal.invariant-loop-kind
invariant-loop-kind l = record {
  kinds : map slot_kind l.slots.items ≡ map slot_kind l.fn.slots.items ++ take l.kind-index l.kinds;
  values : map slot_value l.slots.items ≡ map slot_value l.fn.slots.items ++ map blank_of (take l.kind-index l.kinds);
  len : length l.slots.items ≡ length l.fn.slots.items + l.kind-index;
}
