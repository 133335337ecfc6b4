use Rattle.std.proofs.Common.{◌≡◌, ◌*◌, map, replicate, length}
use Rattle.std.specs.Prelude.{flat_map}
use Rattle.rc_store.specs.Values.{blank_of}
use Rattle.rc_plain_objects.specs.Slots.{slot_kind, slot_value}
use Rattle.rc_plain_objects.proofs.object.elements.Given as goal

abbrev pub invariant-loop : goal.invariant-loop
invariant-loop l = record {
  kinds : map slot_kind l.slots.items ≡ flat_map (λ ks. ks) (replicate l.counter l.kinds);
  values : map slot_value l.slots.items ≡ flat_map (map blank_of) (replicate l.counter l.kinds);
  len : length l.slots.items ≡ l.counter * length l.kinds;
}
