-- The cells of an object as the heap keeps them.
use Rattle.std.specs.Prelude.{ℕ, Bool, ◌&&◌}
use Rattle.rc_core.specs.declared.layouts.Kind.{Kind}
use Rattle.rc_core.specs.Heap.{Value, names}
use Rattle.rc_store.specs.Values.{is_counted, value_of}
use Rattle.rc_plain_objects.specs.declared.slot.Slot.{Slot}

abbrev pub slot_kind : Slot → Kind
slot_kind s = s.kind

abbrev pub slot_value : Slot → Value
slot_value s = value_of s.value

-- a counted cell that names r
abbrev pub slot_refs : (r : ℕ) → Slot → Bool
slot_refs r s = is_counted s.kind && names r (value_of s.value)
