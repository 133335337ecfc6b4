use Rattle.std.proofs.Common.{◌≡◌, false, map, take}
use Rattle.std.specs.List.{list_any}
use Rattle.rc_core.specs.Heap.{names}
use Rattle.rc_values.specs.Values.{value_of}
use Rattle.rc_values.proofs.values.any_names.Given as goal

abbrev pub invariant-loop-value : goal.invariant-loop-value
invariant-loop-value l = list_any (names l.region) (map value_of (take l.value-index l.values)) ≡ false
