use Rattle.std.proofs.Common.{◌≡◌, false, take}
use Rattle.std.specs.List.{list_any}
use Rattle.rc_values.specs.Objects.{object_names}
use Rattle.rc_memory.proofs.region.any_names.Given as goal

abbrev pub invariant-loop-object : goal.invariant-loop-object
invariant-loop-object l = list_any (object_names l.region) (take l.object-index l.objects) ≡ false
