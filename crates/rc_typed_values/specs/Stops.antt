-- Where a walk stops, that visits the parts of a node before the node.
use Rattle.std.specs.Prelude.{◌≡◌, Some}
use Rattle.rc_deletes.specs.Judged.{Judged, first_fault}
use Rattle.rc_typed_values.specs.declared.stop.Stop.{Stop}
use Rattle.rc_typed_values.specs.declared.stop.Stop.TheVariants.{Rule, Memory}

-- at the first violation, or out of memory
abbrev pub StopsAt : {A : Type 0} → Judged A → Stop → Type 0
StopsAt judged (Rule f) = first_fault judged ≡ Some f
StopsAt judged Memory = Unit {0}

-- at a rule, where no memory is taken
abbrev pub IsRule : Stop → Type 0
IsRule (Rule f) = Unit {0}
IsRule Memory = ⊥
