use Rattle.std.proofs.Common.{◌≡◌, map, take}
use Rattle.rc_core.specs.Laid.{held_kind}
use Rattle.rc_core.specs.Shapes.{kinds_in}
use Rattle.rc_areas.specs.Naming.{name_of}
use Rattle.rc_areas.proofs.naming.is_of.Given as goal

abbrev pub invariant-loop-i : goal.invariant-loop-i
invariant-loop-i l = take l.i (name_of l.shape) ≡ take l.i (name_of (map held_kind (kinds_in l.layout)))
