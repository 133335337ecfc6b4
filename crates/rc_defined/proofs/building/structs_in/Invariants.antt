use Rattle.std.proofs.Common.{◌≡◌, map}
use Rattle.rc_deletes.specs.Items.{shape_of}
use Rattle.rc_defined.specs.Fields.{fields_of}
use Rattle.rc_defined.proofs.Gathered.{definitions}
use Rattle.rc_defined.proofs.building.structs_in.Given as goal

abbrev pub invariant-loop-item : goal.invariant-loop-item
invariant-loop-item l = record { so_far : map fields_of l.structs.items ≡ map (shape_of l.types) (definitions l.items l.item-index) }
