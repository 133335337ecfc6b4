use Rattle.std.proofs.Common.{◌≡◌}
use Rattle.rc_deletes.specs.Items.{names_of}
use Rattle.rc_defined.proofs.Gathered.{definitions}
use Rattle.rc_defined.proofs.building.struct_names.Given as goal

abbrev pub invariant-loop-item : goal.invariant-loop-item
invariant-loop-item l = record { so_far : l.names ≡ names_of (definitions l.items l.item-index) }
