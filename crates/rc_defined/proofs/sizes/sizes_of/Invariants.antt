use Rattle.std.proofs.Common.{◌≡◌}
use Rattle.rc_defined.proofs.Counted.{counts}
use Rattle.rc_defined.proofs.Sized.{layouts_before}
use Rattle.rc_defined.proofs.sizes.sizes_of.Given as goal

abbrev pub invariant-loop-structure : goal.invariant-loop-structure
invariant-loop-structure l = record { so_far : l.sizes.items ≡ counts (layouts_before l.structs l.structure-index) }
