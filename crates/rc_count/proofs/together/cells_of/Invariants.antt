use Rattle.std.proofs.Common.{◌≡◌, take}
use Rattle.rc_count.specs.Together.{cells_among}
use Rattle.rc_count.proofs.together.cells_of.Given as goal

abbrev pub invariant-loop-region : goal.invariant-loop-region
invariant-loop-region g l = l.cells ≡ cells_among l.space.regions (take l.region-index l.set)
