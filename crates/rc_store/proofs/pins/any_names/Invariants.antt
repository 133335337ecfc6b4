use Rattle.std.proofs.Common.{◌≡◌, take}
use Rattle.std.specs.List.{count_by}
use Rattle.rc_store.specs.Values.{cell_refs}
use Rattle.rc_store.proofs.pins.any_names.Given as goal

abbrev pub invariant-loop-cell : goal.invariant-loop-cell
invariant-loop-cell l = count_by (cell_refs l.region) (take l.cell-index l.cells) ≡ 0
