use Rattle.std.proofs.Common.{◌≡◌, map, replicate}
use Rattle.std.specs.Prelude.{flat_map}
use Rattle.rc_values.specs.Cells.{blank_cell}
use Rattle.rc_values.proofs.object.blank.Given as goal

abbrev pub invariant-loop : goal.invariant-loop
invariant-loop l = l.values ≡ flat_map (map blank_cell) (replicate l.counter l.kinds)
