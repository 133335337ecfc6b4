use Rattle.std.proofs.Common.{◌≡◌, ◌++◌, length, take}
use Rattle.std.specs.List.{flat_map}
use Rattle.rc_fields.specs.Spelling.{number, cell_bytes}
use Rattle.rc_fields.proofs.types.write_type.Given as goal

abbrev pub invariant-loop-cell : goal.invariant-loop-cell
invariant-loop-cell l = l.out.items ≡ l.fn.out.items ++ (number (length l.cells) ++ flat_map cell_bytes (take l.cell-index l.cells))
