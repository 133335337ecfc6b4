use Rattle.std.proofs.Common.{◌≡◌, ◌++◌, length, take}
use Rattle.std.specs.List.{flat_map}
use Rattle.rc_fields.specs.Spelling.{number, type_bytes}
use Rattle.rc_fields.proofs.types.write_types.Given as goal

abbrev pub invariant-loop-cells : goal.invariant-loop-cells
invariant-loop-cells l = l.out.items ≡ l.fn.out.items ++ (number (length l.types) ++ flat_map type_bytes (take l.cells-index l.types))
