use Rattle.std.proofs.Common.{◌≡◌, ◌++◌, length, take}
use Rattle.std.specs.List.{flat_map}
use Rattle.rc_fields.specs.Spelling.{number, index_bytes}
use Rattle.rc_path_rules.proofs.paths.write_indices.Given as goal

abbrev pub invariant-loop-index : goal.invariant-loop-index
invariant-loop-index l = l.out.items ≡ l.fn.out.items ++ (number (length l.indices) ++ flat_map index_bytes (take l.index-index l.indices))
