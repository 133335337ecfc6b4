use Rattle.std.proofs.Common.{◌≡◌, ◌++◌, length, take}
use Rattle.std.specs.List.{flat_map}
use Rattle.rc_fields.specs.Spelling.{number, path_bytes}
use Rattle.rc_path_rules.proofs.paths.write_paths.Given as goal

abbrev pub invariant-loop-path : goal.invariant-loop-path
invariant-loop-path l = l.out.items ≡ l.fn.out.items ++ (number (length l.paths) ++ flat_map path_bytes (take l.path-index l.paths))
