use Rattle.std.proofs.Common.{◌≡◌, ◌++◌, length, take}
use Rattle.std.specs.List.{flat_map}
use Rattle.rc_fields.specs.Spelling.{number, storage_bytes}
use Rattle.rc_fields.proofs.types.write_locals.Given as goal

abbrev pub invariant-loop-local : goal.invariant-loop-local
invariant-loop-local l = l.out.items ≡ l.fn.out.items ++ (number (length l.locals) ++ flat_map storage_bytes (take l.local-index l.locals))
