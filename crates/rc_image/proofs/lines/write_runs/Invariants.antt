use Rattle.std.proofs.Common.{◌≡◌, ◌++◌, length, take}
use Rattle.std.specs.List.{flat_map}
use Rattle.rc_fields.specs.Spelling.{number}
use Rattle.rc_image.specs.Spelling.{run_bytes}
use Rattle.rc_image.proofs.lines.write_runs.Given as goal

abbrev pub invariant-loop-run : goal.invariant-loop-run
invariant-loop-run l = l.out.items ≡ l.fn.out.items ++ (number (length l.runs) ++ flat_map run_bytes (take l.run-index l.runs))
