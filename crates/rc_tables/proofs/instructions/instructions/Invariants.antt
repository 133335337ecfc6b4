use Rattle.std.proofs.Common.{◌≡◌, take}
use Rattle.rc_lines.specs.Bare.{lines_of}
use Rattle.rc_numbering.specs.Numbered.{numbered_from}
use Rattle.rc_tables.specs.Placed.{path_number, placed_code, type_number}
use Rattle.rc_tables.proofs.instructions.instructions.Given as goal

abbrev pub invariant-loop-at : goal.invariant-loop-at
invariant-loop-at l = l.rows.items ≡ numbered_from (type_number l.numbers) (path_number l.numbers) 0 (placed_code l.total (lines_of (take l.at l.lines)))
