use Rattle.std.proofs.Common.{◌≡◌, take}
use Rattle.rc_lines.specs.Bare.{lines_of}
use Rattle.rc_numbering.specs.Names.{code_paths, same_path}
use Rattle.rc_numbering.specs.Tables.{seen_behind}
use Rattle.rc_tables.specs.Numbers.{number_in}
use Rattle.rc_tables.proofs.named_paths.add_code.Given as goal

abbrev pub invariant-loop-line : goal.invariant-loop-line
invariant-loop-line l = l.paths ≡ seen_behind same_path l.fn.paths (code_paths (number_in l.types) (lines_of (take l.line-index l.lines)))
