use Rattle.std.proofs.Common.{◌≡◌, take}
use Rattle.rc_emission.specs.KeptOperands.{same_type}
use Rattle.rc_lines.specs.Bare.{lines_of}
use Rattle.rc_numbering.specs.Names.{code_names}
use Rattle.rc_numbering.specs.Tables.{seen_behind}
use Rattle.rc_tables.specs.Kept.{all_types}
use Rattle.rc_tables.proofs.code.add_code.Given as goal

abbrev pub invariant-loop-line : goal.invariant-loop-line
invariant-loop-line l = all_types l.types ≡ seen_behind same_type (all_types l.fn.types) (code_names (lines_of (take l.line-index l.lines)))
