use Rattle.std.proofs.Common.{◌≡◌, map, take, ℕ, List}
use Rattle.rc_core.specs.Shapes.{bytes_of}
use Rattle.rc_core.specs.Types.{char}
use Rattle.rc_emission.specs.KeptOperands.{same_type}
use Rattle.rc_numbering.specs.Tables.{seen_behind}
use Rattle.rc_tables.specs.Kept.{all_types}
use Rattle.rc_tables.proofs.program.add_strings.Given as goal

abbrev pub invariant-loop-string : goal.invariant-loop-string
invariant-loop-string l = all_types l.types ≡ seen_behind same_type (all_types l.fn.types) (map (λ (bytes : List ℕ). char) (map bytes_of (take l._string-index l.strings)))
