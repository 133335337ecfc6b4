-- The bytes of a line.
use Rattle.std.specs.Prelude.{ℕ, List}
use Rattle.rc_answers.specs.Pieces.{all_numbered}
use Rattle.rc_answers.specs.declared.line.Line.{Line}

abbrev pub line_bytes : Line → List ℕ
line_bytes line = all_numbered line.text.now line.first line.second
