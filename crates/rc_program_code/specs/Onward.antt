-- The code of a function from some instruction on up to its end. It is kept the last instruction first, since it grows at its front.
use Rattle.std.specs.Prelude.{List, reverse}
use Rattle.rc_emission.specs.StackCode.{Line}
use Rattle.rc_lines.specs.declared.instruction.Line.{Line as CodeLine}
use Rattle.rc_lines.specs.Bare.{lines_of}

abbrev pub onward : List CodeLine → List Line
onward lines = reverse (lines_of lines)
