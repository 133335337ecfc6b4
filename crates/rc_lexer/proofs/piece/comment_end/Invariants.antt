use Rattle.std.proofs.Common.{◌≡◌, drop}
use Rattle.rc_syntax.specs.reader.Look.{comment_end}
use Rattle.rc_lexer.proofs.Places.{from_place}
use Rattle.rc_lexer.proofs.piece.comment_end.Given as goal

abbrev pub invariant-loop-i : goal.invariant-loop-i
invariant-loop-i l = comment_end l.bytes ≡ from_place l.i (comment_end (drop l.i l.bytes))
