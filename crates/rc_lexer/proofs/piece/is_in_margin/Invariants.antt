use Rattle.std.proofs.Common.{◌≡◌, ◌≤◌, length, take}
use Rattle.rc_syntax.specs.reader.Look.{is_in_margin}
use Rattle.rc_lexer.proofs.piece.is_in_margin.Given as goal

abbrev pub invariant-loop-at : goal.invariant-loop-at
invariant-loop-at l = record {
  within : l.at ≤ length l.before;
  margin : is_in_margin l.before ≡ is_in_margin (take l.at l.before);
}

abbrev pub decreases-loop-at : goal.decreases-loop-at
decreases-loop-at l = l.at
