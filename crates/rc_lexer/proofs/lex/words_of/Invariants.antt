use Rattle.std.proofs.Common.{◌≡◌, ◌≤◌, ◌+◌, ◌-◌, [], take, drop, length}
use Rattle.rc_syntax.specs.Bytes.{line_behind}
use Rattle.rc_syntax.specs.WordShapes.{tokens_of}
use Rattle.rc_syntax.specs.Words.{Cut}
use Rattle.rc_lexer.proofs.lex.words_of.Given as goal

abbrev pub invariant-pieces : goal.invariant-pieces
invariant-pieces l = record {
  within : l.at ≤ length l.text;
  low : l.line ≤ l.at + 1;
  line : l.line ≡ line_behind (take l.at l.text);
  cut : Cut [] l.text (tokens_of l.tokens.items) (take l.at l.text) (drop l.at l.text);
}

abbrev pub decreases-pieces : goal.decreases-pieces
decreases-pieces l = length l.text - l.at
