use Rattle.std.proofs.Common.{◌≡◌, ◌≤◌, ◌-◌, drop, length}
use Rattle.rc_syntax.specs.reader.Look.{body_at}
use Rattle.rc_lexer.proofs.Bodies.{prefixed}
use Rattle.rc_lexer.proofs.literal.body_at.Given as goal

abbrev pub invariant-loop-at : goal.invariant-loop-at
invariant-loop-at l = record {
  within : l.at ≤ length l.text;
  body : body_at 34 0 l.text ≡ prefixed l.at l.values.items (body_at 34 0 (drop l.at l.text));
}

abbrev pub decreases-loop-at : goal.decreases-loop-at
decreases-loop-at l = length l.text - l.at
