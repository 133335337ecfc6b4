use Rattle.std.proofs.Common.{◌≡◌, ◌≤◌, ◌-◌, length, map}
use Rattle.rc_syntax.specs.Grammar.{Text}
use Rattle.rc_syntax.specs.Shape.{item_of}
use Rattle.rc_syntax.specs.reader.Steps.{entry, run}
use Rattle.rc_words.specs.Words.{from}
use Rattle.rc_parser.proofs.Texts.{behind}
use Rattle.rc_parser.proofs.items.parse.Given as goal

abbrev pub invariant-loop-alloc : goal.invariant-loop-alloc
invariant-loop-alloc l = (run 0 (entry Text) (from l.tokens 0) ≡ run 0 (behind (map item_of l.items.items) l.place) (from l.tokens l.place)) × (l.place ≤ length l.tokens)

abbrev pub decreases-loop-alloc : goal.decreases-loop-alloc
decreases-loop-alloc l = length l.tokens - l.place
