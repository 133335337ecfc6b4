use Rattle.std.proofs.Common.{◌≡◌, ◌≤◌, ◌-◌, ℕ, [], length}
use Rattle.rc_syntax.specs.Grammar.{Symbol, Stars}
use Rattle.rc_syntax.specs.reader.Todo.{build}
use Rattle.rc_syntax.specs.reader.Steps.{Stack, run}
use Rattle.rc_words.specs.Words.{from}
use Rattle.rc_expr.specs.Goes.{amid, Around}
use Rattle.rc_expr.proofs.types.stars.Given as goal

abbrev pub invariant-loop-notes : goal.invariant-loop-notes
invariant-loop-notes l =
    ((root : Symbol) (round : ℕ) (k : Stack root Stars) → Around round l.depth l.far l.tokens l.at k →
    run round (amid l.tokens l.at l.at (build []) k) (from l.tokens l.at) ≡ run round (amid l.tokens l.at l.place (build l.notes.items) k) (from l.tokens l.place))
    × (l.at ≤ l.place) × (l.place ≤ length l.tokens)

abbrev pub decreases-loop-notes : goal.decreases-loop-notes
decreases-loop-notes l = length l.tokens - l.place
