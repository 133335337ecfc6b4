use Rattle.std.proofs.Common.{◌+◌, ◌-◌, ◌*◌, length}
use Rattle.std.proofs.Common.{◌≡◌, ◌≤◌, ◌<◌, ℕ}
use Rattle.rc_syntax.specs.Grammar.{Symbol, Level, Unary, Arguments}
use Rattle.rc_syntax.specs.reader.Todo.{build}
use Rattle.rc_syntax.specs.Shape.{exprs_of}
use Rattle.rc_syntax.specs.reader.Steps.{Stack, about, run}
use Rattle.rc_words.specs.Words.{from}
use Rattle.rc_expr.specs.Goes.{boxed_of, amid, Within}
use Rattle.rc_expr.proofs.+expr.Given as goal

abbrev pub decreases-calls::arguments : goal.decreases-calls::arguments
decreases-calls::arguments l = 16 * (length l.tokens.now - l.at) + 11

abbrev pub decreases-expressions::beside : goal.decreases-expressions::beside
decreases-expressions::beside l = 16 * (length l.tokens.now - l.place) + 3

abbrev pub decreases-expressions::binary : goal.decreases-expressions::binary
decreases-expressions::binary l = 16 * (length l.tokens.now - l.at) + 9

abbrev pub decreases-calls::call : goal.decreases-calls::call
decreases-calls::call l = 16 * (length l.tokens.now - l.place) + 12

abbrev pub decreases-operands::cast : goal.decreases-operands::cast
decreases-operands::cast l = 16 * (length l.tokens.now - l.at) + 4

abbrev pub decreases-expressions::choice : goal.decreases-expressions::choice
decreases-expressions::choice l = 16 * (length l.tokens.now - l.place) + 3

abbrev pub decreases-expressions::conditional : goal.decreases-expressions::conditional
decreases-expressions::conditional l = 16 * (length l.tokens.now - l.at) + 10

abbrev pub decreases-operands::core : goal.decreases-operands::core
decreases-operands::core l = 16 * (length l.tokens.now - l.at) + 7

abbrev pub decreases-operands::grouped : goal.decreases-operands::grouped
decreases-operands::grouped l = 16 * (length l.tokens.now - l.at) + 4

abbrev pub decreases-postfixes::index : goal.decreases-postfixes::index
decreases-postfixes::index l = 16 * (length l.tokens.now - l.place) + 3

abbrev pub decreases-calls::named : goal.decreases-calls::named
decreases-calls::named l = 16 * (length l.tokens.now - l.at) + 5

abbrev pub decreases-operands::operand : goal.decreases-operands::operand
decreases-operands::operand l = 16 * (length l.tokens.now - l.at) + 8

abbrev pub decreases-operands::parenthesis : goal.decreases-operands::parenthesis
decreases-operands::parenthesis l = 16 * (length l.tokens.now - l.at) + 5

abbrev pub decreases-postfixes::postfixes : goal.decreases-postfixes::postfixes
decreases-postfixes::postfixes l = 16 * (length l.tokens.now - l.after) + 4

abbrev pub decreases-operands::prefixed : goal.decreases-operands::prefixed
decreases-operands::prefixed l = 16 * (length l.tokens.now - l.at) + 4

abbrev pub decreases-calls::ralloc : goal.decreases-calls::ralloc
decreases-calls::ralloc l = 16 * (length l.tokens.now - l.at) + 5

abbrev pub decreases-calls::rarrayalloc : goal.decreases-calls::rarrayalloc
decreases-calls::rarrayalloc l = 16 * (length l.tokens.now - l.at) + 5

abbrev pub invariant-expressions::binary-loop-op : goal.invariant-expressions::binary-loop-op
invariant-expressions::binary-loop-op l =
    ((root : Symbol) (round : ℕ) (k : Stack root (Level l.level)) → Within round l.depth l.far l.tokens l.at k →
    run round (about k) (from l.tokens l.at) ≡ run round (amid l.tokens l.at l.place (build (boxed_of l.left)) k) (from l.tokens l.place))
    × (l.at < l.place) × (l.place ≤ length l.tokens)

abbrev pub decreases-expressions::binary-loop-op : goal.decreases-expressions::binary-loop-op
decreases-expressions::binary-loop-op l = length l.tokens - l.place

abbrev pub invariant-calls::arguments-loop-alloc : goal.invariant-calls::arguments-loop-alloc
invariant-calls::arguments-loop-alloc l =
    ((root : Symbol) (round : ℕ) (k : Stack root Arguments) → Within round l.depth l.far l.tokens l.at k →
    run round (about k) (from l.tokens l.at) ≡ run round (amid l.tokens l.at l.place (build (exprs_of l.values.items)) k) (from l.tokens l.place))
    × (l.at < l.place) × (l.place ≤ length l.tokens)

abbrev pub decreases-calls::arguments-loop-alloc : goal.decreases-calls::arguments-loop-alloc
decreases-calls::arguments-loop-alloc l = length l.tokens - l.place

abbrev pub invariant-postfixes::postfixes-loop-value : goal.invariant-postfixes::postfixes-loop-value
invariant-postfixes::postfixes-loop-value l =
    ((root : Symbol) (round : ℕ) (k : Stack root Unary) → Within round l.depth l.far l.tokens l.at k →
    run round (amid l.tokens l.at l.after (build (boxed_of l.fn.first)) k) (from l.tokens l.after) ≡ run round (amid l.tokens l.at l.place (build (boxed_of l.value)) k) (from l.tokens l.place))
    × (l.after ≤ l.place) × (l.place ≤ length l.tokens)

abbrev pub decreases-postfixes::postfixes-loop-value : goal.decreases-postfixes::postfixes-loop-value
decreases-postfixes::postfixes-loop-value l = length l.tokens - l.place

abbrev pub decreases-operands::keyed : goal.decreases-operands::keyed
decreases-operands::keyed l = 16 * (length l.tokens.now - l.at) + 6

abbrev pub decreases-operands::marked : goal.decreases-operands::marked
decreases-operands::marked l = 16 * (length l.tokens.now - l.at) + 6
