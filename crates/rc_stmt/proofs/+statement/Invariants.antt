use Rattle.std.proofs.Common.{◌+◌, ◌-◌, ◌*◌, length}
use Rattle.std.proofs.Common.{◌≡◌, ◌≤◌, ℕ}
use Rattle.rc_syntax.specs.Grammar.{Symbol, Block, Body}
use Rattle.rc_syntax.specs.reader.Todo.{build}
use Rattle.rc_syntax.specs.reader.Reading.{block_body}
use Rattle.rc_syntax.specs.Shape.{stmts_of}
use Rattle.rc_syntax.specs.reader.Steps.{Stack, run}
use Rattle.rc_words.specs.Words.{from}
use Rattle.rc_expr.specs.Goes.{amid, inside}
use Rattle.rc_stmt.specs.Along.{Outside, behind_body}
use Rattle.rc_stmt.proofs.+statement.Given as goal

abbrev pub decreases-statements::statement : goal.decreases-statements::statement
decreases-statements::statement l = 16 * (length l.tokens.now - l.at) + 7

abbrev pub decreases-statements::nested : goal.decreases-statements::nested
decreases-statements::nested l = 16 * (length l.tokens.now - l.at) + 6

abbrev pub decreases-statements::headed : goal.decreases-statements::headed
decreases-statements::headed l = 16 * (length l.tokens.now - l.at) + 5

abbrev pub decreases-blocks::block_statement : goal.decreases-blocks::block_statement
decreases-blocks::block_statement l = 16 * (length l.tokens.now - l.at) + 4

abbrev pub decreases-blocks::block : goal.decreases-blocks::block
decreases-blocks::block l = 16 * (length l.tokens.now - l.at) + 3

abbrev pub decreases-blocks::body : goal.decreases-blocks::body
decreases-blocks::body l = 16 * (length l.tokens.now - l.inside) + 10

abbrev pub decreases-blocks::next : goal.decreases-blocks::next
decreases-blocks::next l = 16 * (length l.tokens.now - l.place) + 9

abbrev pub decreases-blocks::next_statement : goal.decreases-blocks::next_statement
decreases-blocks::next_statement l = 16 * (length l.tokens.now - l.place) + 8

abbrev pub decreases-branches::if_statement : goal.decreases-branches::if_statement
decreases-branches::if_statement l = 16 * (length l.tokens.now - l.at) + 4

abbrev pub decreases-branches::if_done : goal.decreases-branches::if_done
decreases-branches::if_done l = 16 * (length l.tokens.now - l.place) + 4

abbrev pub decreases-loops::while_statement : goal.decreases-loops::while_statement
decreases-loops::while_statement l = 16 * (length l.tokens.now - l.at) + 4

abbrev pub decreases-loops::do_statement : goal.decreases-loops::do_statement
decreases-loops::do_statement l = 16 * (length l.tokens.now - l.at) + 4

abbrev pub decreases-loops::for_statement : goal.decreases-loops::for_statement
decreases-loops::for_statement l = 16 * (length l.tokens.now - l.at) + 4

abbrev pub decreases-loops::for_started : goal.decreases-loops::for_started
decreases-loops::for_started l = 16 * (length l.tokens.now - l.place) + 4

abbrev pub invariant-blocks::body-loop-alloc : goal.invariant-blocks::body-loop-alloc
invariant-blocks::body-loop-alloc l =
    ((root : Symbol) (round : ℕ) (k : Stack root Block) → Outside round l.depth k →
    run round (amid {s = Block} l.tokens l.at l.inside block_body k) (from l.tokens l.inside) ≡ run round (amid {s = Body} l.tokens l.inside l.place (build (stmts_of l.statements.items)) (inside {j = Body} l.tokens l.at l.inside behind_body k)) (from l.tokens l.place))
    × (l.inside ≤ l.place) × (l.place ≤ length l.tokens)

abbrev pub decreases-blocks::body-loop-alloc : goal.decreases-blocks::body-loop-alloc
decreases-blocks::body-loop-alloc l = length l.tokens - l.place
