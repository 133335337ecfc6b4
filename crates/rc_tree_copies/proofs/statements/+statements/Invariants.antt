use Rattle.std.proofs.Common.{◌≡◌, ◌+◌, ◌*◌, drop}
use Rattle.std.specs.Prelude.{max}
use Rattle.rc_syntax.specs.declared.tree.Stmt.{size-Stmt}
use Rattle.rc_syntax.specs.Shape.{stmts_of}
use Rattle.rc_linking.specs.Moved.{moved_stmts}
use Rattle.rc_tree_copies.proofs.Copied.{stmts_before}
use Rattle.rc_tree_copies.proofs.statements.+statements.Given as goal

-- a node is above its parts, and the walk over a part above the part

abbrev pub decreases-statement : goal.decreases-statement
decreases-statement l = 4 * goal.size-statement l

abbrev pub decreases-statements : goal.decreases-statements
decreases-statements l = 4 * goal.size-statements l + 2

abbrev pub decreases-copy_block : goal.decreases-copy_block
decreases-copy_block l = 4 * goal.size-copy_block l + 3

abbrev pub decreases-copy_if : goal.decreases-copy_if
decreases-copy_if l = 4 * size-Stmt l.a.now + 2

abbrev pub decreases-copy_while : goal.decreases-copy_while
decreases-copy_while l = 4 * size-Stmt l.a.now + 2

abbrev pub decreases-copy_do : goal.decreases-copy_do
decreases-copy_do l = 4 * size-Stmt l.a.now + 2

abbrev pub decreases-copy_for : goal.decreases-copy_for
decreases-copy_for l = 4 * size-Stmt l.a.now + 2

abbrev pub decreases-copy_if_else : goal.decreases-copy_if_else
decreases-copy_if_else l = 4 * max (size-Stmt l.a.now) (size-Stmt l.b.now) + 2

abbrev pub invariant-statements-loop-s : goal.invariant-statements-loop-s
invariant-statements-loop-s l = record { same : moved_stmts l.by (stmts_of l.body) ≡ stmts_before l.copies.items (moved_stmts l.by (stmts_of (drop l.s-index l.body))) }
