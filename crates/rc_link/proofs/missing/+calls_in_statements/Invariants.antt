use Rattle.std.proofs.Common.{◌≡◌, ◌+◌, ◌*◌, drop}
use Rattle.std.specs.Prelude.{max}
use Rattle.rc_syntax.specs.declared.tree.Stmt.{size-Stmt}
use Rattle.rc_syntax.specs.Shape.{stmts_of}
use Rattle.rc_deletes.specs.First.{clear}
use Rattle.rc_linking.specs.Calls.{calls_in_stmts}
use Rattle.rc_link.specs.Missed.{missed}
use Rattle.rc_link.proofs.missing.+calls_in_statements.Given as goal

-- a node is above its parts, and the walk over a part above the part

abbrev pub decreases-statement : goal.decreases-statement
decreases-statement l = 4 * goal.size-statement l

abbrev pub decreases-statements : goal.decreases-statements
decreases-statements l = 4 * goal.size-statements l + 2

abbrev pub decreases-if_then : goal.decreases-if_then
decreases-if_then l = 4 * size-Stmt l.a.now + 2

abbrev pub decreases-if_else : goal.decreases-if_else
decreases-if_else l = 4 * max (size-Stmt l.a.now) (size-Stmt l.b.now) + 2

abbrev pub invariant-statements-loop-s : goal.invariant-statements-loop-s
invariant-statements-loop-s l = clear (missed l.functions (calls_in_stmts (stmts_of l.body))) ≡ clear (missed l.functions (calls_in_stmts (stmts_of (drop l.s-index l.body))))
