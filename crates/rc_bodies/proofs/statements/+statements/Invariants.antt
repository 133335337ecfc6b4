use Rattle.std.proofs.Common.{◌≡◌, ◌+◌, ◌*◌, drop, map}
use Rattle.std.specs.Prelude.{max}
use Rattle.rc_syntax.specs.declared.tree.Stmt.{size-Stmt}
use Rattle.rc_syntax.specs.Shape.{stmts_of}
use Rattle.rc_core.specs.Shapes.{stmt_of}
use Rattle.rc_deletes.specs.Statements.{stmts, behind_stmts}
use Rattle.rc_bodies.specs.Enclosing.{context_at, gives_at}
use Rattle.rc_bodies.specs.Here.{here_of}
use Rattle.rc_bodies.proofs.Walks.{after_steps}
use Rattle.rc_bodies.proofs.statements.+statements.Given as goal

-- a node is above its parts, and the walk over a part above the part

abbrev pub decreases-stmt : goal.decreases-stmt
decreases-stmt l = 4 * goal.size-stmt l

abbrev pub decreases-stmts : goal.decreases-stmts
decreases-stmts l = 4 * goal.size-stmts l + 2

abbrev pub decreases-type_block : goal.decreases-type_block
decreases-type_block l = 4 * goal.size-type_block l + 3

abbrev pub decreases-type_if : goal.decreases-type_if
decreases-type_if l = 4 * size-Stmt l.a.now + 2

abbrev pub decreases-type_while : goal.decreases-type_while
decreases-type_while l = 4 * size-Stmt l.a.now + 2

abbrev pub decreases-type_do : goal.decreases-type_do
decreases-type_do l = 4 * size-Stmt l.a.now + 2

abbrev pub decreases-type_for : goal.decreases-type_for
decreases-type_for l = 4 * size-Stmt l.a.now + 2

abbrev pub decreases-type_if_else : goal.decreases-type_if_else
decreases-type_if_else l = 4 * max (size-Stmt l.a.now) (size-Stmt l.b.now) + 2

abbrev pub invariant-stmts-loop-s : goal.invariant-stmts-loop-s
invariant-stmts-loop-s l = record {
  same : stmts (context_at l.enclosing) (gives_at l.enclosing) l.enclosing.looping (here_of l.initial.here) (stmts_of l.body) ≡ after_steps (map stmt_of l.steps.items) (stmts (context_at l.enclosing) (gives_at l.enclosing) l.enclosing.looping (here_of l.here) (stmts_of (drop l.s-index l.body)));
  moved : behind_stmts (context_at l.enclosing) (here_of l.initial.here) (stmts_of l.body) ≡ behind_stmts (context_at l.enclosing) (here_of l.here) (stmts_of (drop l.s-index l.body));
}
