use Rattle.std.proofs.Common.{◌≡◌, ◌+◌, ◌*◌, drop}
use Rattle.std.specs.Prelude.{max}
use Rattle.rc_syntax.specs.declared.tree.Expr.{size-Expr}
use Rattle.rc_syntax.specs.Shape.{exprs_of}
use Rattle.rc_linking.specs.Moved.{moved_all}
use Rattle.rc_expression_copies.proofs.Copied.{exprs_before}
use Rattle.rc_expression_copies.proofs.expressions.+expressions.Given as goal

-- a node is above its parts, and the walk over a part above the part

abbrev pub decreases-expression : goal.decreases-expression
decreases-expression l = 4 * goal.size-expression l

abbrev pub decreases-expressions : goal.decreases-expressions
decreases-expressions l = 4 * goal.size-expressions l + 2

abbrev pub decreases-copy_call : goal.decreases-copy_call
decreases-copy_call l = 4 * goal.size-copy_call l + 3

abbrev pub decreases-copy_ralloc : goal.decreases-copy_ralloc
decreases-copy_ralloc l = 4 * goal.size-copy_ralloc l + 2

abbrev pub decreases-copy_member : goal.decreases-copy_member
decreases-copy_member l = 4 * goal.size-copy_member l + 2

abbrev pub decreases-copy_arrow : goal.decreases-copy_arrow
decreases-copy_arrow l = 4 * goal.size-copy_arrow l + 2

abbrev pub decreases-copy_unary : goal.decreases-copy_unary
decreases-copy_unary l = 4 * goal.size-copy_unary l + 2

abbrev pub decreases-copy_cast : goal.decreases-copy_cast
decreases-copy_cast l = 4 * goal.size-copy_cast l + 2

abbrev pub decreases-copy_rarrayalloc : goal.decreases-copy_rarrayalloc
decreases-copy_rarrayalloc l = 4 * max (size-Expr l.region.now) (size-Expr l.k.now) + 2

abbrev pub decreases-copy_index : goal.decreases-copy_index
decreases-copy_index l = 4 * max (size-Expr l.a.now) (size-Expr l.k.now) + 2

abbrev pub decreases-copy_binary : goal.decreases-copy_binary
decreases-copy_binary l = 4 * max (size-Expr l.a.now) (size-Expr l.b.now) + 2

abbrev pub decreases-copy_conditional : goal.decreases-copy_conditional
decreases-copy_conditional l = 4 * max (size-Expr l.c.now) (max (size-Expr l.a.now) (size-Expr l.b.now)) + 2

abbrev pub invariant-expressions-loop-e : goal.invariant-expressions-loop-e
invariant-expressions-loop-e l = record { same : moved_all l.by (exprs_of l.es) ≡ exprs_before l.copies.items (moved_all l.by (exprs_of (drop l.e-index l.es))) }
