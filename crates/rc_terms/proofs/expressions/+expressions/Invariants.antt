use Rattle.std.proofs.Common.{◌≡◌, ◌+◌, ◌*◌, ◌++◌, drop, map}
use Rattle.std.specs.Prelude.{max}
use Rattle.rc_syntax.specs.declared.tree.Expr.{size-Expr}
use Rattle.rc_syntax.specs.Shape.{exprs_of}
use Rattle.rc_core.specs.Shapes.{bytes_of}
use Rattle.rc_deletes.specs.Expressions.{values, strings_in_all}
use Rattle.rc_typed_values.specs.Shapes.{typed_of}
use Rattle.rc_defined.specs.Contexts.{context_in, scope_in}
use Rattle.rc_defined.proofs.Walks.{after}
use Rattle.rc_terms.proofs.expressions.+expressions.Given as goal

-- a node is above its parts, and the walk over a part above the part

abbrev pub decreases-value : goal.decreases-value
decreases-value l = 4 * goal.size-value l + 1

abbrev pub decreases-meant : goal.decreases-meant
decreases-meant l = 4 * goal.size-meant l

abbrev pub decreases-arguments : goal.decreases-arguments
decreases-arguments l = 4 * goal.size-arguments l + 2

abbrev pub decreases-type_call : goal.decreases-type_call
decreases-type_call l = 4 * goal.size-type_call l + 3

abbrev pub decreases-type_ralloc : goal.decreases-type_ralloc
decreases-type_ralloc l = 4 * goal.size-type_ralloc l + 2

abbrev pub decreases-type_member : goal.decreases-type_member
decreases-type_member l = 4 * goal.size-type_member l + 2

abbrev pub decreases-type_arrow : goal.decreases-type_arrow
decreases-type_arrow l = 4 * goal.size-type_arrow l + 2

abbrev pub decreases-type_unary : goal.decreases-type_unary
decreases-type_unary l = 4 * goal.size-type_unary l + 2

abbrev pub decreases-type_cast : goal.decreases-type_cast
decreases-type_cast l = 4 * goal.size-type_cast l + 2

abbrev pub decreases-type_rarrayalloc : goal.decreases-type_rarrayalloc
decreases-type_rarrayalloc l = 4 * max (size-Expr l.r.now) (size-Expr l.k.now) + 2

abbrev pub decreases-type_index : goal.decreases-type_index
decreases-type_index l = 4 * max (size-Expr l.a.now) (size-Expr l.k.now) + 2

abbrev pub decreases-type_binary : goal.decreases-type_binary
decreases-type_binary l = 4 * max (size-Expr l.a.now) (size-Expr l.b.now) + 2

abbrev pub decreases-type_conditional : goal.decreases-type_conditional
decreases-type_conditional l = 4 * max (size-Expr l.c.now) (max (size-Expr l.a.now) (size-Expr l.b.now)) + 2

abbrev pub invariant-arguments-loop-e : goal.invariant-arguments-loop-e
invariant-arguments-loop-e l = record {
  same : values (context_in l.environment) (scope_in l.environment) (map bytes_of l.initial.strings.items) (exprs_of l.es) ≡ after (map typed_of l.given.items) (values (context_in l.environment) (scope_in l.environment) (map bytes_of l.strings.items) (exprs_of (drop l.e-index l.es)));
  grown : map bytes_of l.initial.strings.items ++ strings_in_all (exprs_of l.es) ≡ map bytes_of l.strings.items ++ strings_in_all (exprs_of (drop l.e-index l.es));
}
