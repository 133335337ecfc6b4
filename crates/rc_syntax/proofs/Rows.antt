-- The shape of a row is that of its list.
use Rattle.std.proofs.Common.{◌≡◌, refl, ap, ◌∙◌}
use Rattle.std.specs.declared.vec.Vec.{Vec}
use Rattle.std.specs.declared.alloc.Global.{Global}
use Rattle.rc_syntax.specs.declared.tree.Spot.{Spot}
use Rattle.rc_syntax.specs.declared.tree.Name.{Name}
use Rattle.rc_syntax.specs.declared.tree.Expr.{Expr, Call, items_hidden-the_row-Expr-0, Row_of-Expr, end_of-Expr, more_of-Expr, items-the_row-Expr}
use Rattle.rc_syntax.specs.declared.tree.Stmt.{Stmt, Block, items_hidden-the_row-Stmt-0, Row_of-Stmt, end_of-Stmt, more_of-Stmt, items-the_row-Stmt}
use Rattle.rc_syntax.specs.declared.tree.Expr.TheBlock.{hidden-the_row-Expr-0}
use Rattle.rc_syntax.specs.declared.tree.Stmt.TheBlock.{hidden-the_row-Stmt-0}
use Rattle.rc_syntax.specs.Tree as t
use Rattle.rc_syntax.specs.Shape.{expr_of, row_of, exprs_of, stmt_of, body_of, stmts_of}

pub row_of-list : {m : _} (r : Row_of-Expr m) → row_of r ≡ exprs_of (items-the_row-Expr m r)
row_of-list end_of-Expr = refl
row_of-list (more_of-Expr e rest) = ap (t.more (expr_of e)) (row_of-list rest)

pub body_of-list : {m : _} (r : Row_of-Stmt m) → body_of r ≡ stmts_of (items-the_row-Stmt m r)
body_of-list end_of-Stmt = refl
body_of-list (more_of-Stmt e rest) = ap (t.next (stmt_of e)) (body_of-list rest)

pub call_is : (e : Expr) (n : Name) (v : Vec Expr Global) → e ≡ Call n v → expr_of e ≡ t.call n (exprs_of v.items)
call_is e n v h = ap expr_of h ∙ ap (t.call n) (row_of-list (hidden-the_row-Expr-0 v) ∙ ap exprs_of (items_hidden-the_row-Expr-0 v))

pub block_is : (s : Stmt) (at : Spot) (v : Vec Stmt Global) → s ≡ Block at v → stmt_of s ≡ t.block at (stmts_of v.items)
block_is s at v h = ap stmt_of h ∙ ap (t.block at) (body_of-list (hidden-the_row-Stmt-0 v) ∙ ap stmts_of (items_hidden-the_row-Stmt-0 v))
