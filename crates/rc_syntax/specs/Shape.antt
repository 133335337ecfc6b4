-- What the trees of the code are, without where they lie in memory: one function a type, and one for a row of children.
use Rattle.std.specs.Prelude.{List, [], ◌∷◌, Option, Some, None, map}
use Rattle.rc_syntax.specs.declared.tree.TypeName as declared_type
use Rattle.rc_syntax.specs.declared.tree.Expr as declared_expr
use Rattle.rc_syntax.specs.declared.tree.Expr.{Number, Character, Str, Null, Eof, Variable, Call', Ralloc', RarrayAlloc', Index', Member', Arrow', Unary', Cast', Binary', Conditional', Row_of-Expr, end_of-Expr, more_of-Expr}
use Rattle.rc_syntax.specs.declared.tree.Simple as declared_simple
use Rattle.rc_syntax.specs.declared.tree.Simple.TheVariants as s
use Rattle.rc_syntax.specs.declared.tree.Local as declared_local
use Rattle.rc_syntax.specs.declared.tree.ForStart as declared_start
use Rattle.rc_syntax.specs.declared.tree.ForStart.TheVariants as f
use Rattle.rc_syntax.specs.declared.tree.Stmt as declared_stmt
use Rattle.rc_syntax.specs.declared.tree.Stmt.{Local, Block', Empty, Simple, If', While', Do', For', Break, Continue, Return, Row_of-Stmt, end_of-Stmt, more_of-Stmt, Held-Stmt-If-3, None', Some'}
use Rattle.rc_syntax.specs.declared.tree.Field as declared_field
use Rattle.rc_syntax.specs.declared.tree.Param as declared_param
use Rattle.rc_syntax.specs.declared.tree.Item as declared_item
use Rattle.rc_syntax.specs.declared.tree.Item.TheVariants as i
use Rattle.rc_syntax.specs.declared.tree.Tree as declared_tree
use Rattle.rc_syntax.specs.Tree as t

abbrev pub mapped : {A B : Type 0} → (A → B) → Option A → Option B
mapped f None = None
mapped f (Some a) = Some (f a)

abbrev pub type_of : declared_type.TypeName → t.TypeName
type_of n = record { base = n.base; stars = n.stars.items }

abbrev mutual
  pub expr_of : declared_expr.Expr → t.Expr
  expr_of (Number at n u) = t.number at n u
  expr_of (Character at c) = t.character at c
  expr_of (Str at s) = t.string at s
  expr_of (Null at) = t.null at
  expr_of (Eof at) = t.eof at
  expr_of (Variable n) = t.variable n
  expr_of (Call' n shape args) = t.call n (row_of args)
  expr_of (Ralloc' at p r n) = t.ralloc at (expr_of r) (type_of n)
  expr_of (RarrayAlloc' at p r q k n) = t.rarrayalloc at (expr_of r) (expr_of k) (type_of n)
  expr_of (Index' at p a q k) = t.index at (expr_of a) (expr_of k)
  expr_of (Member' at p a n) = t.member at (expr_of a) n
  expr_of (Arrow' at p a n) = t.arrow at (expr_of a) n
  expr_of (Unary' at op p a) = t.unary at op (expr_of a)
  expr_of (Cast' at to p a) = t.cast at to (expr_of a)
  expr_of (Binary' at op p a q b) = t.binary at op (expr_of a) (expr_of b)
  expr_of (Conditional' at p c q a r b) = t.conditional at (expr_of c) (expr_of a) (expr_of b)

  pub row_of : {m : _} → Row_of-Expr m → t.Exprs
  row_of end_of-Expr = t.none
  row_of (more_of-Expr e rest) = t.more (expr_of e) (row_of rest)

abbrev pub exprs_of : List declared_expr.Expr → t.Exprs
exprs_of [] = t.none
exprs_of (e ∷ es) = t.more (expr_of e) (exprs_of es)

abbrev pub simple_of : declared_simple.Simple → t.Simple
simple_of (s.Expr e) = t.expression (expr_of e)
simple_of (s.Assign at l r) = t.assign at (expr_of l) (expr_of r)
simple_of (s.Update at op l r) = t.update at op (expr_of l) (expr_of r)
simple_of (s.StepAfter at op l) = t.step_after at op (expr_of l)
simple_of (s.StepBefore at op l) = t.step_before at op (expr_of l)

abbrev pub local_of : declared_local.Local → t.Local
local_of l = record { spot = l.spot; type_name = type_of l.type_name; name = l.name; initial = mapped expr_of l.initial }

abbrev pub start_of : declared_start.ForStart → t.ForStart
start_of f.Nothing = t.nothing
start_of (f.Simple e) = t.simply (simple_of e)
start_of (f.Locals ls) = t.locals (map local_of ls.items)

abbrev mutual
  pub stmt_of : declared_stmt.Stmt → t.Stmt
  stmt_of (Local l) = t.local (local_of l)
  stmt_of (Block' at shape body) = t.block at (body_of body)
  stmt_of (Empty at) = t.empty at
  stmt_of (Simple at e) = t.simple at (simple_of e)
  stmt_of (If' at c p a None') = t.if_then at (expr_of c) (stmt_of a)
  stmt_of (If' at c p a (Some' q b)) = t.if_else at (expr_of c) (stmt_of a) (stmt_of b)
  stmt_of (While' at c p a) = t.while_do at (expr_of c) (stmt_of a)
  stmt_of (Do' at p a c) = t.do_while at (stmt_of a) (expr_of c)
  stmt_of (For' at start c next p a) = t.for_do at (start_of start) (mapped expr_of c) (mapped simple_of next) (stmt_of a)
  stmt_of (Break at) = t.break_loop at
  stmt_of (Continue at) = t.continue_loop at
  stmt_of (Return at e) = t.return_with at (mapped expr_of e)

  pub body_of : {m : _} → Row_of-Stmt m → t.Stmts
  body_of end_of-Stmt = t.done
  body_of (more_of-Stmt s rest) = t.next (stmt_of s) (body_of rest)

abbrev pub stmts_of : List declared_stmt.Stmt → t.Stmts
stmts_of [] = t.done
stmts_of (s ∷ ss) = t.next (stmt_of s) (stmts_of ss)

abbrev pub field_of : declared_field.Field → t.Field
field_of f = record { spot = f.spot; type_name = type_of f.type_name; name = f.name; length = f.length }

abbrev pub param_of : declared_param.Param → t.Param
param_of p = record { spot = p.spot; type_name = type_of p.type_name; name = p.name }

abbrev pub item_of : declared_item.Item → t.Item
item_of (i.Struct at n fs) = t.struct at n (map field_of fs.items)
item_of (i.Global at ty n length c) = t.global at (type_of ty) n length c
item_of (i.Function at deletes result n params body) =
    t.function at deletes (mapped type_of result) n (map param_of params.items) (mapped (λ b. stmts_of b.items) body)

abbrev pub tree_of : declared_tree.Tree → t.Tree
tree_of r = record { items = map item_of r.items.items }
