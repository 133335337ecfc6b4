-- What a node with a list of children stands for: the shape of its row is that of its list.
use Rattle.std.proofs.Common.{◌≡◌, ◌<◌, ℕ, zero, suc, refl, sym, ap, ◌∙◌, List, [], ◌∷◌, map, length, get_or, slice_get, Some, arith}
use Rattle.std.specs.declared.boxed.Box.{Box}
use Rattle.std.specs.declared.vec.Vec.{Vec}
use Rattle.std.specs.declared.alloc.Global.{Global as Alloc}
use Rattle.rc_core.specs.declared.expr.Expr.{Expr as CodeExpr, Call, Row_of-Expr, end_of-Expr, more_of-Expr, items-the_row-Expr, items_hidden-the_row-Expr-0}
use Rattle.rc_core.specs.declared.expr.Place.{Place as CodePlace, Global, Pointed, Indexed, Row_of-PathStep, end_of-PathStep, more_of-PathStep, items-the_row-PathStep, items_hidden-the_row-PathStep-1}
use Rattle.rc_core.specs.declared.expr.PathStep.{PathStep as CodeStep}
use Rattle.rc_core.specs.declared.expr.Expr.TheBlock.{hidden-the_row-Expr-0, hidden-the_row-PathStep-1}
use Rattle.rc_core.specs.declared.stmt.Stmt.{Stmt as CodeStmt, Block, Row_of-Stmt, end_of-Stmt, more_of-Stmt, items-the_row-Stmt, items_hidden-the_row-Stmt-0}
use Rattle.rc_core.specs.declared.stmt.Stmt.TheBlock.{hidden-the_row-Stmt-0}
use Rattle.rc_core.specs.Programs.{call, more, global, pointed, indexed, block, then}
use Rattle.rc_core.specs.Shapes.{expr_of, place_of, stmt_of, inward, row_arguments, row_path, row_stmts, arguments_of, path_of, stmts_of}

pub row_arguments-list : {m : _} (r : Row_of-Expr m) → row_arguments r ≡ arguments_of (items-the_row-Expr m r)
row_arguments-list end_of-Expr = refl
row_arguments-list (more_of-Expr e rest) = ap (more (expr_of e)) (row_arguments-list rest)

pub row_path-list : {m : _} (r : Row_of-PathStep m) → row_path r ≡ path_of (items-the_row-PathStep m r)
row_path-list end_of-PathStep = refl
row_path-list (more_of-PathStep s rest) = ap (inward s) (row_path-list rest)

pub row_stmts-list : {m : _} (r : Row_of-Stmt m) → row_stmts r ≡ stmts_of (items-the_row-Stmt m r)
row_stmts-list end_of-Stmt = refl
row_stmts-list (more_of-Stmt s rest) = ap (then (stmt_of s)) (row_stmts-list rest)

hidden_arguments : (v : Vec CodeExpr Alloc) → row_arguments (hidden-the_row-Expr-0 v) ≡ arguments_of v.items
hidden_arguments v = row_arguments-list (hidden-the_row-Expr-0 v) ∙ ap arguments_of (items_hidden-the_row-Expr-0 v)

hidden_path : (v : Vec CodeStep Alloc) → row_path (hidden-the_row-PathStep-1 v) ≡ path_of v.items
hidden_path v = row_path-list (hidden-the_row-PathStep-1 v) ∙ ap path_of (items_hidden-the_row-PathStep-1 v)

hidden_stmts : (v : Vec CodeStmt Alloc) → row_stmts (hidden-the_row-Stmt-0 v) ≡ stmts_of v.items
hidden_stmts v = row_stmts-list (hidden-the_row-Stmt-0 v) ∙ ap stmts_of (items_hidden-the_row-Stmt-0 v)

-- of a node that is made

pub made_call : (line f : ℕ) (v : Vec CodeExpr Alloc) → expr_of (Call line f v) ≡ call line f (arguments_of v.items)
made_call line f v = ap (call line f) (hidden_arguments v)

pub made_global : (g : ℕ) (v : Vec CodeStep Alloc) → place_of (Global g v) ≡ global g (path_of v.items)
made_global g v = ap (global g) (hidden_path v)

pub made_pointed : (b : Box CodeExpr Alloc) (v : Vec CodeStep Alloc) → place_of (Pointed b v) ≡ pointed (expr_of b.value) (path_of v.items)
made_pointed b v = ap (pointed (expr_of b.value)) (hidden_path v)

pub made_indexed : (b i : Box CodeExpr Alloc) (v : Vec CodeStep Alloc) → place_of (Indexed b i v) ≡ indexed (expr_of b.value) (expr_of i.value) (path_of v.items)
made_indexed b i v = ap (indexed (expr_of b.value) (expr_of i.value)) (hidden_path v)

pub made_block : (v : Vec CodeStmt Alloc) → stmt_of (Block v) ≡ block (stmts_of v.items)
made_block v = ap block (hidden_stmts v)

-- of a node that is looked at

pub call_is : (e : CodeExpr) (line f : ℕ) (v : Vec CodeExpr Alloc) → e ≡ Call line f v → expr_of e ≡ call line f (arguments_of v.items)
call_is e line f v h = ap expr_of h ∙ made_call line f v

pub global_is : (p : CodePlace) (g : ℕ) (v : Vec CodeStep Alloc) → p ≡ Global g v → place_of p ≡ global g (path_of v.items)
global_is p g v h = ap place_of h ∙ made_global g v

pub pointed_is : (p : CodePlace) (b : Box CodeExpr Alloc) (v : Vec CodeStep Alloc) → p ≡ Pointed b v → place_of p ≡ pointed (expr_of b.value) (path_of v.items)
pointed_is p b v h = ap place_of h ∙ made_pointed b v

pub indexed_is : (p : CodePlace) (b i : Box CodeExpr Alloc) (v : Vec CodeStep Alloc) → p ≡ Indexed b i v → place_of p ≡ indexed (expr_of b.value) (expr_of i.value) (path_of v.items)
indexed_is p b i v h = ap place_of h ∙ made_indexed b i v

pub block_is : (s : CodeStmt) (v : Vec CodeStmt Alloc) → s ≡ Block v → stmt_of s ≡ block (stmts_of v.items)
block_is s v h = ap stmt_of h ∙ made_block v

-- what a list of shapes has at a place, where the code reads x there
pub shape_at : {A B : Type 0} (shape : A → B) (xs : List A) (i : ℕ) (x : A) → i < length xs → x ≡ get_or xs i x → slice_get (map shape xs) i ≡ Some (shape x)
shape_at shape [] i x h q = absurd (omega arith)
shape_at shape (y ∷ xs) zero x h q = ap (λ z. Some (shape z)) (sym q)
shape_at shape (y ∷ xs) (suc i) x h q = shape_at shape xs i x (omega arith) q
