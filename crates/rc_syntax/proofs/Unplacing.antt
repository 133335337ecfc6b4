-- A tree without its places has none to lose.
use Rattle.std.proofs.Common.{◌≡◌, List, [], ◌∷◌, map, Option, Some, None, refl, ap}
use Rattle.rc_syntax.specs.declared.tree.Base.{Base}
use Rattle.rc_syntax.specs.declared.tree.Base.TheVariants as b
use Rattle.rc_syntax.specs.declared.tree.Constant.{Constant}
use Rattle.rc_syntax.specs.declared.tree.Constant.TheVariants as k
use Rattle.rc_syntax.specs.Tree as t
use Rattle.rc_syntax.specs.Shape.{mapped}
use Rattle.rc_syntax.specs.printing.Unplaced.{nowhere, unplaced_name, unplaced_base, unplaced_type, unplaced_expr, unplaced_exprs, unplaced_simple, unplaced_local, unplaced_start, unplaced_stmt, unplaced_stmts, unplaced_constant, unplaced_field, unplaced_param, unplaced_item}

mapped_twice : {A : Type 0} (f : A → A) → ((a : A) → f (f a) ≡ f a) → (o : Option A) → mapped f (mapped f o) ≡ mapped f o
mapped_twice f h None = refl
mapped_twice f h (Some a) = ap Some (h a)

map_twice : {A : Type 0} (f : A → A) → ((a : A) → f (f a) ≡ f a) → (xs : List A) → map f (map f xs) ≡ map f xs
map_twice f h [] = refl
map_twice f h (x ∷ xs) = λ j. h x j ∷ map_twice f h xs j

base_twice : (a : Base) → unplaced_base (unplaced_base a) ≡ unplaced_base a
base_twice (b.Int at) = refl
base_twice (b.Unsigned at) = refl
base_twice (b.Char at) = refl
base_twice (b.Region at) = refl
base_twice (b.Struct at x) = refl

type_twice : (a : t.TypeName) → unplaced_type (unplaced_type a) ≡ unplaced_type a
type_twice a = λ j. record { base = base_twice a.base j; stars = a.stars }

mutual
  expr_twice : (a : t.Expr) → unplaced_expr (unplaced_expr a) ≡ unplaced_expr a
  expr_twice (t.number at i unsigned) = refl
  expr_twice (t.character at i) = refl
  expr_twice (t.string at bytes) = refl
  expr_twice (t.null at) = refl
  expr_twice (t.eof at) = refl
  expr_twice (t.variable x) = refl
  expr_twice (t.call x arguments) = λ j. t.call (unplaced_name x) (exprs_twice arguments j)
  expr_twice (t.ralloc at r n) = λ j. t.ralloc nowhere (expr_twice r j) (type_twice n j)
  expr_twice (t.rarrayalloc at r i n) = λ j. t.rarrayalloc nowhere (expr_twice r j) (expr_twice i j) (type_twice n j)
  expr_twice (t.index at a i) = λ j. t.index nowhere (expr_twice a j) (expr_twice i j)
  expr_twice (t.member at a x) = λ j. t.member nowhere (expr_twice a j) (unplaced_name x)
  expr_twice (t.arrow at a x) = λ j. t.arrow nowhere (expr_twice a j) (unplaced_name x)
  expr_twice (t.unary at op a) = λ j. t.unary nowhere op (expr_twice a j)
  expr_twice (t.cast at to a) = λ j. t.cast nowhere to (expr_twice a j)
  expr_twice (t.binary at op a c) = λ j. t.binary nowhere op (expr_twice a j) (expr_twice c j)
  expr_twice (t.conditional at c a e) = λ j. t.conditional nowhere (expr_twice c j) (expr_twice a j) (expr_twice e j)

  exprs_twice : (v : t.Exprs) → unplaced_exprs (unplaced_exprs v) ≡ unplaced_exprs v
  exprs_twice t.none = refl
  exprs_twice (t.more a rest) = λ j. t.more (expr_twice a j) (exprs_twice rest j)

simple_twice : (a : t.Simple) → unplaced_simple (unplaced_simple a) ≡ unplaced_simple a
simple_twice (t.expression a) = λ j. t.expression (expr_twice a j)
simple_twice (t.assign at l r) = λ j. t.assign nowhere (expr_twice l j) (expr_twice r j)
simple_twice (t.update at op l r) = λ j. t.update nowhere op (expr_twice l j) (expr_twice r j)
simple_twice (t.step_after at op l) = λ j. t.step_after nowhere op (expr_twice l j)
simple_twice (t.step_before at op l) = λ j. t.step_before nowhere op (expr_twice l j)

local_twice : (a : t.Local) → unplaced_local (unplaced_local a) ≡ unplaced_local a
local_twice a = λ j. record { spot = nowhere; type_name = type_twice a.type_name j; name = unplaced_name a.name; initial = mapped_twice unplaced_expr expr_twice a.initial j }

start_twice : (a : t.ForStart) → unplaced_start (unplaced_start a) ≡ unplaced_start a
start_twice t.nothing = refl
start_twice (t.simply a) = λ j. t.simply (simple_twice a j)
start_twice (t.locals ls) = λ j. t.locals (map_twice unplaced_local local_twice ls j)

mutual
  stmt_twice : (a : t.Stmt) → unplaced_stmt (unplaced_stmt a) ≡ unplaced_stmt a
  stmt_twice (t.local l) = λ j. t.local (local_twice l j)
  stmt_twice (t.block at body) = λ j. t.block nowhere (stmts_twice body j)
  stmt_twice (t.empty at) = refl
  stmt_twice (t.simple at a) = λ j. t.simple nowhere (simple_twice a j)
  stmt_twice (t.if_then at c a) = λ j. t.if_then nowhere (expr_twice c j) (stmt_twice a j)
  stmt_twice (t.if_else at c a e) = λ j. t.if_else nowhere (expr_twice c j) (stmt_twice a j) (stmt_twice e j)
  stmt_twice (t.while_do at c a) = λ j. t.while_do nowhere (expr_twice c j) (stmt_twice a j)
  stmt_twice (t.do_while at a c) = λ j. t.do_while nowhere (stmt_twice a j) (expr_twice c j)
  stmt_twice (t.for_do at start c last a) = λ j. t.for_do nowhere (start_twice start j) (mapped_twice unplaced_expr expr_twice c j) (mapped_twice unplaced_simple simple_twice last j) (stmt_twice a j)
  stmt_twice (t.break_loop at) = refl
  stmt_twice (t.continue_loop at) = refl
  stmt_twice (t.return_with at a) = λ j. t.return_with nowhere (mapped_twice unplaced_expr expr_twice a j)

  stmts_twice : (a : t.Stmts) → unplaced_stmts (unplaced_stmts a) ≡ unplaced_stmts a
  stmts_twice t.done = refl
  stmts_twice (t.next a rest) = λ j. t.next (stmt_twice a j) (stmts_twice rest j)

constant_twice : (a : Constant) → unplaced_constant (unplaced_constant a) ≡ unplaced_constant a
constant_twice (k.Number at i unsigned) = refl
constant_twice (k.Negative at i unsigned) = refl
constant_twice (k.Character at i) = refl
constant_twice (k.Null at) = refl
constant_twice (k.Eof at) = refl

field_twice : (a : t.Field) → unplaced_field (unplaced_field a) ≡ unplaced_field a
field_twice a = λ j. record { spot = nowhere; type_name = type_twice a.type_name j; name = unplaced_name a.name; length = a.length }

param_twice : (a : t.Param) → unplaced_param (unplaced_param a) ≡ unplaced_param a
param_twice a = λ j. record { spot = nowhere; type_name = type_twice a.type_name j; name = mapped_twice unplaced_name (λ x. refl) a.name j }

item_twice : (a : t.Item) → unplaced_item (unplaced_item a) ≡ unplaced_item a
item_twice (t.struct at x fs) = λ j. t.struct nowhere (unplaced_name x) (map_twice unplaced_field field_twice fs j)
item_twice (t.global at n x length initial) = λ j. t.global nowhere (type_twice n j) (unplaced_name x) length (mapped_twice unplaced_constant constant_twice initial j)
item_twice (t.function at deletes result x params body) =
    λ j. t.function nowhere deletes (mapped_twice unplaced_type type_twice result j) (unplaced_name x) (map_twice unplaced_param param_twice params j) (mapped_twice unplaced_stmts stmts_twice body j)

pub items_twice : (a : List t.Item) → map unplaced_item (map unplaced_item a) ≡ map unplaced_item a
items_twice a = map_twice unplaced_item item_twice a
