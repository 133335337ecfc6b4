-- Trees without their places: each spot is the same. Two trees that come to one here differ in nothing but their spots.
use Rattle.std.specs.Prelude.{◌≡◌, List, map}
use Rattle.rc_syntax.specs.declared.tree.Spot.{Spot}
use Rattle.rc_syntax.specs.declared.tree.Name.{Name}
use Rattle.rc_syntax.specs.declared.tree.Base.{Base}
use Rattle.rc_syntax.specs.declared.tree.Base.TheVariants as b
use Rattle.rc_syntax.specs.declared.tree.Constant.{Constant}
use Rattle.rc_syntax.specs.declared.tree.Constant.TheVariants as k
use Rattle.rc_syntax.specs.Tokens.{Word}
use Rattle.rc_syntax.specs.Words.{Words}
use Rattle.rc_syntax.specs.printing.Printing.{printed, on_first_line}
use Rattle.rc_syntax.specs.Tree as t
use Rattle.rc_syntax.specs.Grammar.{Text, Placed, node, Derives, placed}
use Rattle.rc_syntax.specs.Shape.{mapped}

abbrev pub nowhere : Spot
nowhere = record { place = 0; line = 0 }

abbrev pub unplaced_name : Name → Name
unplaced_name x = record { spot = nowhere; text = x.text }

abbrev pub unplaced_base : Base → Base
unplaced_base (b.Int at) = b.Int nowhere
unplaced_base (b.Unsigned at) = b.Unsigned nowhere
unplaced_base (b.Char at) = b.Char nowhere
unplaced_base (b.Region at) = b.Region nowhere
unplaced_base (b.Struct at x) = b.Struct nowhere (unplaced_name x)

abbrev pub unplaced_type : t.TypeName → t.TypeName
unplaced_type n = record { base = unplaced_base n.base; stars = n.stars }

abbrev mutual
  pub unplaced_expr : t.Expr → t.Expr
  unplaced_expr (t.number at i unsigned) = t.number nowhere i unsigned
  unplaced_expr (t.character at i) = t.character nowhere i
  unplaced_expr (t.string at bytes) = t.string nowhere bytes
  unplaced_expr (t.null at) = t.null nowhere
  unplaced_expr (t.eof at) = t.eof nowhere
  unplaced_expr (t.variable x) = t.variable (unplaced_name x)
  unplaced_expr (t.call x arguments) = t.call (unplaced_name x) (unplaced_exprs arguments)
  unplaced_expr (t.ralloc at r n) = t.ralloc nowhere (unplaced_expr r) (unplaced_type n)
  unplaced_expr (t.rarrayalloc at r i n) = t.rarrayalloc nowhere (unplaced_expr r) (unplaced_expr i) (unplaced_type n)
  unplaced_expr (t.index at a i) = t.index nowhere (unplaced_expr a) (unplaced_expr i)
  unplaced_expr (t.member at a x) = t.member nowhere (unplaced_expr a) (unplaced_name x)
  unplaced_expr (t.arrow at a x) = t.arrow nowhere (unplaced_expr a) (unplaced_name x)
  unplaced_expr (t.unary at op a) = t.unary nowhere op (unplaced_expr a)
  unplaced_expr (t.cast at to a) = t.cast nowhere to (unplaced_expr a)
  unplaced_expr (t.binary at op a c) = t.binary nowhere op (unplaced_expr a) (unplaced_expr c)
  unplaced_expr (t.conditional at c a e) = t.conditional nowhere (unplaced_expr c) (unplaced_expr a) (unplaced_expr e)

  pub unplaced_exprs : t.Exprs → t.Exprs
  unplaced_exprs t.none = t.none
  unplaced_exprs (t.more a rest) = t.more (unplaced_expr a) (unplaced_exprs rest)

abbrev pub unplaced_simple : t.Simple → t.Simple
unplaced_simple (t.expression a) = t.expression (unplaced_expr a)
unplaced_simple (t.assign at l r) = t.assign nowhere (unplaced_expr l) (unplaced_expr r)
unplaced_simple (t.update at op l r) = t.update nowhere op (unplaced_expr l) (unplaced_expr r)
unplaced_simple (t.step_after at op l) = t.step_after nowhere op (unplaced_expr l)
unplaced_simple (t.step_before at op l) = t.step_before nowhere op (unplaced_expr l)

abbrev pub unplaced_local : t.Local → t.Local
unplaced_local l = record { spot = nowhere; type_name = unplaced_type l.type_name; name = unplaced_name l.name; initial = mapped unplaced_expr l.initial }

abbrev pub unplaced_start : t.ForStart → t.ForStart
unplaced_start t.nothing = t.nothing
unplaced_start (t.simply a) = t.simply (unplaced_simple a)
unplaced_start (t.locals ls) = t.locals (map unplaced_local ls)

abbrev mutual
  pub unplaced_stmt : t.Stmt → t.Stmt
  unplaced_stmt (t.local l) = t.local (unplaced_local l)
  unplaced_stmt (t.block at body) = t.block nowhere (unplaced_stmts body)
  unplaced_stmt (t.empty at) = t.empty nowhere
  unplaced_stmt (t.simple at a) = t.simple nowhere (unplaced_simple a)
  unplaced_stmt (t.if_then at c a) = t.if_then nowhere (unplaced_expr c) (unplaced_stmt a)
  unplaced_stmt (t.if_else at c a e) = t.if_else nowhere (unplaced_expr c) (unplaced_stmt a) (unplaced_stmt e)
  unplaced_stmt (t.while_do at c a) = t.while_do nowhere (unplaced_expr c) (unplaced_stmt a)
  unplaced_stmt (t.do_while at a c) = t.do_while nowhere (unplaced_stmt a) (unplaced_expr c)
  unplaced_stmt (t.for_do at start c then a) = t.for_do nowhere (unplaced_start start) (mapped unplaced_expr c) (mapped unplaced_simple then) (unplaced_stmt a)
  unplaced_stmt (t.break_loop at) = t.break_loop nowhere
  unplaced_stmt (t.continue_loop at) = t.continue_loop nowhere
  unplaced_stmt (t.return_with at a) = t.return_with nowhere (mapped unplaced_expr a)

  pub unplaced_stmts : t.Stmts → t.Stmts
  unplaced_stmts t.done = t.done
  unplaced_stmts (t.next a rest) = t.next (unplaced_stmt a) (unplaced_stmts rest)

abbrev pub unplaced_constant : Constant → Constant
unplaced_constant (k.Number at i unsigned) = k.Number nowhere i unsigned
unplaced_constant (k.Negative at i unsigned) = k.Negative nowhere i unsigned
unplaced_constant (k.Character at i) = k.Character nowhere i
unplaced_constant (k.Null at) = k.Null nowhere
unplaced_constant (k.Eof at) = k.Eof nowhere

abbrev pub unplaced_field : t.Field → t.Field
unplaced_field f = record { spot = nowhere; type_name = unplaced_type f.type_name; name = unplaced_name f.name; length = f.length }

abbrev pub unplaced_param : t.Param → t.Param
unplaced_param p = record { spot = nowhere; type_name = unplaced_type p.type_name; name = mapped unplaced_name p.name }

abbrev pub unplaced_item : t.Item → t.Item
unplaced_item (t.struct at x fs) = t.struct nowhere (unplaced_name x) (map unplaced_field fs)
unplaced_item (t.global at n x length initial) = t.global nowhere (unplaced_type n) (unplaced_name x) length (mapped unplaced_constant initial)
unplaced_item (t.function at deletes result x params body) =
    t.function nowhere deletes (mapped unplaced_type result) (unplaced_name x) (map unplaced_param params) (mapped unplaced_stmts body)

-- The words, wherever they stand.
abbrev pub word_at : Placed → Word
word_at p = p.word

abbrev pub words_at : List Placed → List Word
words_at ws = map word_at ws

-- Printed, the words are the words of that text, and are a tree that is these items but for places.
pub record ReadBack (words : List Word) (items : List t.Item) : Type 0 where
  pub read : Words (printed words) (on_first_line words)
  pub tree : List t.Item
  pub derives : Derives (placed 0 (on_first_line words)) (node Text tree)
  pub same : map unplaced_item items ≡ map unplaced_item tree
