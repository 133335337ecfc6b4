-- Numbers as words have them: each is below 2 to the power 32, and a character is a byte.
use Rattle.std.specs.Prelude.{◌<◌, List, [], ◌∷◌, Option, Some, None}
use Rattle.rc_syntax.specs.Tree as t

abbrev mutual
  pub IsInRange : t.Expr → Type 0
  IsInRange (t.number at n u) = n < 4294967296
  IsInRange (t.character at c) = c < 256
  IsInRange (t.string at bytes) = Unit {0}
  IsInRange (t.null at) = Unit {0}
  IsInRange (t.eof at) = Unit {0}
  IsInRange (t.variable name) = Unit {0}
  IsInRange (t.call name args) = AreInRange args
  IsInRange (t.ralloc at r n) = IsInRange r
  IsInRange (t.rarrayalloc at r k n) = IsInRange r × IsInRange k
  IsInRange (t.index at a k) = IsInRange a × IsInRange k
  IsInRange (t.member at a n) = IsInRange a
  IsInRange (t.arrow at a n) = IsInRange a
  IsInRange (t.unary at op a) = IsInRange a
  IsInRange (t.cast at to a) = IsInRange a
  IsInRange (t.binary at op a b) = IsInRange a × IsInRange b
  IsInRange (t.conditional at c a b) = IsInRange c × IsInRange a × IsInRange b

  pub AreInRange : t.Exprs → Type 0
  AreInRange t.none = Unit {0}
  AreInRange (t.more e rest) = IsInRange e × AreInRange rest

abbrev pub OptionInRange : Option t.Expr → Type 0
OptionInRange None = Unit {0}
OptionInRange (Some e) = IsInRange e

abbrev pub SimpleInRange : t.Simple → Type 0
SimpleInRange (t.expression e) = IsInRange e
SimpleInRange (t.assign at l r) = IsInRange l × IsInRange r
SimpleInRange (t.update at op l r) = IsInRange l × IsInRange r
SimpleInRange (t.step_after at op l) = IsInRange l
SimpleInRange (t.step_before at op l) = IsInRange l

abbrev pub SimpleOptionInRange : Option t.Simple → Type 0
SimpleOptionInRange None = Unit {0}
SimpleOptionInRange (Some s) = SimpleInRange s

abbrev pub LocalsInRange : List t.Local → Type 0
LocalsInRange [] = Unit {0}
LocalsInRange (l ∷ ls) = OptionInRange l.initial × LocalsInRange ls

abbrev pub StartInRange : t.ForStart → Type 0
StartInRange t.nothing = Unit {0}
StartInRange (t.simply s) = SimpleInRange s
StartInRange (t.locals ls) = LocalsInRange ls

abbrev mutual
  pub StmtInRange : t.Stmt → Type 0
  StmtInRange (t.local l) = OptionInRange l.initial
  StmtInRange (t.block at body) = StmtsInRange body
  StmtInRange (t.empty at) = Unit {0}
  StmtInRange (t.simple at s) = SimpleInRange s
  StmtInRange (t.if_then at c a) = IsInRange c × StmtInRange a
  StmtInRange (t.if_else at c a b) = IsInRange c × StmtInRange a × StmtInRange b
  StmtInRange (t.while_do at c a) = IsInRange c × StmtInRange a
  StmtInRange (t.do_while at a c) = StmtInRange a × IsInRange c
  StmtInRange (t.for_do at start c next a) = StartInRange start × OptionInRange c × SimpleOptionInRange next × StmtInRange a
  StmtInRange (t.break_loop at) = Unit {0}
  StmtInRange (t.continue_loop at) = Unit {0}
  StmtInRange (t.return_with at e) = OptionInRange e

  pub StmtsInRange : t.Stmts → Type 0
  StmtsInRange t.done = Unit {0}
  StmtsInRange (t.next s rest) = StmtInRange s × StmtsInRange rest

abbrev pub BodyInRange : Option t.Stmts → Type 0
BodyInRange None = Unit {0}
BodyInRange (Some body) = StmtsInRange body

-- the numbers in the functions of a tree; a global's first value is converted
abbrev pub ItemsInRange : List t.Item → Type 0
ItemsInRange [] = Unit {0}
ItemsInRange (t.struct at name fields ∷ is) = ItemsInRange is
ItemsInRange (t.global at n name count c ∷ is) = ItemsInRange is
ItemsInRange (t.function at deletes result name params body ∷ is) = BodyInRange body × ItemsInRange is
