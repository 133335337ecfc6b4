-- The words of a tree, as it is printed. Each declarator has a declaration of its own, but in the head of a `for`. An operand
-- is in parentheses where its level is lower than its place asks for.
use Rattle.std.specs.Prelude.{ℕ, ◌+◌, List, [], ◌∷◌, ◌++◌, flat_map, Option, Some, None, Bool, not, nat_le, if◌then◌else◌}
use Rattle.rc_syntax.specs.declared.word.Key.TheVariants.{Break, Char, Continue, Deletes, Do, Else, Eof, For, If, Int, Null, ParentPtr, Ralloc, RarrayAlloc, Region, Return, SameRegion, Struct, Traditional, Unsigned, Void, While}
use Rattle.rc_syntax.specs.declared.word.Mark.TheVariants as m
use Rattle.rc_syntax.specs.declared.word.Mark.{Mark}
use Rattle.rc_syntax.specs.declared.tree.Name.{Name}
use Rattle.rc_syntax.specs.declared.tree.Note.{Note}
use Rattle.rc_syntax.specs.declared.tree.Note.TheVariants as n
use Rattle.rc_syntax.specs.declared.tree.Base.{Base}
use Rattle.rc_syntax.specs.declared.tree.Base.TheVariants as b
use Rattle.rc_syntax.specs.declared.tree.CastType.{CastType}
use Rattle.rc_syntax.specs.declared.tree.CastType.TheVariants as c
use Rattle.rc_syntax.specs.declared.tree.Constant.{Constant}
use Rattle.rc_syntax.specs.declared.tree.Constant.TheVariants as k
use Rattle.rc_syntax.specs.Tokens.{Word, name, number, character, string, key, mark}
use Rattle.rc_syntax.specs.Tree as t
use Rattle.rc_syntax.specs.Grammar.{level_of, mark_of, update_of, prefix_of, step_of}

-- Types.
abbrev pub base_words : Base → List Word
base_words (b.Int at) = key Int ∷ []
base_words (b.Unsigned at) = key Unsigned ∷ []
base_words (b.Char at) = key Char ∷ []
base_words (b.Region at) = key Region ∷ []
base_words (b.Struct at x) = key Struct ∷ name x.text ∷ []

abbrev pub star_words : Note → List Word
star_words n.Plain = mark m.Star ∷ []
star_words n.SameRegion = mark m.Star ∷ key SameRegion ∷ []
star_words n.ParentPtr = mark m.Star ∷ key ParentPtr ∷ []
star_words n.Traditional = mark m.Star ∷ key Traditional ∷ []

abbrev pub type_words : t.TypeName → List Word
type_words ty = base_words ty.base ++ flat_map star_words ty.stars

abbrev pub cast_words : CastType → List Word
cast_words c.Int = key Int ∷ []
cast_words c.Unsigned = key Unsigned ∷ []
cast_words c.Char = key Char ∷ []

-- Expressions. The level of a conditional is 0, of a binary operator its own, of a unary 11, and of what is never in parentheses 12.
abbrev pub expr_level : t.Expr → ℕ
expr_level (t.conditional at c a e) = 0
expr_level (t.binary at op a e) = level_of op
expr_level (t.unary at op a) = 11
expr_level (t.cast at to a) = 11
expr_level _ = 12

-- an expression of these words, where one of the level may stand
abbrev pub operand_words : ℕ → t.Expr → List Word → List Word
operand_words level e words = if nat_le level (expr_level e) then words else mark m.OpenParenthesis ∷ words ++ mark m.CloseParenthesis ∷ []

abbrev mutual
  pub expr_words : t.Expr → List Word
  expr_words (t.number at i unsigned) = number i unsigned ∷ []
  expr_words (t.character at i) = character i ∷ []
  expr_words (t.string at bytes) = string bytes ∷ []
  expr_words (t.null at) = key Null ∷ []
  expr_words (t.eof at) = key Eof ∷ []
  expr_words (t.variable x) = name x.text ∷ []
  expr_words (t.call x t.none) = name x.text ∷ mark m.OpenParenthesis ∷ mark m.CloseParenthesis ∷ []
  expr_words (t.call x (t.more a rest)) = name x.text ∷ mark m.OpenParenthesis ∷ (expr_words a ++ further_words rest) ++ mark m.CloseParenthesis ∷ []
  expr_words (t.ralloc at r ty) = key Ralloc ∷ mark m.OpenParenthesis ∷ expr_words r ++ (mark m.Comma ∷ type_words ty ++ mark m.CloseParenthesis ∷ [])
  expr_words (t.rarrayalloc at r i ty) = key RarrayAlloc ∷ mark m.OpenParenthesis ∷ expr_words r ++ (mark m.Comma ∷ expr_words i ++ (mark m.Comma ∷ type_words ty ++ mark m.CloseParenthesis ∷ []))
  expr_words (t.index at a i) = operand_words 12 a (expr_words a) ++ (mark m.OpenBracket ∷ expr_words i ++ mark m.CloseBracket ∷ [])
  expr_words (t.member at a x) = operand_words 12 a (expr_words a) ++ mark m.Dot ∷ name x.text ∷ []
  expr_words (t.arrow at a x) = operand_words 12 a (expr_words a) ++ mark m.Arrow ∷ name x.text ∷ []
  expr_words (t.unary at op a) = mark (prefix_of op) ∷ operand_words 11 a (expr_words a)
  expr_words (t.cast at to a) = mark m.OpenParenthesis ∷ cast_words to ++ mark m.CloseParenthesis ∷ operand_words 11 a (expr_words a)
  expr_words (t.binary at op a e) = operand_words (level_of op) a (expr_words a) ++ mark (mark_of op) ∷ operand_words (level_of op + 1) e (expr_words e)
  expr_words (t.conditional at c a e) = operand_words 1 c (expr_words c) ++ (mark m.Question ∷ expr_words a ++ mark m.Colon ∷ expr_words e)

  -- arguments behind the first
  pub further_words : t.Exprs → List Word
  further_words t.none = []
  further_words (t.more a rest) = (mark m.Comma ∷ expr_words a) ++ further_words rest

-- a left side
abbrev pub left_words : t.Expr → List Word
left_words l = operand_words 11 l (expr_words l)

-- the mark of an update; no tree of words has one without
abbrev pub update_words : Option Mark → List Word
update_words None = []
update_words (Some i) = mark i ∷ []

abbrev pub simple_words : t.Simple → List Word
simple_words (t.expression a) = expr_words a
simple_words (t.assign at l r) = left_words l ++ mark m.Equal ∷ expr_words r
simple_words (t.update at op l r) = left_words l ++ (update_words (update_of op) ++ expr_words r)
simple_words (t.step_after at op l) = left_words l ++ mark (step_of op) ∷ []
simple_words (t.step_before at op l) = mark (step_of op) ∷ left_words l

-- Declarators, behind their base. The number in the brackets is an `int` where it can be one.
abbrev pub length_words : Option ℕ → List Word
length_words None = []
length_words (Some i) = mark m.OpenBracket ∷ number i (not (nat_le i 2147483647)) ∷ mark m.CloseBracket ∷ []

abbrev pub declarator_words : List Note → Name → Option ℕ → List Word
declarator_words stars x length = flat_map star_words stars ++ name x.text ∷ length_words length

abbrev pub constant_words : Constant → List Word
constant_words (k.Number at i unsigned) = number i unsigned ∷ []
constant_words (k.Negative at i unsigned) = mark m.Minus ∷ number i unsigned ∷ []
constant_words (k.Character at i) = character i ∷ []
constant_words (k.Null at) = key Null ∷ []
constant_words (k.Eof at) = key Eof ∷ []

abbrev pub global_words : List Note → Name → Option ℕ → Option Constant → List Word
global_words stars x length None = declarator_words stars x length
global_words stars x length (Some i) = declarator_words stars x length ++ mark m.Equal ∷ constant_words i

abbrev pub initial_words : Option t.Expr → List Word
initial_words None = []
initial_words (Some a) = mark m.Equal ∷ expr_words a

abbrev pub local_words : t.Local → List Word
local_words l = flat_map star_words l.type_name.stars ++ name l.name.text ∷ initial_words l.initial

-- locals of one base
abbrev pub locals_words : List t.Local → List Word
locals_words [] = mark m.Semicolon ∷ []
locals_words (l ∷ ls) = base_words l.type_name.base ++ ((local_words l ++ flat_map (λ other. mark m.Comma ∷ local_words other) ls) ++ mark m.Semicolon ∷ [])

-- Statements.
abbrev pub expr_end_words : Option t.Expr → List Word
expr_end_words None = mark m.Semicolon ∷ []
expr_end_words (Some a) = expr_words a ++ mark m.Semicolon ∷ []

abbrev pub simple_end_words : Option t.Simple → List Word
simple_end_words None = mark m.CloseParenthesis ∷ []
simple_end_words (Some a) = simple_words a ++ mark m.CloseParenthesis ∷ []

abbrev pub start_words : t.ForStart → List Word
start_words t.nothing = mark m.Semicolon ∷ []
start_words (t.simply a) = simple_words a ++ mark m.Semicolon ∷ []
start_words (t.locals ls) = locals_words ls

abbrev mutual
  pub stmt_words : t.Stmt → List Word
  stmt_words (t.local l) = locals_words (l ∷ [])
  stmt_words (t.block at body) = mark m.OpenBrace ∷ stmts_words body ++ mark m.CloseBrace ∷ []
  stmt_words (t.empty at) = mark m.Semicolon ∷ []
  stmt_words (t.simple at a) = simple_words a ++ mark m.Semicolon ∷ []
  stmt_words (t.if_then at c a) = key If ∷ mark m.OpenParenthesis ∷ expr_words c ++ mark m.CloseParenthesis ∷ stmt_words a
  stmt_words (t.if_else at c a e) = key If ∷ mark m.OpenParenthesis ∷ expr_words c ++ (mark m.CloseParenthesis ∷ stmt_words a ++ key Else ∷ stmt_words e)
  stmt_words (t.while_do at c a) = key While ∷ mark m.OpenParenthesis ∷ expr_words c ++ mark m.CloseParenthesis ∷ stmt_words a
  stmt_words (t.do_while at a c) = key Do ∷ stmt_words a ++ (key While ∷ mark m.OpenParenthesis ∷ expr_words c ++ mark m.CloseParenthesis ∷ mark m.Semicolon ∷ [])
  stmt_words (t.for_do at start c last a) = key For ∷ mark m.OpenParenthesis ∷ start_words start ++ (expr_end_words c ++ (simple_end_words last ++ stmt_words a))
  stmt_words (t.break_loop at) = key Break ∷ mark m.Semicolon ∷ []
  stmt_words (t.continue_loop at) = key Continue ∷ mark m.Semicolon ∷ []
  stmt_words (t.return_with at a) = key Return ∷ expr_end_words a

  pub stmts_words : t.Stmts → List Word
  stmts_words t.done = []
  stmts_words (t.next a rest) = stmt_words a ++ stmts_words rest

-- Items.
abbrev pub field_words : t.Field → List Word
field_words f = base_words f.type_name.base ++ (declarator_words f.type_name.stars f.name f.length ++ mark m.Semicolon ∷ [])

abbrev pub named_words : List Word → Option Name → List Word
named_words words None = words
named_words words (Some x) = words ++ name x.text ∷ []

abbrev pub param_words : t.Param → List Word
param_words p = named_words (type_words p.type_name) p.name

abbrev pub params_words : List t.Param → List Word
params_words [] = key Void ∷ mark m.CloseParenthesis ∷ []
params_words (p ∷ ps) = (param_words p ++ flat_map (λ other. mark m.Comma ∷ param_words other) ps) ++ mark m.CloseParenthesis ∷ []

abbrev pub result_words : Option t.TypeName → List Word
result_words None = key Void ∷ []
result_words (Some ty) = type_words ty

abbrev pub body_words : Option t.Stmts → List Word
body_words None = mark m.Semicolon ∷ []
body_words (Some body) = mark m.OpenBrace ∷ stmts_words body ++ mark m.CloseBrace ∷ []

abbrev pub ending_words : Bool → Option t.Stmts → List Word
ending_words deletes body = if deletes then key Deletes ∷ body_words body else body_words body

abbrev pub item_words : t.Item → List Word
item_words (t.struct at x fs) = key Struct ∷ name x.text ∷ mark m.OpenBrace ∷ flat_map field_words fs ++ mark m.CloseBrace ∷ mark m.Semicolon ∷ []
item_words (t.global at ty x length initial) = base_words ty.base ++ (global_words ty.stars x length initial ++ mark m.Semicolon ∷ [])
item_words (t.function at deletes result x params body) = result_words result ++ (name x.text ∷ mark m.OpenParenthesis ∷ params_words params ++ ending_words deletes body)

abbrev pub items_words : List t.Item → List Word
items_words items = flat_map item_words items
