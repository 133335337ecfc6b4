-- The grammar: one table of productions, in the order in which the language's description has them, and what is read off
-- it: which words derive a tree, which words begin one, and the depth and the reach of a word.
use Rattle.std.specs.Prelude.{ℕ, zero, ◌≡◌, ◌≤◌, ◌+◌, List, [], ◌∷◌, ◌++◌, length, map, Option, Some, None, Bool, true, false}
use Rattle.rc_syntax.specs.declared.word.Key.{Key}
use Rattle.rc_syntax.specs.declared.word.Key.TheVariants.{Break, Char, Continue, Deletes, Do, Else, Eof, For, If, Int, Null, ParentPtr, Ralloc, RarrayAlloc, Region, Return, SameRegion, Struct, Traditional, Unsigned, Void, While}
use Rattle.rc_syntax.specs.declared.word.Mark as marks
use Rattle.rc_syntax.specs.declared.word.Mark.TheVariants as m
use Rattle.rc_syntax.specs.declared.tree.Spot.{Spot}
use Rattle.rc_syntax.specs.declared.tree.Name as names
use Rattle.rc_syntax.specs.declared.tree.Note as notes
use Rattle.rc_syntax.specs.declared.tree.Note.TheVariants as n
use Rattle.rc_syntax.specs.declared.tree.Base as bases
use Rattle.rc_syntax.specs.declared.tree.Base.TheVariants as b
use Rattle.rc_syntax.specs.declared.tree.CastType as casts
use Rattle.rc_syntax.specs.declared.tree.CastType.TheVariants as c
use Rattle.rc_syntax.specs.declared.tree.UnaryOp.{UnaryOp}
use Rattle.rc_syntax.specs.declared.tree.UnaryOp.TheVariants as u
use Rattle.rc_syntax.specs.declared.tree.BinaryOp.{BinaryOp}
use Rattle.rc_syntax.specs.declared.tree.BinaryOp.TheVariants as o
use Rattle.rc_syntax.specs.declared.tree.StepOp.{StepOp}
use Rattle.rc_syntax.specs.declared.tree.StepOp.TheVariants.{Increment, Decrement}
use Rattle.rc_syntax.specs.declared.tree.Constant as constants
use Rattle.rc_syntax.specs.declared.tree.Constant.TheVariants as k
use Rattle.rc_syntax.specs.Tokens as w
use Rattle.rc_syntax.specs.Tokens.{Word, Token, key, mark}
use Rattle.rc_syntax.specs.Tree as t

-- The symbols. Level 0 is an expression (a conditional), levels 1 to 10 are the binary operators from `||` to `*`, and
-- level 11 is a unary; there is none above. An arm is what stands behind the `:` of a conditional, and `Star k` is the k-th star of its stars.
-- A symbol that is called an end has the mark behind it: an expression or none and `;`, a simple or none and `)`.
pub data Symbol : Type 0 where
  Text : Symbol
  Item : Symbol
  Fields : Symbol
  Field : Symbol
  FieldDecs : Symbol
  FieldDec : Symbol
  Decs : Symbol
  Dec : Symbol
  Constant : Symbol
  Base : Symbol
  Stars : Symbol
  Star : ℕ → Symbol
  TypeName : Symbol
  Result : Symbol
  ParamsEnd : Symbol
  Params : Symbol
  Param : Symbol
  FunctionEnd : Symbol
  BodyEnd : Symbol
  Block : Symbol
  Body : Symbol
  Locals : Symbol
  LocalDecs : Symbol
  LocalDec : Symbol
  Stmt : Symbol
  ForStart : Symbol
  ExprEnd : Symbol
  SimpleEnd : Symbol
  Simple : Symbol
  Level : ℕ → Symbol
  Arm : Symbol
  Unary : Symbol
  CastType : Symbol
  Postfix : Symbol
  Primary : Symbol
  Arguments : Symbol
  Name : Symbol

-- A declarator: stars, a name, and perhaps a length and what a global or a local begins with.
pub record FieldDeclarator : Type 0 where
  pub spot : Spot
  pub stars : List notes.Note
  pub name : names.Name
  pub length : Option ℕ

pub record GlobalDeclarator : Type 0 where
  pub declarator : FieldDeclarator
  pub constant : Option constants.Constant

pub record LocalDeclarator : Type 0 where
  pub spot : Spot
  pub stars : List notes.Note
  pub name : names.Name
  pub initial : Option t.Expr

-- What stands behind the parameters of a function: perhaps `deletes`, and a body or none.
pub record FunctionEnding : Type 0 where
  pub deletes : Bool
  pub body : Option t.Stmts

-- What the words of a symbol are read as.
abbrev pub TreeOf : Symbol → Type 0
TreeOf Text = List t.Item
TreeOf Item = List t.Item
TreeOf Fields = List t.Field
TreeOf Field = List t.Field
TreeOf FieldDecs = List FieldDeclarator
TreeOf FieldDec = FieldDeclarator
TreeOf Decs = List GlobalDeclarator
TreeOf Dec = GlobalDeclarator
TreeOf Constant = constants.Constant
TreeOf Base = bases.Base
TreeOf Stars = List notes.Note
TreeOf (Star i) = Unit {0}
TreeOf TypeName = t.TypeName
TreeOf Result = Option t.TypeName
TreeOf ParamsEnd = List t.Param
TreeOf Params = List t.Param
TreeOf Param = t.Param
TreeOf FunctionEnd = FunctionEnding
TreeOf BodyEnd = Option t.Stmts
TreeOf Block = t.Stmts
TreeOf Body = t.Stmts
TreeOf Locals = List t.Local
TreeOf LocalDecs = List LocalDeclarator
TreeOf LocalDec = LocalDeclarator
TreeOf Stmt = t.Stmt
TreeOf ForStart = t.ForStart
TreeOf ExprEnd = Option t.Expr
TreeOf SimpleEnd = Option t.Simple
TreeOf Simple = t.Simple
TreeOf (Level i) = t.Expr
TreeOf Arm = t.Expr
TreeOf Unary = t.Expr
TreeOf CastType = casts.CastType
TreeOf Postfix = t.Expr
TreeOf Primary = t.Expr
TreeOf Arguments = t.Exprs
TreeOf Name = names.Name

-- Operators, with their levels and marks.
abbrev pub level_of : BinaryOp → ℕ
level_of o.LogicalOr = 1
level_of o.LogicalAnd = 2
level_of o.BitOr = 3
level_of o.BitXor = 4
level_of o.BitAnd = 5
level_of o.Equal = 6
level_of o.NotEqual = 6
level_of o.Less = 7
level_of o.Greater = 7
level_of o.LessEqual = 7
level_of o.GreaterEqual = 7
level_of o.ShiftLeft = 8
level_of o.ShiftRight = 8
level_of o.Add = 9
level_of o.Subtract = 9
level_of o.Multiply = 10
level_of o.Divide = 10
level_of o.Remainder = 10

abbrev pub mark_of : BinaryOp → marks.Mark
mark_of o.LogicalOr = m.BarBar
mark_of o.LogicalAnd = m.AmpersandAmpersand
mark_of o.BitOr = m.Bar
mark_of o.BitXor = m.Caret
mark_of o.BitAnd = m.Ampersand
mark_of o.Equal = m.EqualEqual
mark_of o.NotEqual = m.ExclamationEqual
mark_of o.Less = m.Less
mark_of o.Greater = m.Greater
mark_of o.LessEqual = m.LessEqual
mark_of o.GreaterEqual = m.GreaterEqual
mark_of o.ShiftLeft = m.ShiftLeft
mark_of o.ShiftRight = m.ShiftRight
mark_of o.Add = m.Plus
mark_of o.Subtract = m.Minus
mark_of o.Multiply = m.Star
mark_of o.Divide = m.Slash
mark_of o.Remainder = m.Percent

-- the mark that combines a left side with what follows, for the ten operators that have one
abbrev pub update_of : BinaryOp → Option marks.Mark
update_of o.BitOr = Some m.BarEqual
update_of o.BitXor = Some m.CaretEqual
update_of o.BitAnd = Some m.AmpersandEqual
update_of o.ShiftLeft = Some m.ShiftLeftEqual
update_of o.ShiftRight = Some m.ShiftRightEqual
update_of o.Add = Some m.PlusEqual
update_of o.Subtract = Some m.MinusEqual
update_of o.Multiply = Some m.StarEqual
update_of o.Divide = Some m.SlashEqual
update_of o.Remainder = Some m.PercentEqual
update_of _ = None

abbrev pub prefix_of : UnaryOp → marks.Mark
prefix_of u.Minus = m.Minus
prefix_of u.Plus = m.Plus
prefix_of u.Not = m.Exclamation
prefix_of u.Complement = m.Tilde
prefix_of u.Dereference = m.Star
prefix_of u.Address = m.Ampersand

abbrev pub step_of : StepOp → marks.Mark
step_of Increment = m.PlusPlus
step_of Decrement = m.MinusMinus

-- the reserved word behind a star
abbrev pub note_of : notes.Note → Option Key
note_of n.Plain = None
note_of n.SameRegion = Some SameRegion
note_of n.ParentPtr = Some ParentPtr
note_of n.Traditional = Some Traditional

-- Lists, joined and made longer.
abbrev pub joined : t.Stmts → t.Stmts → t.Stmts
joined t.done b = b
joined (t.next s a) b = t.next s (joined a b)

abbrev pub stmts_of : List t.Local → t.Stmts
stmts_of [] = t.done
stmts_of (l ∷ ls) = t.next (t.local l) (stmts_of ls)

abbrev pub with_last : t.Exprs → t.Expr → t.Exprs
with_last t.none e = t.more e t.none
with_last (t.more a v) e = t.more a (with_last v e)

-- What a declarator makes of the base before it.
abbrev pub typed : bases.Base → List notes.Note → t.TypeName
typed base stars = record { base = base; stars = stars }

abbrev pub field : bases.Base → FieldDeclarator → t.Field
field base d = record { spot = d.spot; type_name = typed base d.stars; name = d.name; length = d.length }

abbrev pub global : bases.Base → GlobalDeclarator → t.Item
global base d = t.global d.declarator.spot (typed base d.declarator.stars) d.declarator.name d.declarator.length d.constant

abbrev pub local : bases.Base → LocalDeclarator → t.Local
local base d = record { spot = d.spot; type_name = typed base d.stars; name = d.name; initial = d.initial }

-- The statement ends in an `if` that has no `else`, so that an `else` behind it is this one's.
abbrev pub ends_open : t.Stmt → Bool
ends_open (t.if_then at c a) = true
ends_open (t.if_else at c a b) = ends_open b
ends_open (t.while_do at c a) = ends_open a
ends_open (t.for_do at start c then a) = ends_open a
ends_open _ = false

-- A part of a production: a word, or a symbol with its tree.
pub data Part : Type 0 where
  word : Word → Part
  node : (s : Symbol) → TreeOf s → Part

abbrev pub sign : marks.Mark → Part
sign i = word (mark i)

abbrev pub keyword : Key → Part
keyword i = word (key i)

-- The productions: at a spot, a symbol with its tree is these parts. Above each group stands its production in the language's description
-- (docs/LANGUAGE.md), or, of a symbol that has no name there, the piece of a production that it is.
pub data Rule (at : Spot) : (s : Symbol) → TreeOf s → List Part → Type 0 where
  -- unit = { item } .
  no_items : Rule at Text [] []
  items : {before is : List t.Item} → Rule at Text (before ++ is) (node Text before ∷ node Item is ∷ [])
  -- item = "struct" NAME "{" field { field } "}" ";" | base dec { "," dec } ";" | ["deletes"] result NAME "(" [params] ")" ["deletes"] (block | ";") .
  a_struct : {x : names.Name} {fs : List t.Field} → Rule at Item (t.struct at x fs ∷ []) (keyword Struct ∷ node Name x ∷ sign m.OpenBrace ∷ node Fields fs ∷ sign m.CloseBrace ∷ sign m.Semicolon ∷ [])
  globals : {base : bases.Base} {ds : List GlobalDeclarator} → Rule at Item (map (global base) ds) (node Base base ∷ node Decs ds ∷ sign m.Semicolon ∷ [])
  a_function : {result : Option t.TypeName} {x : names.Name} {ps : List t.Param} {end : FunctionEnding} → Rule at Item (t.function at end.deletes result x ps end.body ∷ []) (node Result result ∷ node Name x ∷ sign m.OpenParenthesis ∷ node ParamsEnd ps ∷ node FunctionEnd end ∷ [])
  a_deleting : {result : Option t.TypeName} {x : names.Name} {ps : List t.Param} {end : FunctionEnding} → Rule at Item (t.function at true result x ps end.body ∷ []) (keyword Deletes ∷ node Result result ∷ node Name x ∷ sign m.OpenParenthesis ∷ node ParamsEnd ps ∷ node FunctionEnd end ∷ [])
  -- field { field }
  first_field : {fs : List t.Field} → Rule at Fields fs (node Field fs ∷ [])
  more_fields : {before fs : List t.Field} → Rule at Fields (before ++ fs) (node Fields before ∷ node Field fs ∷ [])
  -- field = base fdec { "," fdec } ";" .
  fields : {base : bases.Base} {ds : List FieldDeclarator} → Rule at Field (map (field base) ds) (node Base base ∷ node FieldDecs ds ∷ sign m.Semicolon ∷ [])
  -- fdec { "," fdec }
  one_field : {d : FieldDeclarator} → Rule at FieldDecs (d ∷ []) (node FieldDec d ∷ [])
  another_field : {before : List FieldDeclarator} {d : FieldDeclarator} → Rule at FieldDecs (before ++ d ∷ []) (node FieldDecs before ∷ sign m.Comma ∷ node FieldDec d ∷ [])
  -- fdec = stars NAME ["[" NUMBER "]"] .
  a_field : {ns : List notes.Note} {x : names.Name} → Rule at FieldDec (record { spot = at; stars = ns; name = x; length = None }) (node Stars ns ∷ node Name x ∷ [])
  an_array : {ns : List notes.Note} {x : names.Name} {i : ℕ} {unsigned : Bool} → Rule at FieldDec (record { spot = at; stars = ns; name = x; length = Some i }) (node Stars ns ∷ node Name x ∷ sign m.OpenBracket ∷ word (w.number i unsigned) ∷ sign m.CloseBracket ∷ [])
  -- dec { "," dec }
  one_global : {d : GlobalDeclarator} → Rule at Decs (d ∷ []) (node Dec d ∷ [])
  another_global : {before : List GlobalDeclarator} {d : GlobalDeclarator} → Rule at Decs (before ++ d ∷ []) (node Decs before ∷ sign m.Comma ∷ node Dec d ∷ [])
  -- dec = fdec ["=" constant] .
  a_global : {d : FieldDeclarator} → Rule at Dec (record { declarator = d; constant = None }) (node FieldDec d ∷ [])
  an_initial : {d : FieldDeclarator} {i : constants.Constant} → Rule at Dec (record { declarator = d; constant = Some i }) (node FieldDec d ∷ sign m.Equal ∷ node Constant i ∷ [])
  -- constant = ["-"] NUMBER | CHARACTER | "NULL" | "EOF" .
  a_constant : {i : ℕ} {unsigned : Bool} → Rule at Constant (k.Number at i unsigned) (word (w.number i unsigned) ∷ [])
  a_negative : {i : ℕ} {unsigned : Bool} → Rule at Constant (k.Negative at i unsigned) (sign m.Minus ∷ word (w.number i unsigned) ∷ [])
  a_code : {i : ℕ} → Rule at Constant (k.Character at i) (word (w.character i) ∷ [])
  a_null : Rule at Constant (k.Null at) (keyword Null ∷ [])
  an_eof : Rule at Constant (k.Eof at) (keyword Eof ∷ [])
  -- base = "int" | "unsigned" ["int"] | "char" | "region" | "struct" NAME .
  an_int : Rule at Base (b.Int at) (keyword Int ∷ [])
  an_unsigned : Rule at Base (b.Unsigned at) (keyword Unsigned ∷ [])
  an_unsigned_int : Rule at Base (b.Unsigned at) (keyword Unsigned ∷ keyword Int ∷ [])
  a_char : Rule at Base (b.Char at) (keyword Char ∷ [])
  a_region : Rule at Base (b.Region at) (keyword Region ∷ [])
  a_named_struct : {x : names.Name} → Rule at Base (b.Struct at x) (keyword Struct ∷ node Name x ∷ [])
  -- stars = { "*" ["sameregion" | "parentptr" | "traditional"] } .
  no_stars : Rule at Stars [] []
  plain_star : {before : List notes.Note} → Rule at Stars (before ++ n.Plain ∷ []) (node Stars before ∷ node (Star (length before + 1)) tt ∷ [])
  noted_star : {before : List notes.Note} (note : notes.Note) {i : Key} → note_of note ≡ Some i → Rule at Stars (before ++ note ∷ []) (node Stars before ∷ node (Star (length before + 1)) tt ∷ keyword i ∷ [])
  -- the k-th "*" of stars, of which each is one deeper than the one before
  a_star : {i : ℕ} → Rule at (Star i) tt (sign m.Star ∷ [])
  -- type = base stars .
  a_type : {base : bases.Base} {ns : List notes.Note} → Rule at TypeName (typed base ns) (node Base base ∷ node Stars ns ∷ [])
  -- result = "void" | type .
  a_void : Rule at Result None (keyword Void ∷ [])
  a_result : {ty : t.TypeName} → Rule at Result (Some ty) (node TypeName ty ∷ [])
  -- [params] ")", with params = "void" | param { "," param } .
  no_params : Rule at ParamsEnd [] (sign m.CloseParenthesis ∷ [])
  void_params : Rule at ParamsEnd [] (keyword Void ∷ sign m.CloseParenthesis ∷ [])
  some_params : {ps : List t.Param} → Rule at ParamsEnd ps (node Params ps ∷ sign m.CloseParenthesis ∷ [])
  -- param { "," param }
  one_param : {p : t.Param} → Rule at Params (p ∷ []) (node Param p ∷ [])
  another_param : {before : List t.Param} {p : t.Param} → Rule at Params (before ++ p ∷ []) (node Params before ∷ sign m.Comma ∷ node Param p ∷ [])
  -- param = type [NAME] .
  a_nameless : {ty : t.TypeName} → Rule at Param (record { spot = at; type_name = ty; name = None }) (node TypeName ty ∷ [])
  a_param : {ty : t.TypeName} {x : names.Name} → Rule at Param (record { spot = at; type_name = ty; name = Some x }) (node TypeName ty ∷ node Name x ∷ [])
  -- ["deletes"] (block | ";"), behind the ")" of a function
  ends : {body : Option t.Stmts} → Rule at FunctionEnd (record { deletes = false; body = body }) (node BodyEnd body ∷ [])
  ends_deleting : {body : Option t.Stmts} → Rule at FunctionEnd (record { deletes = true; body = body }) (keyword Deletes ∷ node BodyEnd body ∷ [])
  -- block | ";"
  no_body : Rule at BodyEnd None (sign m.Semicolon ∷ [])
  a_body : {body : t.Stmts} → Rule at BodyEnd (Some body) (node Block body ∷ [])
  -- block = "{" { local | stmt } "}" .
  a_block : {body : t.Stmts} → Rule at Block body (sign m.OpenBrace ∷ node Body body ∷ sign m.CloseBrace ∷ [])
  -- { local | stmt }
  no_stmts : Rule at Body t.done []
  then_locals : {before : t.Stmts} {ls : List t.Local} → Rule at Body (joined before (stmts_of ls)) (node Body before ∷ node Locals ls ∷ [])
  then_stmt : {before : t.Stmts} {s : t.Stmt} → Rule at Body (joined before (t.next s t.done)) (node Body before ∷ node Stmt s ∷ [])
  -- local = base ldec { "," ldec } ";" .
  locals : {base : bases.Base} {ds : List LocalDeclarator} → Rule at Locals (map (local base) ds) (node Base base ∷ node LocalDecs ds ∷ sign m.Semicolon ∷ [])
  -- ldec { "," ldec }
  one_local : {d : LocalDeclarator} → Rule at LocalDecs (d ∷ []) (node LocalDec d ∷ [])
  another_local : {before : List LocalDeclarator} {d : LocalDeclarator} → Rule at LocalDecs (before ++ d ∷ []) (node LocalDecs before ∷ sign m.Comma ∷ node LocalDec d ∷ [])
  -- ldec = stars NAME ["=" expr] .
  a_local : {ns : List notes.Note} {x : names.Name} → Rule at LocalDec (record { spot = at; stars = ns; name = x; initial = None }) (node Stars ns ∷ node Name x ∷ [])
  a_local_with : {ns : List notes.Note} {x : names.Name} {e : t.Expr} → Rule at LocalDec (record { spot = at; stars = ns; name = x; initial = Some e }) (node Stars ns ∷ node Name x ∷ sign m.Equal ∷ node (Level 0) e ∷ [])
  -- stmt = block | ";" | simple ";" | "if" "(" expr ")" stmt ["else" stmt] | "while" "(" expr ")" stmt | "do" stmt "while" "(" expr ")" ";"
  --      | "for" "(" (local | [simple] ";") [expr] ";" [simple] ")" stmt | "break" ";" | "continue" ";" | "return" [expr] ";" .
  a_block_stmt : {body : t.Stmts} → Rule at Stmt (t.block at body) (node Block body ∷ [])
  an_empty : Rule at Stmt (t.empty at) (sign m.Semicolon ∷ [])
  a_simple : {x : t.Simple} → Rule at Stmt (t.simple at x) (node Simple x ∷ sign m.Semicolon ∷ [])
  an_if : {e : t.Expr} {a : t.Stmt} → Rule at Stmt (t.if_then at e a) (keyword If ∷ sign m.OpenParenthesis ∷ node (Level 0) e ∷ sign m.CloseParenthesis ∷ node Stmt a ∷ [])
  an_if_else : {e : t.Expr} {a b : t.Stmt} → ends_open a ≡ false → Rule at Stmt (t.if_else at e a b) (keyword If ∷ sign m.OpenParenthesis ∷ node (Level 0) e ∷ sign m.CloseParenthesis ∷ node Stmt a ∷ keyword Else ∷ node Stmt b ∷ [])
  a_while : {e : t.Expr} {a : t.Stmt} → Rule at Stmt (t.while_do at e a) (keyword While ∷ sign m.OpenParenthesis ∷ node (Level 0) e ∷ sign m.CloseParenthesis ∷ node Stmt a ∷ [])
  a_do : {a : t.Stmt} {e : t.Expr} → Rule at Stmt (t.do_while at a e) (keyword Do ∷ node Stmt a ∷ keyword While ∷ sign m.OpenParenthesis ∷ node (Level 0) e ∷ sign m.CloseParenthesis ∷ sign m.Semicolon ∷ [])
  a_for : {start : t.ForStart} {e : Option t.Expr} {then : Option t.Simple} {a : t.Stmt} → Rule at Stmt (t.for_do at start e then a) (keyword For ∷ sign m.OpenParenthesis ∷ node ForStart start ∷ node ExprEnd e ∷ node SimpleEnd then ∷ node Stmt a ∷ [])
  a_break : Rule at Stmt (t.break_loop at) (keyword Break ∷ sign m.Semicolon ∷ [])
  a_continue : Rule at Stmt (t.continue_loop at) (keyword Continue ∷ sign m.Semicolon ∷ [])
  a_return : {e : Option t.Expr} → Rule at Stmt (t.return_with at e) (keyword Return ∷ node ExprEnd e ∷ [])
  -- local | [simple] ";", at the beginning of a `for`
  starts_local : {ls : List t.Local} → Rule at ForStart (t.locals ls) (node Locals ls ∷ [])
  starts_simple : {x : t.Simple} → Rule at ForStart (t.simply x) (node Simple x ∷ sign m.Semicolon ∷ [])
  starts_nothing : Rule at ForStart t.nothing (sign m.Semicolon ∷ [])
  -- [expr] ";"
  no_expr : Rule at ExprEnd None (sign m.Semicolon ∷ [])
  an_expr : {e : t.Expr} → Rule at ExprEnd (Some e) (node (Level 0) e ∷ sign m.Semicolon ∷ [])
  -- [simple] ")"
  no_simple : Rule at SimpleEnd None (sign m.CloseParenthesis ∷ [])
  some_simple : {x : t.Simple} → Rule at SimpleEnd (Some x) (node Simple x ∷ sign m.CloseParenthesis ∷ [])
  -- simple = expr | unary ("=" | op"=") expr | unary ("++" | "--") | ("++" | "--") unary .
  evaluates : {e : t.Expr} → Rule at Simple (t.expression e) (node (Level 0) e ∷ [])
  assigns : {l r : t.Expr} → Rule at Simple (t.assign at l r) (node Unary l ∷ sign m.Equal ∷ node (Level 0) r ∷ [])
  updates : {op : BinaryOp} {i : marks.Mark} {l r : t.Expr} → update_of op ≡ Some i → Rule at Simple (t.update at op l r) (node Unary l ∷ sign i ∷ node (Level 0) r ∷ [])
  steps_after : {op : StepOp} {l : t.Expr} → Rule at Simple (t.step_after at op l) (node Unary l ∷ sign (step_of op) ∷ [])
  steps_before : {op : StepOp} {l : t.Expr} → Rule at Simple (t.step_before at op l) (sign (step_of op) ∷ node Unary l ∷ [])
  -- expr = cond, and cond = lor ["?" expr ":" cond] .
  conditional : {c a b : t.Expr} → Rule at (Level 0) (t.conditional at c a b) (node (Level 1) c ∷ sign m.Question ∷ node (Level 0) a ∷ sign m.Colon ∷ node Arm b ∷ [])
  -- cond, behind the ":" of a conditional
  arm : {e : t.Expr} → Rule at Arm e (node (Level 0) e ∷ [])
  -- a level of binary operators = the next level { operator the next level } . The last of them is of unaries.
  chain : {i : ℕ} {op : BinaryOp} {a b : t.Expr} → level_of op ≡ i → Rule at (Level i) (t.binary at op a b) (node (Level i) a ∷ sign (mark_of op) ∷ node (Level (i + 1)) b ∷ [])
  up : {i : ℕ} {e : t.Expr} → i ≤ 10 → Rule at (Level i) e (node (Level (i + 1)) e ∷ [])
  operand : {e : t.Expr} → Rule at (Level 11) e (node Unary e ∷ [])
  -- unary = postfix | ("-" | "+" | "!" | "~" | "*" | "&") unary | "(" ("int" | "unsigned" ["int"] | "char") ")" unary .
  plain : {e : t.Expr} → Rule at Unary e (node Postfix e ∷ [])
  prefixed : {op : UnaryOp} {e : t.Expr} → Rule at Unary (t.unary at op e) (sign (prefix_of op) ∷ node Unary e ∷ [])
  a_cast : {to : casts.CastType} {e : t.Expr} → Rule at Unary (t.cast at to e) (sign m.OpenParenthesis ∷ node CastType to ∷ sign m.CloseParenthesis ∷ node Unary e ∷ [])
  -- "int" | "unsigned" ["int"] | "char"
  to_int : Rule at CastType c.Int (keyword Int ∷ [])
  to_unsigned : Rule at CastType c.Unsigned (keyword Unsigned ∷ [])
  to_unsigned_int : Rule at CastType c.Unsigned (keyword Unsigned ∷ keyword Int ∷ [])
  to_char : Rule at CastType c.Char (keyword Char ∷ [])
  -- postfix = primary { "[" expr "]" | "." NAME | "->" NAME } .
  bare : {e : t.Expr} → Rule at Postfix e (node Primary e ∷ [])
  indexed : {a i : t.Expr} → Rule at Postfix (t.index at a i) (node Postfix a ∷ sign m.OpenBracket ∷ node (Level 0) i ∷ sign m.CloseBracket ∷ [])
  a_member : {a : t.Expr} {x : names.Name} → Rule at Postfix (t.member at a x) (node Postfix a ∷ sign m.Dot ∷ node Name x ∷ [])
  an_arrow : {a : t.Expr} {x : names.Name} → Rule at Postfix (t.arrow at a x) (node Postfix a ∷ sign m.Arrow ∷ node Name x ∷ [])
  -- primary = NUMBER | CHARACTER | STRING | "NULL" | "EOF" | NAME | NAME "(" [expr { "," expr }] ")"
  --         | "ralloc" "(" expr "," type ")" | "rarrayalloc" "(" expr "," expr "," type ")" | "(" expr ")" .
  a_number : {i : ℕ} {unsigned : Bool} → Rule at Primary (t.number at i unsigned) (word (w.number i unsigned) ∷ [])
  a_character : {i : ℕ} → Rule at Primary (t.character at i) (word (w.character i) ∷ [])
  a_string : {bytes : List ℕ} → Rule at Primary (t.string at bytes) (word (w.string bytes) ∷ [])
  the_null : Rule at Primary (t.null at) (keyword Null ∷ [])
  the_eof : Rule at Primary (t.eof at) (keyword Eof ∷ [])
  a_variable : {x : names.Name} → Rule at Primary (t.variable x) (node Name x ∷ [])
  calls : {x : names.Name} → Rule at Primary (t.call x t.none) (node Name x ∷ sign m.OpenParenthesis ∷ sign m.CloseParenthesis ∷ [])
  calls_with : {x : names.Name} {v : t.Exprs} → Rule at Primary (t.call x v) (node Name x ∷ sign m.OpenParenthesis ∷ node Arguments v ∷ sign m.CloseParenthesis ∷ [])
  allocates : {r : t.Expr} {ty : t.TypeName} → Rule at Primary (t.ralloc at r ty) (keyword Ralloc ∷ sign m.OpenParenthesis ∷ node (Level 0) r ∷ sign m.Comma ∷ node TypeName ty ∷ sign m.CloseParenthesis ∷ [])
  allocates_array : {r i : t.Expr} {ty : t.TypeName} → Rule at Primary (t.rarrayalloc at r i ty) (keyword RarrayAlloc ∷ sign m.OpenParenthesis ∷ node (Level 0) r ∷ sign m.Comma ∷ node (Level 0) i ∷ sign m.Comma ∷ node TypeName ty ∷ sign m.CloseParenthesis ∷ [])
  parentheses : {e : t.Expr} → Rule at Primary e (sign m.OpenParenthesis ∷ node (Level 0) e ∷ sign m.CloseParenthesis ∷ [])
  -- expr { "," expr }
  one : {e : t.Expr} → Rule at Arguments (t.more e t.none) (node (Level 0) e ∷ [])
  another : {v : t.Exprs} {e : t.Expr} → Rule at Arguments (with_last v e) (node Arguments v ∷ sign m.Comma ∷ node (Level 0) e ∷ [])
  -- NAME
  a_name : {bytes : List ℕ} → Rule at Name (record { spot = at; text = bytes }) (word (w.name bytes) ∷ [])

-- A word with its spot.
pub record Placed : Type 0 where
  pub word : Word
  pub spot : Spot

-- the words of a list, the first of which has this number
abbrev pub placed : ℕ → List Token → List Placed
placed i [] = []
placed i (a ∷ rest) = record { word = a.word; spot = record { place = i; line = a.line } } ∷ placed (i + 1) rest

-- the words, if any, begin at the spot
abbrev pub BeginAt : Spot → List Placed → Type 0
BeginAt at [] = Unit {0}
BeginAt at (p ∷ ps) = p.spot ≡ at

-- These words are the part, or the parts in their order.
mutual
  pub data Derives : List Placed → Part → Type 0 where
    itself : {i : Word} {at : Spot} → Derives (record { word = i; spot = at } ∷ []) (word i)
    by : {ws : List Placed} {at : Spot} {s : Symbol} {a : TreeOf s} {parts : List Part} →
        BeginAt at ws → Rule at s a parts → DeriveAll ws parts → Derives ws (node s a)

  pub data DeriveAll : List Placed → List Part → Type 0 where
    done : DeriveAll [] []
    then : {xs ys : List Placed} {p : Part} {ps : List Part} → Derives xs p → DeriveAll ys ps → DeriveAll (xs ++ ys) (p ∷ ps)

-- What a node of the symbol adds to the depth of its words.
abbrev pub adds : Symbol → ℕ
adds Stmt = 1
adds Unary = 1
adds Arm = 1
adds (Star i) = i
adds _ = 0

-- The reach of the last of so many words that begin the symbol: their number in an expression or a unary, and else what
-- it is inside.
abbrev pub reach : Symbol → ℕ → ℕ → ℕ
reach (Level zero) words inner = words
reach Unary words inner = words
reach _ words inner = inner

-- These words begin the symbol, and the last of them has this depth and this reach. They begin the parts of a production
-- in their order: some derived, and then a word, or the beginning of a symbol.
mutual
  pub data Begins : List Placed → Symbol → ℕ → ℕ → Type 0 where
    inside : {ws : List Placed} {at : Spot} {s : Symbol} {a : TreeOf s} {parts : List Part} {d r : ℕ} →
        Rule at s a parts → BeginAll ws parts d r → Begins ws s (adds s + d) (reach s (length ws) r)

  pub data BeginAll : List Placed → List Part → ℕ → ℕ → Type 0 where
    a_word : {i : Word} {at : Spot} {ps : List Part} → BeginAll (record { word = i; spot = at } ∷ []) (word i ∷ ps) 0 0
    here : {xs : List Placed} {s : Symbol} {a : TreeOf s} {ps : List Part} {d r : ℕ} → Begins xs s d r → BeginAll xs (node s a ∷ ps) d r
    later : {xs ys : List Placed} {p q : Part} {ps : List Part} {d r : ℕ} → Derives xs p → BeginAll ys (q ∷ ps) d r → BeginAll (xs ++ ys) (p ∷ q ∷ ps) d r
