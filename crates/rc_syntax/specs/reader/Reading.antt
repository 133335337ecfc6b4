-- How the reader reads each symbol: what the first word of one leads to, and what the word behind a complete one does.
use Rattle.std.specs.Prelude.{ℕ, ◌+◌, nat_le, List, [], ◌∷◌, ◌++◌, length, map, Option, Some, None, Bool, true, false}
use Rattle.rc_syntax.specs.declared.word.Key.TheVariants.{Break, Char, Continue, Deletes, Do, Else, Eof, For, If, Int, Null, ParentPtr, Ralloc, RarrayAlloc, Region, Return, SameRegion, Struct, Traditional, Unsigned, Void, While}
use Rattle.rc_syntax.specs.declared.word.Mark.TheVariants as m
use Rattle.rc_syntax.specs.declared.tree.Spot.{Spot}
use Rattle.rc_syntax.specs.declared.tree.Name as names
use Rattle.rc_syntax.specs.declared.tree.Note as notes
use Rattle.rc_syntax.specs.declared.tree.Note.TheVariants as n
use Rattle.rc_syntax.specs.declared.tree.Base as bases
use Rattle.rc_syntax.specs.declared.tree.Base.TheVariants as b
use Rattle.rc_syntax.specs.declared.tree.CastType as casts
use Rattle.rc_syntax.specs.declared.tree.CastType.TheVariants as c
use Rattle.rc_syntax.specs.declared.tree.UnaryOp.{UnaryOp}
use Rattle.rc_syntax.specs.declared.tree.UnaryOp.TheVariants as u
use Rattle.rc_syntax.specs.declared.tree.BinaryOp.{BinaryOp}
use Rattle.rc_syntax.specs.declared.tree.BinaryOp.TheVariants as o
use Rattle.rc_syntax.specs.declared.tree.StepOp.{StepOp}
use Rattle.rc_syntax.specs.declared.tree.StepOp.TheVariants.{Increment, Decrement}
use Rattle.rc_syntax.specs.declared.tree.Constant.TheVariants as k
use Rattle.rc_syntax.specs.Tokens as w
use Rattle.rc_syntax.specs.Tokens.{Word, key, mark}
use Rattle.rc_syntax.specs.Tree as t
use Rattle.rc_syntax.specs.Grammar as g
use Rattle.rc_syntax.specs.Grammar.{Symbol, TreeOf, Placed, FieldDeclarator, GlobalDeclarator, LocalDeclarator, FunctionEnding, level_of, joined, stmts_of, with_last, typed, field, global, local}
use Rattle.rc_syntax.specs.reader.Todo.{Todo, stop, build, try, enter, peek, begin, resume, Deeper, only, within, when, sees, read, or_else}

-- Words by what they are.
abbrev pub is_open : Word → Bool
is_open (mark m.OpenParenthesis) = true
is_open _ = false

abbrev pub is_close : Word → Bool
is_close (mark m.CloseParenthesis) = true
is_close _ = false

abbrev pub is_open_brace : Word → Bool
is_open_brace (mark m.OpenBrace) = true
is_open_brace _ = false

abbrev pub is_close_brace : Word → Bool
is_close_brace (mark m.CloseBrace) = true
is_close_brace _ = false

abbrev pub is_open_bracket : Word → Bool
is_open_bracket (mark m.OpenBracket) = true
is_open_bracket _ = false

abbrev pub is_close_bracket : Word → Bool
is_close_bracket (mark m.CloseBracket) = true
is_close_bracket _ = false

abbrev pub is_semicolon : Word → Bool
is_semicolon (mark m.Semicolon) = true
is_semicolon _ = false

abbrev pub is_comma : Word → Bool
is_comma (mark m.Comma) = true
is_comma _ = false

abbrev pub is_colon : Word → Bool
is_colon (mark m.Colon) = true
is_colon _ = false

abbrev pub is_equal : Word → Bool
is_equal (mark m.Equal) = true
is_equal _ = false

abbrev pub is_int : Word → Bool
is_int (key Int) = true
is_int _ = false

abbrev pub is_void : Word → Bool
is_void (key Void) = true
is_void _ = false

abbrev pub is_while : Word → Bool
is_while (key While) = true
is_while _ = false

abbrev pub is_else : Word → Bool
is_else (key Else) = true
is_else _ = false

abbrev pub name_in : {s : Symbol} → (names.Name → Todo s) → Spot → Word → Todo s
name_in h at (w.name x) = h (record { spot = at; text = x })
name_in h at _ = stop

abbrev pub named : {s : Symbol} → (names.Name → Todo s) → Placed → Todo s
named h p = name_in h p.spot p.word

abbrev pub number_in : {s : Symbol} → (ℕ → Bool → Todo s) → Word → Todo s
number_in h (w.number i unsigned) = h i unsigned
number_in h _ = stop

abbrev pub numbered : {s : Symbol} → (ℕ → Bool → Todo s) → Placed → Todo s
numbered h p = number_in h p.word

-- the operator that a word is between two operands, and before `=`
abbrev pub binary_of : Word → Option BinaryOp
binary_of (mark m.BarBar) = Some o.LogicalOr
binary_of (mark m.AmpersandAmpersand) = Some o.LogicalAnd
binary_of (mark m.Bar) = Some o.BitOr
binary_of (mark m.Caret) = Some o.BitXor
binary_of (mark m.Ampersand) = Some o.BitAnd
binary_of (mark m.EqualEqual) = Some o.Equal
binary_of (mark m.ExclamationEqual) = Some o.NotEqual
binary_of (mark m.Less) = Some o.Less
binary_of (mark m.Greater) = Some o.Greater
binary_of (mark m.LessEqual) = Some o.LessEqual
binary_of (mark m.GreaterEqual) = Some o.GreaterEqual
binary_of (mark m.ShiftLeft) = Some o.ShiftLeft
binary_of (mark m.ShiftRight) = Some o.ShiftRight
binary_of (mark m.Plus) = Some o.Add
binary_of (mark m.Minus) = Some o.Subtract
binary_of (mark m.Star) = Some o.Multiply
binary_of (mark m.Slash) = Some o.Divide
binary_of (mark m.Percent) = Some o.Remainder
binary_of _ = None

-- Stars.
abbrev pub noted : List notes.Note → Word → Todo g.Stars
noted ns (key SameRegion) = build (ns ++ n.SameRegion ∷ [])
noted ns (key ParentPtr) = build (ns ++ n.ParentPtr ∷ [])
noted ns (key Traditional) = build (ns ++ n.Traditional ∷ [])
noted ns _ = stop

abbrev pub starred : List notes.Note → Unit {0} → Todo g.Stars
starred ns a = try (λ p. noted ns p.word) (build (ns ++ n.Plain ∷ []))

abbrev pub star : List notes.Note → Deeper g.Stars
star ns = within (g.Star (length ns + 1)) (starred ns) (only (build tt))

abbrev pub more_stars : List notes.Note → Word → Deeper g.Stars
more_stars ns (mark m.Star) = star ns
more_stars ns _ = only stop

-- Types.
abbrev pub base_in : Spot → Word → Todo g.Base
base_in at (key Int) = build (b.Int at)
base_in at (key Unsigned) = try (sees is_int (build (b.Unsigned at))) (build (b.Unsigned at))
base_in at (key Char) = build (b.Char at)
base_in at (key Region) = build (b.Region at)
base_in at (key Struct) = read (named (λ x. build (b.Struct at x)))
base_in at _ = stop

abbrev pub base : Placed → Deeper g.Base
base p = only (base_in p.spot p.word)

abbrev pub with_stars : bases.Base → Todo g.TypeName
with_stars a = begin g.Stars [] (λ ns. build (typed a ns))

abbrev pub type_name : Placed → Deeper g.TypeName
type_name p = within g.Base with_stars (base p)

-- Declarators.
abbrev pub length_in : (ℕ → Bool → TreeOf g.FieldDec) → Todo g.FieldDec
length_in h = read (numbered (λ i unsigned. read (sees is_close_bracket (build (h i unsigned)))))

abbrev pub field_named : Spot → List notes.Note → names.Name → Todo g.FieldDec
field_named at ns x =
    try (sees is_open_bracket (length_in (λ i unsigned. record { spot = at; stars = ns; name = x; length = Some i })))
    (build (record { spot = at; stars = ns; name = x; length = None }))

abbrev pub field_starred : Spot → List notes.Note → Todo g.FieldDec
field_starred at ns = read (named (field_named at ns))

abbrev pub field_dec_in : Spot → Word → Deeper g.FieldDec
field_dec_in at (mark m.Star) = within g.Stars (field_starred at) (star [])
field_dec_in at (w.name x) = only (field_named at [] (record { spot = at; text = x }))
field_dec_in at _ = only stop

abbrev pub field_dec : Placed → Deeper g.FieldDec
field_dec p = field_dec_in p.spot p.word

abbrev pub local_named : Spot → List notes.Note → names.Name → Todo g.LocalDec
local_named at ns x =
    try (sees is_equal (enter (g.Level 0) (λ e. build (record { spot = at; stars = ns; name = x; initial = Some e }))))
    (build (record { spot = at; stars = ns; name = x; initial = None }))

abbrev pub local_starred : Spot → List notes.Note → Todo g.LocalDec
local_starred at ns = read (named (local_named at ns))

abbrev pub local_dec_in : Spot → Word → Deeper g.LocalDec
local_dec_in at (mark m.Star) = within g.Stars (local_starred at) (star [])
local_dec_in at (w.name x) = only (local_named at [] (record { spot = at; text = x }))
local_dec_in at _ = only stop

abbrev pub local_dec : Placed → Deeper g.LocalDec
local_dec p = local_dec_in p.spot p.word

abbrev pub constant_in : Spot → Word → Todo g.Constant
constant_in at (w.number i unsigned) = build (k.Number at i unsigned)
constant_in at (mark m.Minus) = read (numbered (λ i unsigned. build (k.Negative at i unsigned)))
constant_in at (w.character i) = build (k.Character at i)
constant_in at (key Null) = build (k.Null at)
constant_in at (key Eof) = build (k.Eof at)
constant_in at _ = stop

abbrev pub initialised : FieldDeclarator → Todo g.Dec
initialised d =
    try (sees is_equal (enter g.Constant (λ i. build (record { declarator = d; constant = Some i }))))
    (build (record { declarator = d; constant = None }))

abbrev pub dec : Placed → Deeper g.Dec
dec p = within g.FieldDec initialised (field_dec p)

abbrev pub field_decs : Placed → Deeper g.FieldDecs
field_decs p = within g.FieldDec (λ d. build (d ∷ [])) (field_dec p)

abbrev pub decs : Placed → Deeper g.Decs
decs p = within g.Dec (λ d. build (d ∷ [])) (dec p)

abbrev pub local_decs : Placed → Deeper g.LocalDecs
local_decs p = within g.LocalDec (λ d. build (d ∷ [])) (local_dec p)

abbrev pub fields_of : bases.Base → Todo g.Field
fields_of a = enter g.FieldDecs (λ ds. read (sees is_semicolon (build (map (field a) ds))))

abbrev pub a_field : Placed → Deeper g.Field
a_field p = within g.Base fields_of (base p)

abbrev pub fields : Placed → Deeper g.Fields
fields p = within g.Field build (a_field p)

abbrev pub locals_of : bases.Base → Todo g.Locals
locals_of a = enter g.LocalDecs (λ ds. read (sees is_semicolon (build (map (local a) ds))))

abbrev pub locals : Placed → Deeper g.Locals
locals p = within g.Base locals_of (base p)

-- Expressions.
abbrev pub call : names.Name → Todo g.Unary
call x =
    try (sees is_close (build (t.call x t.none)))
    (enter g.Arguments (λ v. read (sees is_close (build (t.call x v)))))

abbrev pub cast_to : Spot → casts.CastType → Todo g.Unary
cast_to at to = enter g.Unary (λ e. build (t.cast at to e))

abbrev pub cast_in : Spot → Word → Todo g.Unary
cast_in at (key Int) = read (sees is_close (cast_to at c.Int))
cast_in at (key Unsigned) = try (sees is_int (read (sees is_close (cast_to at c.Unsigned)))) (read (sees is_close (cast_to at c.Unsigned)))
cast_in at (key Char) = read (sees is_close (cast_to at c.Char))
cast_in at _ = stop

abbrev pub allocated : Spot → Todo g.Unary
allocated at =
    enter (g.Level 0) (λ r. read (sees is_comma
    (enter g.TypeName (λ ty. read (sees is_close (build (t.ralloc at r ty)))))))

abbrev pub array_allocated : Spot → Todo g.Unary
array_allocated at =
    enter (g.Level 0) (λ r. read (sees is_comma
    (enter (g.Level 0) (λ i. read (sees is_comma
    (enter g.TypeName (λ ty. read (sees is_close (build (t.rarrayalloc at r i ty))))))))))

abbrev pub parenthesized : Spot → Todo g.Unary
parenthesized at = try (λ p. cast_in at p.word) (enter (g.Level 0) (λ e. read (sees is_close (build e))))

abbrev pub prefixed : Spot → UnaryOp → Todo g.Unary
prefixed at op = enter g.Unary (λ e. build (t.unary at op e))

abbrev pub unary_in : Spot → Word → Todo g.Unary
unary_in at (mark m.Minus) = prefixed at u.Minus
unary_in at (mark m.Plus) = prefixed at u.Plus
unary_in at (mark m.Exclamation) = prefixed at u.Not
unary_in at (mark m.Tilde) = prefixed at u.Complement
unary_in at (mark m.Star) = prefixed at u.Dereference
unary_in at (mark m.Ampersand) = prefixed at u.Address
unary_in at (mark m.OpenParenthesis) = parenthesized at
unary_in at (w.number i unsigned) = build (t.number at i unsigned)
unary_in at (w.character i) = build (t.character at i)
unary_in at (w.string bytes) = build (t.string at bytes)
unary_in at (key Null) = build (t.null at)
unary_in at (key Eof) = build (t.eof at)
unary_in at (w.name x) = try (sees is_open (call (record { spot = at; text = x }))) (build (t.variable (record { spot = at; text = x })))
unary_in at (key Ralloc) = read (sees is_open (allocated at))
unary_in at (key RarrayAlloc) = read (sees is_open (array_allocated at))
unary_in at _ = stop

abbrev pub unary : Placed → Deeper g.Unary
unary p = only (unary_in p.spot p.word)

abbrev pub postfix_in : Spot → t.Expr → Word → Todo g.Unary
postfix_in at a (mark m.OpenBracket) = enter (g.Level 0) (λ i. read (sees is_close_bracket (build (t.index at a i))))
postfix_in at a (mark m.Dot) = read (named (λ x. build (t.member at a x)))
postfix_in at a (mark m.Arrow) = read (named (λ x. build (t.arrow at a x)))
postfix_in at a _ = stop

abbrev pub level : {i : ℕ} → Placed → Deeper (g.Level i)
level p = within g.Unary build (unary p)

abbrev pub arm : Placed → Deeper g.Arm
arm p = within (g.Level 0) build (level p)

abbrev pub arguments : Placed → Deeper g.Arguments
arguments p = within (g.Level 0) (λ e. build (t.more e t.none)) (level p)

abbrev pub otherwise : {i : ℕ} → Spot → t.Expr → t.Expr → Todo (g.Level i)
otherwise at a y = enter g.Arm (λ n. build (t.conditional at a y n))

abbrev pub chosen : {i : ℕ} → Spot → t.Expr → Todo (g.Level i)
chosen at a = enter (g.Level 0) (λ y. read (sees is_colon (otherwise at a y)))

abbrev pub beside : {i : ℕ} → Spot → t.Expr → BinaryOp → Todo (g.Level i)
beside at a op = enter (g.Level (level_of op + 1)) (λ r. build (t.binary at op a r))

abbrev pub is_question : Word → Bool
is_question (mark m.Question) = true
is_question _ = false

abbrev pub operated : {i : ℕ} → Spot → t.Expr → Word → Option BinaryOp → Todo (g.Level i)
operated {i = i} at a x (Some op) = when (nat_le i (level_of op)) (beside at a op)
operated {i = i} at a x None = when (is_question x) (when (nat_le i 0) (chosen at a))

abbrev pub behind : {i : ℕ} → Spot → t.Expr → Word → Todo (g.Level i)
behind at a x = operated at a x (binary_of x)

-- Simple statements.
abbrev pub updated : Spot → t.Expr → BinaryOp → Todo g.Simple
updated at l op = enter (g.Level 0) (λ r. build (t.update at op l r))

abbrev pub assigned : Spot → t.Expr → Word → Todo g.Simple
assigned at l (mark m.Equal) = enter (g.Level 0) (λ r. build (t.assign at l r))
assigned at l (mark m.BarEqual) = updated at l o.BitOr
assigned at l (mark m.CaretEqual) = updated at l o.BitXor
assigned at l (mark m.AmpersandEqual) = updated at l o.BitAnd
assigned at l (mark m.ShiftLeftEqual) = updated at l o.ShiftLeft
assigned at l (mark m.ShiftRightEqual) = updated at l o.ShiftRight
assigned at l (mark m.PlusEqual) = updated at l o.Add
assigned at l (mark m.MinusEqual) = updated at l o.Subtract
assigned at l (mark m.StarEqual) = updated at l o.Multiply
assigned at l (mark m.SlashEqual) = updated at l o.Divide
assigned at l (mark m.PercentEqual) = updated at l o.Remainder
assigned at l (mark m.PlusPlus) = build (t.step_after at Increment l)
assigned at l (mark m.MinusMinus) = build (t.step_after at Decrement l)
assigned at l _ = stop

abbrev pub evaluated : t.Expr → Todo g.Simple
evaluated e = build (t.expression e)

abbrev pub left_side : Spot → t.Expr → Todo g.Simple
left_side at l = try (λ p. assigned at l p.word) (resume at 0 (g.Level 0) evaluated (build l))

abbrev pub stepped : Spot → StepOp → Todo g.Simple
stepped at op = enter g.Unary (λ l. build (t.step_before at op l))

abbrev pub simple_in : Spot → Word → Deeper g.Simple → Deeper g.Simple
simple_in at (mark m.PlusPlus) d = only (stepped at Increment)
simple_in at (mark m.MinusMinus) d = only (stepped at Decrement)
simple_in at _ d = d

abbrev pub simple : Placed → Deeper g.Simple
simple p = simple_in p.spot p.word (within g.Unary (left_side p.spot) (unary p))

-- Statements.
abbrev pub block_body : Todo g.Block
block_body = begin g.Body t.done (λ a. read (sees is_close_brace (build a)))

abbrev pub block : Placed → Deeper g.Block
block p = only (sees is_open_brace block_body p)

abbrev pub if_done : Spot → t.Expr → t.Stmt → Todo g.Stmt
if_done at e a = try (sees is_else (enter g.Stmt (λ n. build (t.if_else at e a n)))) (build (t.if_then at e a))

abbrev pub tested : (t.Expr → t.Stmt → Todo g.Stmt) → Todo g.Stmt
tested h = read (sees is_open (enter (g.Level 0) (λ e. read (sees is_close (enter g.Stmt (h e))))))

abbrev pub until : Spot → t.Stmt → Todo g.Stmt
until at a = read (sees is_while (read (sees is_open (enter (g.Level 0) (λ e. read (sees is_close (read (sees is_semicolon (build (t.do_while at a e))))))))))

abbrev pub for_head : Spot → Todo g.Stmt
for_head at = enter g.ForStart (λ start. enter g.ExprEnd (λ e. enter g.SimpleEnd (λ x. enter g.Stmt (λ a. build (t.for_do at start e x a)))))

abbrev pub expr_end_in : Word → Deeper g.ExprEnd → Deeper g.ExprEnd
expr_end_in (mark m.Semicolon) d = only (build None)
expr_end_in _ d = d

abbrev pub expr_end : Placed → Deeper g.ExprEnd
expr_end p = expr_end_in p.word (within (g.Level 0) (λ e. read (sees is_semicolon (build (Some e)))) (level p))

abbrev pub simple_end_in : Word → Deeper g.SimpleEnd → Deeper g.SimpleEnd
simple_end_in (mark m.CloseParenthesis) d = only (build None)
simple_end_in _ d = d

abbrev pub simple_end : Placed → Deeper g.SimpleEnd
simple_end p = simple_end_in p.word (within g.Simple (λ x. read (sees is_close (build (Some x)))) (simple p))

abbrev pub for_start_in : Word → Deeper g.ForStart → Deeper g.ForStart
for_start_in (mark m.Semicolon) d = only (build t.nothing)
for_start_in _ d = d

abbrev pub for_start : Placed → Deeper g.ForStart
for_start p =
    for_start_in p.word (or_else (within g.Locals (λ ls. build (t.locals ls)) (locals p))
    (within g.Simple (λ x. read (sees is_semicolon (build (t.simply x)))) (simple p)))

abbrev pub stmt_in : Spot → Word → Deeper g.Stmt → Deeper g.Stmt
stmt_in at (mark m.Semicolon) d = only (build (t.empty at))
stmt_in at (key If) d = only (tested (if_done at))
stmt_in at (key While) d = only (tested (λ e a. build (t.while_do at e a)))
stmt_in at (key Do) d = only (enter g.Stmt (until at))
stmt_in at (key For) d = only (read (sees is_open (for_head at)))
stmt_in at (key Break) d = only (read (sees is_semicolon (build (t.break_loop at))))
stmt_in at (key Continue) d = only (read (sees is_semicolon (build (t.continue_loop at))))
stmt_in at (key Return) d = only (enter g.ExprEnd (λ e. build (t.return_with at e)))
stmt_in at _ d = d

abbrev pub stmt : Placed → Deeper g.Stmt
stmt p =
    stmt_in p.spot p.word (or_else (within g.Block (λ a. build (t.block p.spot a)) (block p))
    (within g.Simple (λ x. read (sees is_semicolon (build (t.simple p.spot x)))) (simple p)))

abbrev pub more_body : t.Stmts → Placed → Deeper g.Body
more_body a p =
    or_else (within g.Locals (λ ls. build (joined a (stmts_of ls))) (locals p))
    (within g.Stmt (λ n. build (joined a (t.next n t.done))) (stmt p))

-- Items.
abbrev pub param_typed : Spot → t.TypeName → Todo g.Param
param_typed at ty =
    try (named (λ x. build (record { spot = at; type_name = ty; name = Some x })))
    (build (record { spot = at; type_name = ty; name = None }))

abbrev pub param : Placed → Deeper g.Param
param p = within g.TypeName (param_typed p.spot) (type_name p)

abbrev pub params : Placed → Deeper g.Params
params p = within g.Param (λ a. build (a ∷ [])) (param p)

abbrev pub params_end_in : Word → Deeper g.ParamsEnd → Deeper g.ParamsEnd
params_end_in (mark m.CloseParenthesis) d = only (build [])
params_end_in (key Void) d = only (read (sees is_close (build [])))
params_end_in _ d = d

abbrev pub params_end : Placed → Deeper g.ParamsEnd
params_end p = params_end_in p.word (within g.Params (λ ps. read (sees is_close (build ps))) (params p))

abbrev pub body_end_in : Word → Deeper g.BodyEnd → Deeper g.BodyEnd
body_end_in (mark m.Semicolon) d = only (build None)
body_end_in _ d = d

abbrev pub body_end : Placed → Deeper g.BodyEnd
body_end p = body_end_in p.word (within g.Block (λ a. build (Some a)) (block p))

abbrev pub function_end_in : Word → Deeper g.FunctionEnd → Deeper g.FunctionEnd
function_end_in (key Deletes) d = only (enter g.BodyEnd (λ a. build (record { deletes = true; body = a })))
function_end_in _ d = d

abbrev pub function_end : Placed → Deeper g.FunctionEnd
function_end p = function_end_in p.word (within g.BodyEnd (λ a. build (record { deletes = false; body = a })) (body_end p))

abbrev pub function_of : Spot → Bool → Option t.TypeName → names.Name → List t.Param → FunctionEnding → TreeOf g.Item
function_of at true result x ps end = t.function at true result x ps end.body ∷ []
function_of at false result x ps end = t.function at end.deletes result x ps end.body ∷ []

abbrev pub function_params : Spot → Bool → Option t.TypeName → names.Name → Todo g.Item
function_params at deletes result x =
    enter g.ParamsEnd (λ ps. enter g.FunctionEnd (λ end. build (function_of at deletes result x ps end)))

abbrev pub function_named : Spot → Bool → Option t.TypeName → Todo g.Item
function_named at deletes result = read (named (λ x. read (sees is_open (function_params at deletes result x))))

-- the first declarator of globals, read up to its name
abbrev pub global_named : bases.Base → Spot → ℕ → List notes.Note → names.Name → Todo g.Item
global_named a at i ns x =
    resume at i g.Decs (λ ds. read (sees is_semicolon (build (map (global a) ds))))
    (resume at 0 g.Dec (λ d. build (d ∷ [])) (resume at 0 g.FieldDec initialised (field_named at ns x)))

abbrev pub item_named : Spot → bases.Base → ℕ → Spot → List notes.Note → names.Name → Todo g.Item
item_named at a i own ns x = try (sees is_open (function_params at false (Some (typed a ns)) x)) (global_named a own i ns x)

abbrev pub item_based : Spot → bases.Base → Todo g.Item
item_based at a = peek (λ i p. begin g.Stars [] (λ ns. read (named (item_named at a i p.spot ns))))

abbrev pub struct_fields : Spot → names.Name → Todo g.Item
struct_fields at x =
    enter g.Fields (λ fs. read (sees is_close_brace (read (sees is_semicolon (build (t.struct at x fs ∷ []))))))

abbrev pub struct_named : Spot → names.Name → Todo g.Item
struct_named at x = try (sees is_open_brace (struct_fields at x)) (item_based at (b.Struct at x))

abbrev pub item_deleting : Spot → Todo g.Item
item_deleting at =
    try (sees is_void (function_named at true None)) (enter g.TypeName (λ ty. function_named at true (Some ty)))

abbrev pub item_in : Spot → Word → Deeper g.Item → Deeper g.Item
item_in at (key Struct) d = only (read (named (struct_named at)))
item_in at (key Deletes) d = only (item_deleting at)
item_in at (key Void) d = only (function_named at false None)
item_in at _ d = d

abbrev pub item : Placed → Deeper g.Item
item p = item_in p.spot p.word (within g.Base (item_based p.spot) (base p))

-- What the first word of a symbol leads to.
abbrev pub first : (s : Symbol) → Placed → Deeper s
first g.Item p = item p
first g.Fields p = fields p
first g.Field p = a_field p
first g.FieldDecs p = field_decs p
first g.FieldDec p = field_dec p
first g.Decs p = decs p
first g.Dec p = dec p
first g.Constant p = only (constant_in p.spot p.word)
first g.Base p = base p
first g.TypeName p = type_name p
first g.ParamsEnd p = params_end p
first g.Params p = params p
first g.Param p = param p
first g.FunctionEnd p = function_end p
first g.BodyEnd p = body_end p
first g.Block p = block p
first g.Locals p = locals p
first g.LocalDecs p = local_decs p
first g.LocalDec p = local_dec p
first g.Stmt p = stmt p
first g.ForStart p = for_start p
first g.ExprEnd p = expr_end p
first g.SimpleEnd p = simple_end p
first g.Simple p = simple p
first (g.Level i) p = level p
first g.Arm p = arm p
first g.Unary p = unary p
first g.Arguments p = arguments p
first _ p = only stop

-- What the word behind a complete symbol, which began at the spot, leads to.
abbrev pub tail : (s : Symbol) → Spot → TreeOf s → Placed → Deeper s
tail g.Text at is p = within g.Item (λ js. build (is ++ js)) (item p)
tail g.Fields at fs p = within g.Field (λ hs. build (fs ++ hs)) (a_field p)
tail g.FieldDecs at ds p = only (sees is_comma (enter g.FieldDec (λ d. build (ds ++ d ∷ []))) p)
tail g.Decs at ds p = only (sees is_comma (enter g.Dec (λ d. build (ds ++ d ∷ []))) p)
tail g.Stars at ns p = more_stars ns p.word
tail g.Params at ps p = only (sees is_comma (enter g.Param (λ a. build (ps ++ a ∷ []))) p)
tail g.Body at a p = more_body a p
tail g.LocalDecs at ds p = only (sees is_comma (enter g.LocalDec (λ d. build (ds ++ d ∷ []))) p)
tail (g.Level i) at a p = only (behind at a p.word)
tail g.Unary at a p = only (postfix_in at a p.word)
tail g.Arguments at v p = only (sees is_comma (enter (g.Level 0) (λ e. build (with_last v e))) p)
tail _ at a p = only stop
