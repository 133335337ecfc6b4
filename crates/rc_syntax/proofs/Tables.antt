-- The productions, each with how it is read.
use Rattle.std.proofs.Common.{ℕ, ◌≡◌, ◌<◌, nat_le, List, [], ◌∷◌, ◌++◌, map, Option, Some, None, Bool, true, false, refl, ap, sym, ◌∙◌, subst, arith}
use Rattle.rc_syntax.specs.declared.word.Key.TheVariants.{Break, Char, Continue, Deletes, Do, Else, Eof, For, If, Int, Null, Ralloc, RarrayAlloc, Region, Return, Struct, Unsigned, Void, While}
use Rattle.rc_syntax.specs.declared.word.Mark as marks
use Rattle.rc_syntax.specs.declared.word.Mark.TheVariants as m
use Rattle.rc_syntax.specs.declared.tree.Spot.{Spot}
use Rattle.rc_syntax.specs.declared.tree.Name as names
use Rattle.rc_syntax.specs.declared.tree.Note as notes
use Rattle.rc_syntax.specs.declared.tree.Base as bases
use Rattle.rc_syntax.specs.declared.tree.Base.TheVariants as b
use Rattle.rc_syntax.specs.declared.tree.BinaryOp.{BinaryOp}
use Rattle.rc_syntax.specs.declared.tree.BinaryOp.TheVariants as ops
use Rattle.rc_syntax.specs.declared.tree.StepOp.{StepOp}
use Rattle.rc_syntax.specs.declared.tree.StepOp.TheVariants.{Increment, Decrement}
use Rattle.rc_syntax.specs.declared.tree.Constant.TheVariants as k
use Rattle.rc_syntax.specs.Tokens as w
use Rattle.rc_syntax.specs.Tokens.{Word, mark, key}
use Rattle.rc_syntax.specs.Tree as t
use Rattle.rc_syntax.specs.Grammar as g
use Rattle.rc_syntax.specs.Grammar.{Symbol, TreeOf, Placed, Part, word, node, Rule, typed, field, local, ends_open, FieldDeclarator, LocalDeclarator, FunctionEnding}
use Rattle.rc_syntax.specs.reader.Todo.{Todo, build, try, enter, resume, within, is_stop, refuses, when, sees, read}
use Rattle.rc_syntax.specs.reader.Reading as r
use Rattle.rc_syntax.specs.reader.Reading.{first, tail}
use Rattle.rc_syntax.specs.reader.Steps as reader
use Rattle.rc_syntax.specs.reader.Steps.{Stack, frame, State, about, amid, place, taken, offer, give, closed, step}
use Rattle.std.proofs.lemmas.Bool.Decides.{nat_tests}
use Rattle.rc_syntax.proofs.Fronts.{is}
use Rattle.rc_syntax.proofs.Operands.{op_level}
use Rattle.rc_syntax.proofs.Along.{Separates, comma, close, semicolon, AfterType, a_name, separates, AfterBase, a_star, a_type, separates_fields, After, operator, question, colon, bracket, ends, inner, equals, updates, steps}
use Rattle.rc_syntax.proofs.Shapes.{Shape, with_word, with_node, with_itself, skipped, first_placed}

abbrev pub generic : Symbol → Bool
generic g.Fields = true
generic g.Field = true
generic g.FieldDecs = true
generic g.Constant = true
generic g.Base = true
generic g.TypeName = true
generic g.ParamsEnd = true
generic g.Params = true
generic g.Param = true
generic g.FunctionEnd = true
generic g.BodyEnd = true
generic g.Block = true
generic g.Locals = true
generic g.LocalDecs = true
generic g.Stmt = true
generic g.ForStart = true
generic g.ExprEnd = true
generic g.SimpleEnd = true
generic g.Arm = true
generic g.Arguments = true
generic _ = false

-- A separator goes on with no declarator, type or expression.
sep_type : (y : Word) → Separates y → AfterBase y
sep_type y h = a_type (separates h)

base_quiet : (o : Spot) (c : bases.Base) (y : Word) → refuses (tail g.Base o c (is y o)) ≡ true
base_quiet o c y = refl

pub untrue : true ≡ false → ⊥
untrue e = cc

-- The words that a unary begins with,
pub data UnaryWord : Word → Type 0 where
  u_minus : UnaryWord (mark m.Minus)
  u_plus : UnaryWord (mark m.Plus)
  u_not : UnaryWord (mark m.Exclamation)
  u_complement : UnaryWord (mark m.Tilde)
  u_star : UnaryWord (mark m.Star)
  u_address : UnaryWord (mark m.Ampersand)
  u_open : UnaryWord (mark m.OpenParenthesis)
  u_number : {x : ℕ} {u : Bool} → UnaryWord (w.number x u)
  u_character : {x : ℕ} → UnaryWord (w.character x)
  u_string : {x : List ℕ} → UnaryWord (w.string x)
  u_name : {x : List ℕ} → UnaryWord (w.name x)
  u_null : UnaryWord (key Null)
  u_eof : UnaryWord (key Eof)
  u_ralloc : UnaryWord (key Ralloc)
  u_rarrayalloc : UnaryWord (key RarrayAlloc)

pub unary_word : (o : Spot) (y : Word) → is_stop (r.unary_in o y) ≡ false → UnaryWord y
unary_word o (mark m.Minus) e = u_minus
unary_word o (mark m.Plus) e = u_plus
unary_word o (mark m.Exclamation) e = u_not
unary_word o (mark m.Tilde) e = u_complement
unary_word o (mark m.Star) e = u_star
unary_word o (mark m.Ampersand) e = u_address
unary_word o (mark m.OpenParenthesis) e = u_open
unary_word o (w.number x u) e = u_number
unary_word o (w.character x) e = u_character
unary_word o (w.string x) e = u_string
unary_word o (w.name x) e = u_name
unary_word o (key Null) e = u_null
unary_word o (key Eof) e = u_eof
unary_word o (key Ralloc) e = u_ralloc
unary_word o (key RarrayAlloc) e = u_rarrayalloc
unary_word o y e = absurd (untrue e)

-- a simple statement,
pub data SimpleWord : Word → Type 0 where
  unary : {y : Word} → UnaryWord y → SimpleWord y
  plus_plus : SimpleWord (mark m.PlusPlus)
  minus_minus : SimpleWord (mark m.MinusMinus)

pub simple_word : (o : Spot) (y : Word) → refuses (first g.Simple (is y o)) ≡ false → SimpleWord y
simple_word o (mark m.PlusPlus) e = plus_plus
simple_word o (mark m.MinusMinus) e = minus_minus
simple_word o y e = unary (unary_word o y e)

-- and a base.
pub data BaseWord : Word → Type 0 where
  w_int : BaseWord (key Int)
  w_unsigned : BaseWord (key Unsigned)
  w_char : BaseWord (key Char)
  w_region : BaseWord (key Region)
  w_struct : BaseWord (key Struct)

pub base_word : (o : Spot) (y : Word) → is_stop (r.base_in o y) ≡ false → BaseWord y
base_word o (key Int) e = w_int
base_word o (key Unsigned) e = w_unsigned
base_word o (key Char) e = w_char
base_word o (key Region) e = w_region
base_word o (key Struct) e = w_struct
base_word o y e = absurd (untrue e)

-- What separates goes on with nothing.
pub quiet_unary : (o : Spot) (c : t.Expr) (y : Word) → Separates y → is_stop (r.postfix_in o c y) ≡ true
quiet_unary o c _ comma = refl
quiet_unary o c _ close = refl
quiet_unary o c _ semicolon = refl

quiet_unary_sep : (o : Spot) (c : t.Expr) (p : Placed) → Separates p.word → (q : Spot) → refuses (tail g.Unary q c p) ≡ true
quiet_unary_sep o c p f q = quiet_unary q c p.word f

pub quiet_level : (i : ℕ) (o : Spot) (c : t.Expr) (y : Word) → Separates y → is_stop (r.behind {i = i} o c y) ≡ true
quiet_level i o c _ comma = refl
quiet_level i o c _ close = refl
quiet_level i o c _ semicolon = refl

-- What follows a node of a level goes on with none of a higher one.
pub binary_mark : (op : BinaryOp) → r.binary_of (mark (g.mark_of op)) ≡ Some op
binary_mark ops.LogicalOr = refl
binary_mark ops.LogicalAnd = refl
binary_mark ops.BitOr = refl
binary_mark ops.BitXor = refl
binary_mark ops.BitAnd = refl
binary_mark ops.Equal = refl
binary_mark ops.NotEqual = refl
binary_mark ops.Less = refl
binary_mark ops.Greater = refl
binary_mark ops.LessEqual = refl
binary_mark ops.GreaterEqual = refl
binary_mark ops.ShiftLeft = refl
binary_mark ops.ShiftRight = refl
binary_mark ops.Add = refl
binary_mark ops.Subtract = refl
binary_mark ops.Multiply = refl
binary_mark ops.Divide = refl
binary_mark ops.Remainder = refl

pub when_false : {s : Symbol} (v : Bool) (td : Todo s) → v ≡ false → is_stop (when v td) ≡ true
when_false true td e = absurd (untrue e)
when_false false td e = refl

pub quiet_after : (i j : ℕ) (o : Spot) (c : t.Expr) (y : Word) → i < j → After i y → is_stop (r.behind {i = j} o c y) ≡ true
quiet_after i j o c _ h (operator op l) =
    ap (λ x. is_stop (r.operated {i = j} o c (mark (g.mark_of op)) x)) (binary_mark op) ∙ when_false (nat_le j (g.level_of op)) (r.beside {i = j} o c op) (grind (arith, nat_tests))
quiet_after i j o c _ h (question l) = when_false (nat_le j 0) (r.chosen {i = j} o c) (grind (arith, nat_tests))
quiet_after i j o c _ h colon = refl
quiet_after i j o c _ h bracket = refl
quiet_after i j o c _ h (ends f) = quiet_level j o c _ f

-- Behind an arm nothing goes on with its level.
pub quiet_zero : (o : Spot) (c : t.Expr) (y : Word) → After 0 y → is_stop (r.behind {i = 0} o c y) ≡ true
quiet_zero o c _ (operator op l) = let h = op_level op in absurd (omega arith)
quiet_zero o c _ (question l) = absurd (omega arith)
quiet_zero o c _ colon = refl
quiet_zero o c _ bracket = refl
quiet_zero o c _ (ends f) = quiet_level 0 o c _ f

-- Statements.
pub the_empty : Shape false g.Stmt (λ o. t.empty o) (g.sign m.Semicolon ∷ [])
the_empty = with_word (λ o. build (t.empty o)) (λ o root k. refl) (λ o. (λ p f. (tt, λ root n k. refl), λ root n k. refl))

pub the_break : Shape false g.Stmt (λ o. t.break_loop o) (g.keyword Break ∷ g.sign m.Semicolon ∷ [])
the_break = with_word (λ o. read (sees r.is_semicolon (build (t.break_loop o)))) (λ o root k. refl) (λ o. λ q. (tt, (_, λ root n k. refl, (λ p f. (tt, λ root n k. refl), λ root n k. refl))))

if_quits : (o : Spot) (e : t.Expr) (a : t.Stmt) (p : Placed) → (r.is_else p.word ≡ true → true ≡ false) → is_stop (sees r.is_else (enter g.Stmt (λ n. build {s = g.Stmt} (t.if_else o e a n))) p) ≡ true
if_quits o e a p f = go (r.is_else p.word) refl
  where
    go : (v : Bool) → r.is_else p.word ≡ v → is_stop (when v (enter g.Stmt (λ n. build {s = g.Stmt} (t.if_else o e a n)))) ≡ true
    go false h = refl
    go true h = absurd (untrue (f h))

pub the_if : (e : t.Expr) (a : t.Stmt) → Shape false g.Stmt (λ o. t.if_then o e a) (g.keyword If ∷ g.sign m.OpenParenthesis ∷ node (g.Level 0) e ∷ g.sign m.CloseParenthesis ∷ node g.Stmt a ∷ [])
the_if e a = with_word (λ o. r.tested (r.if_done o)) (λ o root k. refl) (λ o.
    λ q. (
      tt,
      (
        _,
        λ root n k. refl,
        (
          _,
          (λ p e root n k. refl),
          (λ p e. tt),
          λ q. (
            (ends close, λ o. refl),
            (
              _,
              λ root n k. refl,
              (
                _,
                (λ p e root n k. refl),
                (λ p e. tt),
                (
                  λ p f. ((λ h. absurd (untrue (f h)), λ o. refl), λ root n k. skipped (sees r.is_else (enter g.Stmt (λ n. build (t.if_else o e a n)))) (build (t.if_then o e a)) o n k p (if_quits o e a p f)),
                  λ root n k. refl,
                ),
              ),
            ),
          ),
        ),
      ),
    ))

pub the_if_else : (e : t.Expr) (a n : t.Stmt) → ends_open a ≡ false → Shape false g.Stmt (λ o. t.if_else o e a n) (g.keyword If ∷ g.sign m.OpenParenthesis ∷ node (g.Level 0) e ∷ g.sign m.CloseParenthesis ∷ node g.Stmt a ∷ g.keyword Else ∷ node g.Stmt n ∷ [])
the_if_else e a n shut = with_word (λ o. r.tested (r.if_done o)) (λ o root k. refl) (λ o.
    λ q. (
      tt,
      (
        _,
        λ root n k. refl,
        (
          _,
          (λ p e root n k. refl),
          (λ p e. tt),
          λ q. (
            (ends close, λ o. refl),
            (
              _,
              λ root n k. refl,
              (
                _,
                (λ p e root n k. refl),
                (λ p e. tt),
                λ q. (
                  (λ h. shut, λ o. refl),
                  (
                    _,
                    λ root n k. refl,
                    (
                      _,
                      (λ p e root n k. refl),
                      (λ p e. tt),
                      (λ p f. ((f, λ o. refl), λ root n k. refl), λ root n k. refl),
                    ),
                  ),
                ),
              ),
            ),
          ),
        ),
      ),
    ))

pub the_while : (e : t.Expr) (a : t.Stmt) → Shape false g.Stmt (λ o. t.while_do o e a) (g.keyword While ∷ g.sign m.OpenParenthesis ∷ node (g.Level 0) e ∷ g.sign m.CloseParenthesis ∷ node g.Stmt a ∷ [])
the_while e a = with_word (λ o. r.tested (λ e a. build (t.while_do o e a))) (λ o root k. refl) (λ o.
    λ q. (
      tt,
      (
        _,
        λ root n k. refl,
        (
          _,
          (λ p e root n k. refl),
          (λ p e. tt),
          λ q. (
            (ends close, λ o. refl),
            (
              _,
              λ root n k. refl,
              (
                _,
                (λ p e root n k. refl),
                (λ p e. tt),
                (λ p f. ((f, λ o. refl), λ root n k. refl), λ root n k. refl),
              ),
            ),
          ),
        ),
      ),
    ))

pub the_do : (a : t.Stmt) (e : t.Expr) → Shape false g.Stmt (λ o. t.do_while o a e) (g.keyword Do ∷ node g.Stmt a ∷ g.keyword While ∷ g.sign m.OpenParenthesis ∷ node (g.Level 0) e ∷ g.sign m.CloseParenthesis ∷ g.sign m.Semicolon ∷ [])
the_do a e = with_word (λ o. enter g.Stmt (r.until o)) (λ o root k. refl) (λ o. (
  _,
  (λ p e root n k. refl),
  (λ p e. tt),
  λ q. (
    (λ h. absurd (untrue (sym h)), λ o. refl),
    (
      _,
      λ root n k. refl,
      λ q. (
        tt,
        (
          _,
          λ root n k. refl,
          (
            _,
            (λ p e root n k. refl),
            (λ p e. tt),
            λ q. ((ends close, λ o. refl), (_, λ root n k. refl, λ q. (tt, (_, λ root n k. refl, (λ p f. (tt, λ root n k. refl), λ root n k. refl))))),
          ),
        ),
      ),
    ),
  ),
))

pub the_for : (start : t.ForStart) (e : Option t.Expr) (x : Option t.Simple) (a : t.Stmt) → Shape false g.Stmt (λ o. t.for_do o start e x a) (g.keyword For ∷ g.sign m.OpenParenthesis ∷ node g.ForStart start ∷ node g.ExprEnd e ∷ node g.SimpleEnd x ∷ node g.Stmt a ∷ [])
the_for start e x a = with_word (λ o. read (sees r.is_open (r.for_head o))) (λ o root k. refl) (λ o.
    λ q. (
      tt,
      (
        _,
        λ root n k. refl,
        (
          _,
          (λ p e root n k. refl),
          (λ p e. tt),
          (
            _,
            (λ p e root n k. refl),
            (λ p e. (tt, λ o. refl)),
            (
              _,
              (λ p e root n k. refl),
              (λ p e. (tt, λ o. refl)),
              (
                _,
                (λ p e root n k. refl),
                (λ p e. (tt, λ o. refl)),
                (λ p f. ((f, λ o. refl), λ root n k. refl), λ root n k. refl),
              ),
            ),
          ),
        ),
      ),
    ))

pub the_continue : Shape false g.Stmt (λ o. t.continue_loop o) (g.keyword Continue ∷ g.sign m.Semicolon ∷ [])
the_continue = with_word (λ o. read (sees r.is_semicolon (build (t.continue_loop o)))) (λ o root k. refl) (λ o. λ q. (tt, (_, λ root n k. refl, (λ p f. (tt, λ root n k. refl), λ root n k. refl))))

pub the_return : (e : Option t.Expr) → Shape false g.Stmt (λ o. t.return_with o e) (g.keyword Return ∷ node g.ExprEnd e ∷ [])
the_return e = with_word (λ o. enter g.ExprEnd (λ e. build (t.return_with o e))) (λ o root k. refl) (λ o. (
  _,
  (λ p e root n k. refl),
  (λ p e. tt),
  (λ p f. ((tt, λ o. refl), λ root n k. refl), λ root n k. refl),
))

begins_block : (o : Spot) (y : Word) → refuses (first g.Block (is y o)) ≡ false → (root : Symbol) (k : Stack root g.Stmt) → step (about k) (is y o) ≡ place (is y o) (first g.Block (is y o)) o 0 (frame o 0 (λ a. build (t.block o a)) k)
begins_block o (mark m.OpenBrace) e root k = refl
begins_block o y e root k = absurd (untrue e)

pub the_block_stmt : (a : t.Stmts) → Shape false g.Stmt (λ o. t.block o a) (node g.Block a ∷ [])
the_block_stmt a = with_node (λ o a. build (t.block o a)) refl (λ xs d. d) (λ xs d r b. b) (λ p e. begins_block p.spot p.word e) (λ o. (λ p f. ((tt, λ o. refl), λ root n k. refl), λ root n k. refl))

begins_simple : (o : Spot) (y : Word) → SimpleWord y → (root : Symbol) (k : Stack root g.Stmt) → step (about k) (is y o) ≡ place (is y o) (first g.Simple (is y o)) o 0 (frame o 0 (λ x. read (sees r.is_semicolon (build (t.simple o x)))) k)
begins_simple o _ (unary u_minus) root k = refl
begins_simple o _ (unary u_plus) root k = refl
begins_simple o _ (unary u_not) root k = refl
begins_simple o _ (unary u_complement) root k = refl
begins_simple o _ (unary u_star) root k = refl
begins_simple o _ (unary u_address) root k = refl
begins_simple o _ (unary u_open) root k = refl
begins_simple o _ (unary u_number) root k = refl
begins_simple o _ (unary u_character) root k = refl
begins_simple o _ (unary u_string) root k = refl
begins_simple o _ (unary u_name) root k = refl
begins_simple o _ (unary u_null) root k = refl
begins_simple o _ (unary u_eof) root k = refl
begins_simple o _ (unary u_ralloc) root k = refl
begins_simple o _ (unary u_rarrayalloc) root k = refl
begins_simple o _ plus_plus root k = refl
begins_simple o _ minus_minus root k = refl

pub the_simple : (x : t.Simple) → Shape false g.Stmt (λ o. t.simple o x) (node g.Simple x ∷ g.sign m.Semicolon ∷ [])
the_simple x = with_node (λ o x. read (sees r.is_semicolon (build (t.simple o x)))) refl (λ xs d. d) (λ xs d r b. b) (λ p e. begins_simple p.spot p.word (simple_word p.spot p.word e))
    (λ o. λ q. ((semicolon, λ o. refl), (_, λ root n k. refl, (λ p f. (tt, λ root n k. refl), λ root n k. refl))))

-- The parts of a `for`.
begins_start : (o : Spot) (y : Word) → BaseWord y → (root : Symbol) (k : Stack root g.ForStart) → step (about k) (is y o) ≡ place (is y o) (first g.Locals (is y o)) o 0 (frame o 0 (λ ls. build (t.locals ls)) k)
begins_start o _ w_int root k = refl
begins_start o _ w_unsigned root k = refl
begins_start o _ w_char root k = refl
begins_start o _ w_region root k = refl
begins_start o _ w_struct root k = refl

pub starts_local : (ls : List t.Local) → Shape false g.ForStart (λ o. t.locals ls) (node g.Locals ls ∷ [])
starts_local ls = with_node (λ o ls. build (t.locals ls)) refl (λ xs d. d) (λ xs d r b. b) (λ p e. begins_start p.spot p.word (base_word p.spot p.word e)) (λ o. (λ p f. ((tt, λ o. refl), λ root n k. refl), λ root n k. refl))

begins_start_simple : (o : Spot) (y : Word) → SimpleWord y → (root : Symbol) (k : Stack root g.ForStart) → step (about k) (is y o) ≡ place (is y o) (first g.Simple (is y o)) o 0 (frame o 0 (λ x. read (sees r.is_semicolon (build (t.simply x)))) k)
begins_start_simple o _ (unary u_minus) root k = refl
begins_start_simple o _ (unary u_plus) root k = refl
begins_start_simple o _ (unary u_not) root k = refl
begins_start_simple o _ (unary u_complement) root k = refl
begins_start_simple o _ (unary u_star) root k = refl
begins_start_simple o _ (unary u_address) root k = refl
begins_start_simple o _ (unary u_open) root k = refl
begins_start_simple o _ (unary u_number) root k = refl
begins_start_simple o _ (unary u_character) root k = refl
begins_start_simple o _ (unary u_string) root k = refl
begins_start_simple o _ (unary u_name) root k = refl
begins_start_simple o _ (unary u_null) root k = refl
begins_start_simple o _ (unary u_eof) root k = refl
begins_start_simple o _ (unary u_ralloc) root k = refl
begins_start_simple o _ (unary u_rarrayalloc) root k = refl
begins_start_simple o _ plus_plus root k = refl
begins_start_simple o _ minus_minus root k = refl

pub starts_simple : (x : t.Simple) → Shape false g.ForStart (λ o. t.simply x) (node g.Simple x ∷ g.sign m.Semicolon ∷ [])
starts_simple x = with_node (λ o x. read (sees r.is_semicolon (build (t.simply x)))) refl (λ xs d. d) (λ xs d r b. b) (λ p e. begins_start_simple p.spot p.word (simple_word p.spot p.word e))
    (λ o. λ q. ((semicolon, λ o. refl), (_, λ root n k. refl, (λ p f. (tt, λ root n k. refl), λ root n k. refl))))

pub starts_nothing : Shape false g.ForStart (λ o. t.nothing) (g.sign m.Semicolon ∷ [])
starts_nothing = with_word (λ o. build t.nothing) (λ o root k. refl) (λ o. (λ p f. (tt, λ root n k. refl), λ root n k. refl))

pub no_expr : Shape false g.ExprEnd (λ o. None) (g.sign m.Semicolon ∷ [])
no_expr = with_word (λ o. build None) (λ o root k. refl) (λ o. (λ p f. (tt, λ root n k. refl), λ root n k. refl))

begins_expr : (o : Spot) (y : Word) → UnaryWord y → (root : Symbol) (k : Stack root g.ExprEnd) → step (about k) (is y o) ≡ place (is y o) (first (g.Level 0) (is y o)) o 0 (frame o 0 (λ e. read (sees r.is_semicolon (build (Some e)))) k)
begins_expr o _ u_minus root k = refl
begins_expr o _ u_plus root k = refl
begins_expr o _ u_not root k = refl
begins_expr o _ u_complement root k = refl
begins_expr o _ u_star root k = refl
begins_expr o _ u_address root k = refl
begins_expr o _ u_open root k = refl
begins_expr o _ u_number root k = refl
begins_expr o _ u_character root k = refl
begins_expr o _ u_string root k = refl
begins_expr o _ u_name root k = refl
begins_expr o _ u_null root k = refl
begins_expr o _ u_eof root k = refl
begins_expr o _ u_ralloc root k = refl
begins_expr o _ u_rarrayalloc root k = refl

pub an_expr : (e : t.Expr) → Shape false g.ExprEnd (λ o. Some e) (node (g.Level 0) e ∷ g.sign m.Semicolon ∷ [])
an_expr e = with_node (λ o e. read (sees r.is_semicolon (build (Some e)))) refl (λ xs d. d) (λ xs d r b. b) (λ p e. begins_expr p.spot p.word (unary_word p.spot p.word e))
    (λ o. λ q. ((ends semicolon, λ o. refl), (_, λ root n k. refl, (λ p f. (tt, λ root n k. refl), λ root n k. refl))))

pub no_simple : Shape false g.SimpleEnd (λ o. None) (g.sign m.CloseParenthesis ∷ [])
no_simple = with_word (λ o. build None) (λ o root k. refl) (λ o. (λ p f. (tt, λ root n k. refl), λ root n k. refl))

begins_end : (o : Spot) (y : Word) → SimpleWord y → (root : Symbol) (k : Stack root g.SimpleEnd) → step (about k) (is y o) ≡ place (is y o) (first g.Simple (is y o)) o 0 (frame o 0 (λ x. read (sees r.is_close (build (Some x)))) k)
begins_end o _ (unary u_minus) root k = refl
begins_end o _ (unary u_plus) root k = refl
begins_end o _ (unary u_not) root k = refl
begins_end o _ (unary u_complement) root k = refl
begins_end o _ (unary u_star) root k = refl
begins_end o _ (unary u_address) root k = refl
begins_end o _ (unary u_open) root k = refl
begins_end o _ (unary u_number) root k = refl
begins_end o _ (unary u_character) root k = refl
begins_end o _ (unary u_string) root k = refl
begins_end o _ (unary u_name) root k = refl
begins_end o _ (unary u_null) root k = refl
begins_end o _ (unary u_eof) root k = refl
begins_end o _ (unary u_ralloc) root k = refl
begins_end o _ (unary u_rarrayalloc) root k = refl
begins_end o _ plus_plus root k = refl
begins_end o _ minus_minus root k = refl

pub some_simple : (x : t.Simple) → Shape false g.SimpleEnd (λ o. Some x) (node g.Simple x ∷ g.sign m.CloseParenthesis ∷ [])
some_simple x = with_node (λ o x. read (sees r.is_close (build (Some x)))) refl (λ xs d. d) (λ xs d r b. b) (λ p e. begins_end p.spot p.word (simple_word p.spot p.word e))
    (λ o. λ q. ((close, λ o. refl), (_, λ root n k. refl, (λ p f. (tt, λ root n k. refl), λ root n k. refl))))

-- Simple statements.
pub stepped : (op : StepOp) (l : t.Expr) → Shape false g.Simple (λ o. t.step_before o op l) (g.sign (g.step_of op) ∷ node g.Unary l ∷ [])
stepped Increment l = with_word (λ o. r.stepped o Increment) (λ o root k. refl) (λ o. (_, (λ p e root n k. refl), (λ p e. tt), (λ p f. ((inner (ends f), quiet_unary_sep o l p f), λ root n k. refl), λ root n k. refl)))
stepped Decrement l = with_word (λ o. r.stepped o Decrement) (λ o root k. refl) (λ o. (_, (λ p e root n k. refl), (λ p e. tt), (λ p f. ((inner (ends f), quiet_unary_sep o l p f), λ root n k. refl), λ root n k. refl)))

pub begins_left : (o : Spot) (y : Word) → UnaryWord y → (root : Symbol) (k : Stack root g.Simple) → step (about k) (is y o) ≡ place (is y o) (first g.Unary (is y o)) o 0 (frame o 0 (r.left_side o) k)
begins_left o _ u_minus root k = refl
begins_left o _ u_plus root k = refl
begins_left o _ u_not root k = refl
begins_left o _ u_complement root k = refl
begins_left o _ u_star root k = refl
begins_left o _ u_address root k = refl
begins_left o _ u_open root k = refl
begins_left o _ u_number root k = refl
begins_left o _ u_character root k = refl
begins_left o _ u_string root k = refl
begins_left o _ u_name root k = refl
begins_left o _ u_null root k = refl
begins_left o _ u_eof root k = refl
begins_left o _ u_ralloc root k = refl
begins_left o _ u_rarrayalloc root k = refl

pub assigned : (l e : t.Expr) → Shape false g.Simple (λ o. t.assign o l e) (node g.Unary l ∷ g.sign m.Equal ∷ node (g.Level 0) e ∷ [])
assigned l e = with_node r.left_side refl (λ xs d. d) (λ xs d r b. b) (λ p e. begins_left p.spot p.word (unary_word p.spot p.word e))
    (λ o. λ q. ((equals, λ o. refl), (_, λ root n k. refl, (_, (λ p e root n k. refl), (λ p e. tt), (λ p f. ((ends f, λ o. quiet_level 0 o e p.word f), λ root n k. refl), λ root n k. refl)))))

updates_along : (i : Spot) (l : t.Expr) (op : BinaryOp) (y x : marks.Mark) → y ≡ x → (r.assigned i l (mark y) ≡ r.updated i l op) × ((o : Spot) → is_stop (r.postfix_in o l (mark y)) ≡ true) → (r.assigned i l (mark x) ≡ r.updated i l op) × ((o : Spot) → is_stop (r.postfix_in o l (mark x)) ≡ true)
updates_along i l op y x e h = let P : marks.Mark → Type 0 = λ z. (r.assigned i l (mark z) ≡ r.updated i l op) × ((o : Spot) → is_stop (r.postfix_in o l (mark z)) ≡ true) in subst P e h

pub update_is : (i : Spot) (l : t.Expr) (op : BinaryOp) (x : marks.Mark) → g.update_of op ≡ Some x → (r.assigned i l (mark x) ≡ r.updated i l op) × ((o : Spot) → is_stop (r.postfix_in o l (mark x)) ≡ true)
update_is i l ops.BitOr x e = let h : m.BarEqual ≡ x = cc in updates_along i l ops.BitOr m.BarEqual x h (refl, λ o. refl)
update_is i l ops.BitXor x e = let h : m.CaretEqual ≡ x = cc in updates_along i l ops.BitXor m.CaretEqual x h (refl, λ o. refl)
update_is i l ops.BitAnd x e = let h : m.AmpersandEqual ≡ x = cc in updates_along i l ops.BitAnd m.AmpersandEqual x h (refl, λ o. refl)
update_is i l ops.ShiftLeft x e = let h : m.ShiftLeftEqual ≡ x = cc in updates_along i l ops.ShiftLeft m.ShiftLeftEqual x h (refl, λ o. refl)
update_is i l ops.ShiftRight x e = let h : m.ShiftRightEqual ≡ x = cc in updates_along i l ops.ShiftRight m.ShiftRightEqual x h (refl, λ o. refl)
update_is i l ops.Add x e = let h : m.PlusEqual ≡ x = cc in updates_along i l ops.Add m.PlusEqual x h (refl, λ o. refl)
update_is i l ops.Subtract x e = let h : m.MinusEqual ≡ x = cc in updates_along i l ops.Subtract m.MinusEqual x h (refl, λ o. refl)
update_is i l ops.Multiply x e = let h : m.StarEqual ≡ x = cc in updates_along i l ops.Multiply m.StarEqual x h (refl, λ o. refl)
update_is i l ops.Divide x e = let h : m.SlashEqual ≡ x = cc in updates_along i l ops.Divide m.SlashEqual x h (refl, λ o. refl)
update_is i l ops.Remainder x e = let h : m.PercentEqual ≡ x = cc in updates_along i l ops.Remainder m.PercentEqual x h (refl, λ o. refl)
update_is i l op x e = absurd (cc)

pub updated : (op : BinaryOp) (x : marks.Mark) (l e : t.Expr) → g.update_of op ≡ Some x → Shape false g.Simple (λ o. t.update o op l e) (node g.Unary l ∷ g.sign x ∷ node (g.Level 0) e ∷ [])
updated op x l e u = with_node r.left_side refl (λ xs d. d) (λ xs d r b. b) (λ p e. begins_left p.spot p.word (unary_word p.spot p.word e))
    (λ o. λ q. (
      (updates op u, (update_is o l op x u).1),
      (
        r.updated o l op,
        (λ root n k. ap (λ td. reader.first_of (taken td o n k) (offer (is (mark x) q) (resume o 0 (g.Level 0) r.evaluated (build l)) o n k (closed (is (mark x) q) o n k))) (update_is o l op x u).0),
        (
          _,
          (λ p e root n k. refl),
          (λ p e. tt),
          (λ p f. ((ends f, λ o. quiet_level 0 o e p.word f), λ root n k. refl), λ root n k. refl),
        ),
      ),
    ))

pub after_left : (op : StepOp) (l : t.Expr) → Shape false g.Simple (λ o. t.step_after o op l) (node g.Unary l ∷ g.sign (g.step_of op) ∷ [])
after_left Increment l = with_node r.left_side refl (λ xs d. d) (λ xs d r b. b) (λ p e. begins_left p.spot p.word (unary_word p.spot p.word e)) (λ o. λ q. ((steps Increment, λ o. refl), (_, λ root n k. refl, (λ p f. (tt, λ root n k. refl), λ root n k. refl))))
after_left Decrement l = with_node r.left_side refl (λ xs d. d) (λ xs d r b. b) (λ p e. begins_left p.spot p.word (unary_word p.spot p.word e)) (λ o. λ q. ((steps Decrement, λ o. refl), (_, λ root n k. refl, (λ p f. (tt, λ root n k. refl), λ root n k. refl))))

-- Expressions.
pub the_arm : (e : t.Expr) → Shape false g.Arm (λ o. e) (node (g.Level 0) e ∷ [])
the_arm e = with_node (λ o. build) refl (λ xs d. d) (λ xs d r b. b) (λ p e root k. refl) (λ o. (λ p f. ((f, λ o. quiet_zero o e p.word f), λ root n k. refl), λ root n k. refl))

pub one_argument : (e : t.Expr) → Shape false g.Arguments (λ o. t.more e t.none) (node (g.Level 0) e ∷ [])
one_argument e = with_node (λ o e. build (t.more e t.none)) refl (λ xs d. d) (λ xs d r b. b) (λ p e root k. refl) (λ o. (λ p f. ((ends f, λ o. quiet_level 0 o e p.word f), λ root n k. refl), λ root n k. refl))

pub another_argument : (v : t.Exprs) (e : t.Expr) → Shape false g.Arguments (λ o. g.with_last v e) (node g.Arguments v ∷ g.sign m.Comma ∷ node (g.Level 0) e ∷ [])
another_argument v e = with_itself refl (λ xs d. d) (λ xs d r b. b) refl (λ l r. refl)
    (λ o. λ q. (comma, (_, λ root n k. refl, (_, (λ p e root n k. refl), (λ p e. tt), (λ p f. ((ends f, λ o. quiet_level 0 o e p.word f), λ root n k. refl), λ root n k. refl)))))

-- Types.
pub quiet_stars : (ns : List notes.Note) (y : Word) → AfterType y → refuses (r.more_stars ns y) ≡ true
quiet_stars ns _ a_name = refl
quiet_stars ns _ (separates comma) = refl
quiet_stars ns _ (separates close) = refl
quiet_stars ns _ (separates semicolon) = refl

pub the_type : (a : bases.Base) (ns : List notes.Note) → Shape false g.TypeName (λ o. typed a ns) (node g.Base a ∷ node g.Stars ns ∷ [])
the_type a ns = with_node (λ o. r.with_stars) refl (λ xs d. d) (λ xs d r b. b) (λ p e root k. refl)
    (λ o. (_, refl, (λ p f. (f, λ o. refl)), (λ p f. ((a_type f, λ o. quiet_stars ns p.word f), λ root n k. refl), λ root n k. refl)))

not_int_at : (o : Spot) (y : Word) → AfterBase y → is_stop (when (r.is_int y) (build {s = g.Base} (b.Unsigned o))) ≡ true
not_int_at o _ a_star = refl
not_int_at o _ (a_type a_name) = refl
not_int_at o _ (a_type (separates comma)) = refl
not_int_at o _ (a_type (separates close)) = refl
not_int_at o _ (a_type (separates semicolon)) = refl

pub base_int : Shape false g.Base (λ o. b.Int o) (g.keyword Int ∷ [])
base_int = with_word (λ o. build (b.Int o)) (λ o root k. refl) (λ o. (λ p f. (tt, λ root n k. refl), λ root n k. refl))

pub base_char : Shape false g.Base (λ o. b.Char o) (g.keyword Char ∷ [])
base_char = with_word (λ o. build (b.Char o)) (λ o root k. refl) (λ o. (λ p f. (tt, λ root n k. refl), λ root n k. refl))

pub base_region : Shape false g.Base (λ o. b.Region o) (g.keyword Region ∷ [])
base_region = with_word (λ o. build (b.Region o)) (λ o root k. refl) (λ o. (λ p f. (tt, λ root n k. refl), λ root n k. refl))

pub base_unsigned : Shape false g.Base (λ o. b.Unsigned o) (g.keyword Unsigned ∷ [])
base_unsigned = with_word (λ o. try (sees r.is_int (build (b.Unsigned o))) (build (b.Unsigned o))) (λ o root k. refl)
    (λ o. (λ p f. (tt, λ root n k. skipped (sees r.is_int (build (b.Unsigned o))) (build (b.Unsigned o)) o n k p (not_int_at o p.word f)), λ root n k. refl))

pub base_unsigned_int : Shape false g.Base (λ o. b.Unsigned o) (g.keyword Unsigned ∷ g.keyword Int ∷ [])
base_unsigned_int = with_word (λ o. try (sees r.is_int (build (b.Unsigned o))) (build (b.Unsigned o))) (λ o root k. refl) (λ o. λ q. (tt, (_, λ root n k. refl, (λ p f. (tt, λ root n k. refl), λ root n k. refl))))

pub base_struct : (x : names.Name) → Shape false g.Base (λ o. b.Struct o x) (g.keyword Struct ∷ node g.Name x ∷ [])
base_struct x = with_word (λ o. read (r.named (λ x. build (b.Struct o x)))) (λ o root k. refl) (λ o. ((λ x. build (b.Struct o x)), (λ q y. (tt, λ root n k. refl)), (λ p f. (tt, λ root n k. refl), λ root n k. refl)))

-- Constants.
pub const_number : (n : ℕ) (u : Bool) → Shape false g.Constant (λ o. k.Number o n u) (word (w.number n u) ∷ [])
const_number n u = with_word (λ o. build (k.Number o n u)) (λ o root k. refl) (λ o. (λ p f. (tt, λ root n k. refl), λ root n k. refl))

pub const_negative : (n : ℕ) (u : Bool) → Shape false g.Constant (λ o. k.Negative o n u) (g.sign m.Minus ∷ word (w.number n u) ∷ [])
const_negative n u = with_word (λ o. read (r.numbered (λ n u. build (k.Negative o n u)))) (λ o root k. refl) (λ o. λ q. (tt, (_, λ root n k. refl, (λ p f. (tt, λ root n k. refl), λ root n k. refl))))

pub const_code : (n : ℕ) → Shape false g.Constant (λ o. k.Character o n) (word (w.character n) ∷ [])
const_code n = with_word (λ o. build (k.Character o n)) (λ o root k. refl) (λ o. (λ p f. (tt, λ root n k. refl), λ root n k. refl))

pub const_null : Shape false g.Constant (λ o. k.Null o) (g.keyword Null ∷ [])
const_null = with_word (λ o. build (k.Null o)) (λ o root k. refl) (λ o. (λ p f. (tt, λ root n k. refl), λ root n k. refl))

pub const_eof : Shape false g.Constant (λ o. k.Eof o) (g.keyword Eof ∷ [])
const_eof = with_word (λ o. build (k.Eof o)) (λ o root k. refl) (λ o. (λ p f. (tt, λ root n k. refl), λ root n k. refl))

-- Functions.
pub params_none : Shape false g.ParamsEnd (λ o. []) (g.sign m.CloseParenthesis ∷ [])
params_none = with_word (λ o. build []) (λ o root k. refl) (λ o. (λ p f. (tt, λ root n k. refl), λ root n k. refl))

pub params_void : Shape false g.ParamsEnd (λ o. []) (g.keyword Void ∷ g.sign m.CloseParenthesis ∷ [])
params_void = with_word (λ o. read (sees r.is_close (build []))) (λ o root k. refl) (λ o. λ q. (tt, (_, λ root n k. refl, (λ p f. (tt, λ root n k. refl), λ root n k. refl))))

begins_params : (o : Spot) (y : Word) → BaseWord y → (root : Symbol) (k : Stack root g.ParamsEnd) → step (about k) (is y o) ≡ place (is y o) (first g.Params (is y o)) o 0 (frame o 0 (λ ps. read (sees r.is_close (build ps))) k)
begins_params o _ w_int root k = refl
begins_params o _ w_unsigned root k = refl
begins_params o _ w_char root k = refl
begins_params o _ w_region root k = refl
begins_params o _ w_struct root k = refl

pub params_some : (ps : List t.Param) → Shape false g.ParamsEnd (λ o. ps) (node g.Params ps ∷ g.sign m.CloseParenthesis ∷ [])
params_some ps = with_node (λ o ps. read (sees r.is_close (build ps))) refl (λ xs d. d) (λ xs d r b. b) (λ p e. begins_params p.spot p.word (base_word p.spot p.word e))
    (λ o. λ q. ((close, λ o. refl), (_, λ root n k. refl, (λ p f. (tt, λ root n k. refl), λ root n k. refl))))

pub one_param : (a : t.Param) → Shape false g.Params (λ o. a ∷ []) (node g.Param a ∷ [])
one_param a = with_node (λ o a. build (a ∷ [])) refl (λ xs d. d) (λ xs d r b. b) (λ p e root k. refl) (λ o. (λ p f. ((f, λ o. refl), λ root n k. refl), λ root n k. refl))

pub another_param : (before : List t.Param) (a : t.Param) → Shape false g.Params (λ o. before ++ a ∷ []) (node g.Params before ∷ g.sign m.Comma ∷ node g.Param a ∷ [])
another_param before a = with_itself refl (λ xs d. d) (λ xs d r b. b) refl (λ l r. refl)
    (λ o. λ q. (comma, (_, λ root n k. refl, (_, (λ p e root n k. refl), (λ p e. tt), (λ p f. ((f, λ o. refl), λ root n k. refl), λ root n k. refl)))))

no_name : (o : Spot) (ty : t.TypeName) (p : Placed) → Separates p.word → is_stop (r.named (λ x. build {s = g.Param} (record { spot = o; type_name = ty; name = Some x })) p) ≡ true
no_name o ty p f = go p.spot p.word f
  where
    go : (q : Spot) (y : Word) → Separates y → is_stop (r.name_in (λ x. build {s = g.Param} (record { spot = o; type_name = ty; name = Some x })) q y) ≡ true
    go q _ comma = refl
    go q _ close = refl
    go q _ semicolon = refl

pub param_nameless : (ty : t.TypeName) → Shape false g.Param (λ o. record { spot = o; type_name = ty; name = None }) (node g.TypeName ty ∷ [])
param_nameless ty = with_node r.param_typed refl (λ xs d. d) (λ xs d r b. b) (λ p e root k. refl)
    (λ o. (λ p f. ((separates f, λ o. refl), λ root n k. skipped (r.named (λ x. build (record { spot = o; type_name = ty; name = Some x }))) (build (record { spot = o; type_name = ty; name = None })) o n k p (no_name o ty p f)), λ root n k. refl))

pub param_named : (ty : t.TypeName) (x : names.Name) → Shape false g.Param (λ o. record { spot = o; type_name = ty; name = Some x }) (node g.TypeName ty ∷ node g.Name x ∷ [])
param_named ty x = with_node r.param_typed refl (λ xs d. d) (λ xs d r b. b) (λ p e root k. refl) (λ o. ((λ x. build (record { spot = o; type_name = ty; name = Some x })), (λ q y. ((a_name, λ o. refl), λ root n k. refl)), (λ p f. (tt, λ root n k. refl), λ root n k. refl)))

pub data BodyWord : Word → Type 0 where
  w_semicolon : BodyWord (mark m.Semicolon)
  w_brace : BodyWord (mark m.OpenBrace)

pub block_word : (o : Spot) (y : Word) → refuses (first g.Block (is y o)) ≡ false → mark m.OpenBrace ≡ y
block_word o (mark m.OpenBrace) e = refl
block_word o y e = absurd (untrue e)

body_word : (o : Spot) (y : Word) → refuses (first g.BodyEnd (is y o)) ≡ false → BodyWord y
body_word o (mark m.Semicolon) e = w_semicolon
body_word o y e = let P : Word → Type 0 = BodyWord in subst P (block_word o y e) w_brace

begins_ending : (o : Spot) (y : Word) → BodyWord y → (root : Symbol) (k : Stack root g.FunctionEnd) → step (about k) (is y o) ≡ place (is y o) (first g.BodyEnd (is y o)) o 0 (frame o 0 (λ a. build (record { deletes = false; body = a })) k)
begins_ending o _ w_semicolon root k = refl
begins_ending o _ w_brace root k = refl

pub ends_plain : (a : Option t.Stmts) → Shape false g.FunctionEnd (λ o. record { deletes = false; body = a }) (node g.BodyEnd a ∷ [])
ends_plain a = with_node (λ o a. build (record { deletes = false; body = a })) refl (λ xs d. d) (λ xs d r b. b) (λ p e. begins_ending p.spot p.word (body_word p.spot p.word e)) (λ o. (λ p f. ((tt, λ o. refl), λ root n k. refl), λ root n k. refl))

pub ends_deleting : (a : Option t.Stmts) → Shape false g.FunctionEnd (λ o. record { deletes = true; body = a }) (g.keyword Deletes ∷ node g.BodyEnd a ∷ [])
ends_deleting a = with_word (λ o. enter g.BodyEnd (λ a. build (record { deletes = true; body = a }))) (λ o root k. refl) (λ o. (_, (λ p e root n k. refl), (λ p e. tt), (λ p f. ((tt, λ o. refl), λ root n k. refl), λ root n k. refl)))

pub body_none : Shape false g.BodyEnd (λ o. None) (g.sign m.Semicolon ∷ [])
body_none = with_word (λ o. build None) (λ o root k. refl) (λ o. (λ p f. (tt, λ root n k. refl), λ root n k. refl))

begins_body : (o : Spot) (y : Word) → mark m.OpenBrace ≡ y → (root : Symbol) (k : Stack root g.BodyEnd) → step (about k) (is y o) ≡ place (is y o) (first g.Block (is y o)) o 0 (frame o 0 (λ a. build (Some a)) k)
begins_body o y e root k = let P : Word → Type 0 = λ y. step (about k) (is y o) ≡ place (is y o) (first g.Block (is y o)) o 0 (frame o 0 (λ a. build (Some a)) k) in subst P e refl

pub body_some : (a : t.Stmts) → Shape false g.BodyEnd (λ o. Some a) (node g.Block a ∷ [])
body_some a = with_node (λ o a. build (Some a)) refl (λ xs d. d) (λ xs d r b. b) (λ p e. begins_body p.spot p.word (block_word p.spot p.word e)) (λ o. (λ p f. ((tt, λ o. refl), λ root n k. refl), λ root n k. refl))

pub the_block : (a : t.Stmts) → Shape false g.Block (λ o. a) (g.sign m.OpenBrace ∷ node g.Body a ∷ g.sign m.CloseBrace ∷ [])
the_block a = with_word (λ o. r.block_body) (λ o root k. refl) (λ o. (_, refl, (λ p f. tt), λ q. ((refl, λ o. refl), (_, λ root n k. refl, (λ p f. (tt, λ root n k. refl), λ root n k. refl)))))

-- Declarators.
pub after_base : (o : Spot) (y : Word) → refuses (r.field_dec_in o y) ≡ false → AfterBase y
after_base o (mark m.Star) e = a_star
after_base o (w.name x) e = a_type a_name
after_base o y e = absurd (untrue e)

after_base_local : (o : Spot) (y : Word) → refuses (r.local_dec_in o y) ≡ false → AfterBase y
after_base_local o (mark m.Star) e = a_star
after_base_local o (w.name x) e = a_type a_name
after_base_local o y e = absurd (untrue e)

pub the_locals : (a : bases.Base) (ds : List LocalDeclarator) → Shape false g.Locals (λ o. map (local a) ds) (node g.Base a ∷ node g.LocalDecs ds ∷ g.sign m.Semicolon ∷ [])
the_locals a ds = with_node (λ o. r.locals_of) refl (λ xs d. d) (λ xs d r b. b) (λ p e root k. refl)
    (λ o. (_, (λ p e root n k. refl), (λ p e. (after_base_local p.spot p.word e, λ o. refl)), λ q. ((semicolon, λ o. refl), (_, λ root n k. refl, (λ p f. (tt, λ root n k. refl), λ root n k. refl)))))

pub one_local : (d : LocalDeclarator) → Shape false g.LocalDecs (λ o. d ∷ []) (node g.LocalDec d ∷ [])
one_local d = with_node (λ o d. build (d ∷ [])) refl (λ xs d. d) (λ xs d r b. b) (λ p e root k. refl) (λ o. (λ p f. ((f, λ o. refl), λ root n k. refl), λ root n k. refl))

pub another_local : (before : List LocalDeclarator) (d : LocalDeclarator) → Shape false g.LocalDecs (λ o. before ++ d ∷ []) (node g.LocalDecs before ∷ g.sign m.Comma ∷ node g.LocalDec d ∷ [])
another_local before d = with_itself refl (λ xs d. d) (λ xs d r b. b) refl (λ l r. refl)
    (λ o. λ q. (comma, (_, λ root n k. refl, (_, (λ p e root n k. refl), (λ p e. tt), (λ p f. ((f, λ o. refl), λ root n k. refl), λ root n k. refl)))))

pub the_fields : (a : bases.Base) (ds : List FieldDeclarator) → Shape false g.Field (λ o. map (field a) ds) (node g.Base a ∷ node g.FieldDecs ds ∷ g.sign m.Semicolon ∷ [])
the_fields a ds = with_node (λ o. r.fields_of) refl (λ xs d. d) (λ xs d r b. b) (λ p e root k. refl)
    (λ o. (_, (λ p e root n k. refl), (λ p e. (after_base p.spot p.word e, λ o. refl)), λ q. ((semicolon, λ o. refl), (_, λ root n k. refl, (λ p f. (tt, λ root n k. refl), λ root n k. refl)))))

pub one_field : (d : FieldDeclarator) → Shape false g.FieldDecs (λ o. d ∷ []) (node g.FieldDec d ∷ [])
one_field d = with_node (λ o d. build (d ∷ [])) refl (λ xs d. d) (λ xs d r b. b) (λ p e root k. refl) (λ o. (λ p f. ((separates_fields f, λ o. refl), λ root n k. refl), λ root n k. refl))

pub another_field : (before : List FieldDeclarator) (d : FieldDeclarator) → Shape false g.FieldDecs (λ o. before ++ d ∷ []) (node g.FieldDecs before ∷ g.sign m.Comma ∷ node g.FieldDec d ∷ [])
another_field before d = with_itself refl (λ xs d. d) (λ xs d r b. b) refl (λ l r. refl)
    (λ o. λ q. (comma, (_, λ root n k. refl, (_, (λ p e root n k. refl), (λ p e. tt), (λ p f. ((separates_fields f, λ o. refl), λ root n k. refl), λ root n k. refl)))))

pub first_field : (fs : List t.Field) → Shape false g.Fields (λ o. fs) (node g.Field fs ∷ [])
first_field fs = with_node (λ o. build) refl (λ xs d. d) (λ xs d r b. b) (λ p e root k. refl) (λ o. (λ p f. ((tt, λ o. refl), λ root n k. refl), λ root n k. refl))

pub more_fields : (before fs : List t.Field) → Shape false g.Fields (λ o. before ++ fs) (node g.Fields before ∷ node g.Field fs ∷ [])
more_fields before fs = with_itself refl (λ xs d. d) (λ xs d r b. b) refl (λ l r. refl)
    (λ o. ((λ hs. build (before ++ hs)), (λ p e root n k. first_placed p (within g.Field (λ hs. build (before ++ hs)) (r.a_field p)) o n k (give p k n before) e), (λ p e. tt), (λ p f. ((tt, λ o. refl), λ root n k. refl), λ root n k. refl)))

-- A struct.
pub the_struct : (x : names.Name) (fs : List t.Field) → Shape false g.Item (λ o. t.struct o x fs ∷ []) (g.keyword Struct ∷ node g.Name x ∷ g.sign m.OpenBrace ∷ node g.Fields fs ∷ g.sign m.CloseBrace ∷ g.sign m.Semicolon ∷ [])
the_struct x fs = with_word (λ o. read (r.named (r.struct_named o))) (λ o root k. refl) (λ o. (
  r.struct_named o,
  (λ q y. (tt, λ root n k. refl)),
  λ q. (
    tt,
    (
      _,
      λ root n k. refl,
      (
        _,
        (λ p e root n k. refl),
        (λ p e. tt),
        λ q. ((tt, λ o. refl), (_, λ root n k. refl, λ q. (tt, (_, λ root n k. refl, (λ p f. (tt, λ root n k. refl), λ root n k. refl))))),
      ),
    ),
  ),
))
