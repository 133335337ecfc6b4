-- How the productions of unaries, postfixes and primaries are read: all of them as a unary.
use Rattle.std.proofs.Common.{ℕ, ◌≡◌, List, [], ◌∷◌, Some, Bool, true, false, refl}
use Rattle.rc_syntax.specs.declared.word.Key.TheVariants.{Char, Eof, Int, Null, Ralloc, RarrayAlloc, Unsigned}
use Rattle.rc_syntax.specs.declared.word.Mark as marks
use Rattle.rc_syntax.specs.declared.word.Mark.TheVariants as m
use Rattle.rc_syntax.specs.declared.tree.Spot.{Spot}
use Rattle.rc_syntax.specs.declared.tree.Name as names
use Rattle.rc_syntax.specs.declared.tree.CastType.TheVariants as c
use Rattle.rc_syntax.specs.declared.tree.UnaryOp.{UnaryOp}
use Rattle.rc_syntax.specs.declared.tree.UnaryOp.TheVariants as u
use Rattle.rc_syntax.specs.declared.tree.BinaryOp.{BinaryOp}
use Rattle.rc_syntax.specs.declared.tree.BinaryOp.TheVariants as ops
use Rattle.rc_syntax.specs.declared.tree.StepOp.TheVariants.{Increment, Decrement}
use Rattle.rc_syntax.specs.Tokens as w
use Rattle.rc_syntax.specs.Tokens.{Word, mark, key}
use Rattle.rc_syntax.specs.Tree as t
use Rattle.rc_syntax.specs.Grammar as g
use Rattle.rc_syntax.specs.Grammar.{Symbol, TreeOf, Placed, Part, word, node}
use Rattle.rc_syntax.specs.reader.Todo.{Todo, build, try, is_stop, when, sees, read}
use Rattle.rc_syntax.specs.reader.Reading as r
use Rattle.rc_syntax.specs.reader.Reading.{first, tail}
use Rattle.rc_syntax.specs.reader.Steps.{Stack, frame, about, amid, place, step}
use Rattle.rc_syntax.proofs.Fronts.{is}
use Rattle.rc_syntax.proofs.Along.{comma, close, semicolon, separates, After, operator, question, colon, bracket, ends, AfterUnary, inner, equals, updates, steps, AfterPostfix, unaries, open_bracket, dot, arrow, Along}
use Rattle.rc_syntax.proofs.Shapes.{Shape, with_word, skipped, Ends}
use Rattle.rc_syntax.proofs.Tables.{update_is, UnaryWord, u_minus, u_plus, u_not, u_complement, u_star, u_address, u_open, u_number, u_character, u_string, u_name, u_null, u_eof, u_ralloc, u_rarrayalloc, unary_word}

abbrev pub n0 : Spot → List ℕ → names.Name
n0 o x = record { spot = o; text = x }

-- What follows a unary doesn't go on with it.
quiet_op : (o : Spot) (a : t.Expr) (op : BinaryOp) → is_stop (r.postfix_in o a (mark (g.mark_of op))) ≡ true
quiet_op o a ops.LogicalOr = refl
quiet_op o a ops.LogicalAnd = refl
quiet_op o a ops.BitOr = refl
quiet_op o a ops.BitXor = refl
quiet_op o a ops.BitAnd = refl
quiet_op o a ops.Equal = refl
quiet_op o a ops.NotEqual = refl
quiet_op o a ops.Less = refl
quiet_op o a ops.Greater = refl
quiet_op o a ops.LessEqual = refl
quiet_op o a ops.GreaterEqual = refl
quiet_op o a ops.ShiftLeft = refl
quiet_op o a ops.ShiftRight = refl
quiet_op o a ops.Add = refl
quiet_op o a ops.Subtract = refl
quiet_op o a ops.Multiply = refl
quiet_op o a ops.Divide = refl
quiet_op o a ops.Remainder = refl

pub quiet_unary_after : {i : ℕ} (o : Spot) (a : t.Expr) (y : Word) → After i y → is_stop (r.postfix_in o a y) ≡ true
quiet_unary_after o a _ (operator op l) = quiet_op o a op
quiet_unary_after o a _ (question l) = refl
quiet_unary_after o a _ colon = refl
quiet_unary_after o a _ bracket = refl
quiet_unary_after o a _ (ends comma) = refl
quiet_unary_after o a _ (ends close) = refl
quiet_unary_after o a _ (ends semicolon) = refl

pub quiet_left : (o : Spot) (a : t.Expr) (y : Word) → AfterUnary y → is_stop (r.postfix_in o a y) ≡ true
quiet_left o a y (inner f) = quiet_unary_after o a y f
quiet_left o a _ equals = refl
quiet_left o a _ (updates op {x = x} e) = (update_is o a op x e).1 o
quiet_left o a _ (steps Increment) = refl
quiet_left o a _ (steps Decrement) = refl

-- Unaries.
prefix_word : (op : UnaryOp) (o : Spot) (root : Symbol) (k : Stack root g.Unary) → step (about k) (is (mark (g.prefix_of op)) o) ≡ Some (amid o (r.prefixed o op) 1 k)
prefix_word u.Minus o root k = refl
prefix_word u.Plus o root k = refl
prefix_word u.Not o root k = refl
prefix_word u.Complement o root k = refl
prefix_word u.Dereference o root k = refl
prefix_word u.Address o root k = refl

pub prefixed : (op : UnaryOp) (e : t.Expr) → Shape false g.Unary (λ o. t.unary o op e) (g.sign (g.prefix_of op) ∷ node g.Unary e ∷ [])
prefixed op e = with_word (λ o. r.prefixed o op) (prefix_word op) (λ o. (_, (λ p e root n k. refl), (λ p e. tt), (λ p f. ((f, λ q. quiet_left q e p.word f), λ root n k. refl), λ root n k. refl)))

pub cast_int : (e : t.Expr) → Shape false g.Unary (λ o. t.cast o c.Int e) (g.sign m.OpenParenthesis ∷ g.keyword Int ∷ g.sign m.CloseParenthesis ∷ node g.Unary e ∷ [])
cast_int e = with_word r.parenthesized (λ o root k. refl) (λ o. λ q. (tt, (_, λ root n k. refl, λ q. (tt, (_, λ root n k. refl, (_, (λ p e root n k. refl), (λ p e. tt), (λ p f. ((f, λ q. quiet_left q e p.word f), λ root n k. refl), λ root n k. refl)))))))

pub cast_char : (e : t.Expr) → Shape false g.Unary (λ o. t.cast o c.Char e) (g.sign m.OpenParenthesis ∷ g.keyword Char ∷ g.sign m.CloseParenthesis ∷ node g.Unary e ∷ [])
cast_char e = with_word r.parenthesized (λ o root k. refl) (λ o. λ q. (tt, (_, λ root n k. refl, λ q. (tt, (_, λ root n k. refl, (_, (λ p e root n k. refl), (λ p e. tt), (λ p f. ((f, λ q. quiet_left q e p.word f), λ root n k. refl), λ root n k. refl)))))))

pub cast_unsigned : (e : t.Expr) → Shape false g.Unary (λ o. t.cast o c.Unsigned e) (g.sign m.OpenParenthesis ∷ g.keyword Unsigned ∷ g.sign m.CloseParenthesis ∷ node g.Unary e ∷ [])
cast_unsigned e = with_word r.parenthesized (λ o root k. refl) (λ o. λ q. (tt, (_, λ root n k. refl, λ q. (tt, (_, λ root n k. refl, (_, (λ p e root n k. refl), (λ p e. tt), (λ p f. ((f, λ q. quiet_left q e p.word f), λ root n k. refl), λ root n k. refl)))))))

pub cast_unsigned_int : (e : t.Expr) → Shape false g.Unary (λ o. t.cast o c.Unsigned e) (g.sign m.OpenParenthesis ∷ g.keyword Unsigned ∷ g.keyword Int ∷ g.sign m.CloseParenthesis ∷ node g.Unary e ∷ [])
cast_unsigned_int e = with_word r.parenthesized (λ o root k. refl) (λ o. λ q. (tt, (_, λ root n k. refl, λ q. (tt, (_, λ root n k. refl, λ q. (tt, (_, λ root n k. refl, (_, (λ p e root n k. refl), (λ p e. tt), (λ p f. ((f, λ q. quiet_left q e p.word f), λ root n k. refl), λ root n k. refl)))))))))

-- Primaries.
pub a_number : (n : ℕ) (v : Bool) → Shape true g.Unary (λ o. t.number o n v) (word (w.number n v) ∷ [])
a_number n v = with_word (λ o. build (t.number o n v)) (λ o root k. refl) (λ o. (λ p f. (tt, λ root n k. refl), λ root n k. refl))

pub a_character : (n : ℕ) → Shape true g.Unary (λ o. t.character o n) (word (w.character n) ∷ [])
a_character n = with_word (λ o. build (t.character o n)) (λ o root k. refl) (λ o. (λ p f. (tt, λ root n k. refl), λ root n k. refl))

pub a_string : (x : List ℕ) → Shape true g.Unary (λ o. t.string o x) (word (w.string x) ∷ [])
a_string x = with_word (λ o. build (t.string o x)) (λ o root k. refl) (λ o. (λ p f. (tt, λ root n k. refl), λ root n k. refl))

pub a_null : Shape true g.Unary (λ o. t.null o) (g.keyword Null ∷ [])
a_null = with_word (λ o. build (t.null o)) (λ o root k. refl) (λ o. (λ p f. (tt, λ root n k. refl), λ root n k. refl))

pub an_eof : Shape true g.Unary (λ o. t.eof o) (g.keyword Eof ∷ [])
an_eof = with_word (λ o. build (t.eof o)) (λ o root k. refl) (λ o. (λ p f. (tt, λ root n k. refl), λ root n k. refl))

not_open : (o : Spot) (x : List ℕ) (y : Word) → AfterPostfix y → is_stop (when (r.is_open y) (r.call (n0 o x))) ≡ true
not_open o x _ (unaries (inner (operator op l))) = not_open_op op
  where
    not_open_op : (op : BinaryOp) → is_stop (when (r.is_open (mark (g.mark_of op))) (r.call (n0 o x))) ≡ true
    not_open_op ops.LogicalOr = refl
    not_open_op ops.LogicalAnd = refl
    not_open_op ops.BitOr = refl
    not_open_op ops.BitXor = refl
    not_open_op ops.BitAnd = refl
    not_open_op ops.Equal = refl
    not_open_op ops.NotEqual = refl
    not_open_op ops.Less = refl
    not_open_op ops.Greater = refl
    not_open_op ops.LessEqual = refl
    not_open_op ops.GreaterEqual = refl
    not_open_op ops.ShiftLeft = refl
    not_open_op ops.ShiftRight = refl
    not_open_op ops.Add = refl
    not_open_op ops.Subtract = refl
    not_open_op ops.Multiply = refl
    not_open_op ops.Divide = refl
    not_open_op ops.Remainder = refl
not_open o x _ (unaries (inner (question l))) = refl
not_open o x _ (unaries (inner colon)) = refl
not_open o x _ (unaries (inner bracket)) = refl
not_open o x _ (unaries (inner (ends comma))) = refl
not_open o x _ (unaries (inner (ends close))) = refl
not_open o x _ (unaries (inner (ends semicolon))) = refl
not_open o x _ (unaries equals) = refl
not_open o x _ (unaries (updates op {x = y} e)) = not_open_update op y e
  where
    not_open_update : (op : BinaryOp) (y : marks.Mark) → g.update_of op ≡ Some y → is_stop (when (r.is_open (mark y)) (r.call (n0 o x))) ≡ true
    not_open_update op m.OpenParenthesis e = absurd (not_update op e)
      where
        not_update : (op : BinaryOp) → g.update_of op ≡ Some m.OpenParenthesis → ⊥
        not_update ops.LogicalOr e = cc
        not_update ops.LogicalAnd e = cc
        not_update ops.BitOr e = cc
        not_update ops.BitXor e = cc
        not_update ops.BitAnd e = cc
        not_update ops.Equal e = cc
        not_update ops.NotEqual e = cc
        not_update ops.Less e = cc
        not_update ops.Greater e = cc
        not_update ops.LessEqual e = cc
        not_update ops.GreaterEqual e = cc
        not_update ops.ShiftLeft e = cc
        not_update ops.ShiftRight e = cc
        not_update ops.Add e = cc
        not_update ops.Subtract e = cc
        not_update ops.Multiply e = cc
        not_update ops.Divide e = cc
        not_update ops.Remainder e = cc
    not_open_update op y e = refl
not_open o x _ (unaries (steps Increment)) = refl
not_open o x _ (unaries (steps Decrement)) = refl
not_open o x _ open_bracket = refl
not_open o x _ dot = refl
not_open o x _ arrow = refl

abbrev pub variable_in : List ℕ → Spot → Todo g.Unary
variable_in x o = try (sees r.is_open (r.call (n0 o x))) (build (t.variable (n0 o x)))

pub a_variable : (x : List ℕ) → Shape true g.Unary (λ o. t.variable (n0 o x)) (word (w.name x) ∷ [])
a_variable x = with_word (variable_in x) (λ o root k. refl)
    (λ o. (λ p f. (tt, λ root n k. skipped (sees r.is_open (r.call (n0 o x))) (build (t.variable (n0 o x))) o n k p (not_open o x p.word f)), λ root n k. refl))

pub a_call : (x : List ℕ) → Shape true g.Unary (λ o. t.call (n0 o x) t.none) (word (w.name x) ∷ g.sign m.OpenParenthesis ∷ g.sign m.CloseParenthesis ∷ [])
a_call x = with_word (variable_in x) (λ o root k. refl) (λ o. λ q. (tt, (_, λ root n k. refl, λ q. (tt, (_, λ root n k. refl, (λ p f. (tt, λ root n k. refl), λ root n k. refl))))))

begins_argument : (o q : Spot) (x : List ℕ) (y : Word) → UnaryWord y → (root : Symbol) (n : ℕ) (k : Stack root g.Unary) → step (amid o (r.call (n0 o x)) n k) (is y q) ≡ place (is y q) (first g.Arguments (is y q)) q 0 (frame o n (λ v. read (sees r.is_close (build (t.call (n0 o x) v)))) k)
begins_argument o q x _ u_minus root n k = refl
begins_argument o q x _ u_plus root n k = refl
begins_argument o q x _ u_not root n k = refl
begins_argument o q x _ u_complement root n k = refl
begins_argument o q x _ u_star root n k = refl
begins_argument o q x _ u_address root n k = refl
begins_argument o q x _ u_open root n k = refl
begins_argument o q x _ u_number root n k = refl
begins_argument o q x _ u_character root n k = refl
begins_argument o q x _ u_string root n k = refl
begins_argument o q x _ u_name root n k = refl
begins_argument o q x _ u_null root n k = refl
begins_argument o q x _ u_eof root n k = refl
begins_argument o q x _ u_ralloc root n k = refl
begins_argument o q x _ u_rarrayalloc root n k = refl

pub a_call_with : (x : List ℕ) (v : t.Exprs) → Shape true g.Unary (λ o. t.call (n0 o x) v) (word (w.name x) ∷ g.sign m.OpenParenthesis ∷ node g.Arguments v ∷ g.sign m.CloseParenthesis ∷ [])
a_call_with x v = with_word (variable_in x) (λ o root k. refl) (λ o. λ q. (tt, (_, λ root n k. refl, ((λ v. read (sees r.is_close (build (t.call (n0 o x) v)))), (λ p e. begins_argument o p.spot x p.word (unary_word p.spot p.word e)), (λ p e. tt), λ q. ((close, λ o. refl), (_, λ root n k. refl, (λ p f. (tt, λ root n k. refl), λ root n k. refl)))))))

pub an_allocation : (e : t.Expr) (ty : t.TypeName) → Shape true g.Unary (λ o. t.ralloc o e ty) (g.keyword Ralloc ∷ g.sign m.OpenParenthesis ∷ node (g.Level 0) e ∷ g.sign m.Comma ∷ node g.TypeName ty ∷ g.sign m.CloseParenthesis ∷ [])
an_allocation e ty = with_word (λ o. read (sees r.is_open (r.allocated o))) (λ o root k. refl) (λ o. λ q. (tt, (_, λ root n k. refl, (_, (λ p e root n k. refl), (λ p e. tt), λ q. ((ends comma, λ o. refl), (_, λ root n k. refl, (_, (λ p e root n k. refl), (λ p e. tt), λ q. ((separates close, λ o. refl), (_, λ root n k. refl, (λ p f. (tt, λ root n k. refl), λ root n k. refl))))))))))

pub an_array_allocation : (e i : t.Expr) (ty : t.TypeName) → Shape true g.Unary (λ o. t.rarrayalloc o e i ty) (g.keyword RarrayAlloc ∷ g.sign m.OpenParenthesis ∷ node (g.Level 0) e ∷ g.sign m.Comma ∷ node (g.Level 0) i ∷ g.sign m.Comma ∷ node g.TypeName ty ∷ g.sign m.CloseParenthesis ∷ [])
an_array_allocation e i ty = with_word (λ o. read (sees r.is_open (r.array_allocated o))) (λ o root k. refl) (λ o. λ q. (tt, (_, λ root n k. refl, (_, (λ p e root n k. refl), (λ p e. tt), λ q. ((ends comma, λ o. refl), (_, λ root n k. refl, (_, (λ p e root n k. refl), (λ p e. tt), λ q. ((ends comma, λ o. refl), (_, λ root n k. refl, (_, (λ p e root n k. refl), (λ p e. tt), λ q. ((separates close, λ o. refl), (_, λ root n k. refl, (λ p f. (tt, λ root n k. refl), λ root n k. refl)))))))))))))

begins_inner : (o q : Spot) (y : Word) → UnaryWord y → (root : Symbol) (n : ℕ) (k : Stack root g.Unary) → step (amid o (r.parenthesized o) n k) (is y q) ≡ place (is y q) (first (g.Level 0) (is y q)) q 0 (frame o n (λ e. read (sees r.is_close (build e))) k)
begins_inner o q _ u_minus root n k = refl
begins_inner o q _ u_plus root n k = refl
begins_inner o q _ u_not root n k = refl
begins_inner o q _ u_complement root n k = refl
begins_inner o q _ u_star root n k = refl
begins_inner o q _ u_address root n k = refl
begins_inner o q _ u_open root n k = refl
begins_inner o q _ u_number root n k = refl
begins_inner o q _ u_character root n k = refl
begins_inner o q _ u_string root n k = refl
begins_inner o q _ u_name root n k = refl
begins_inner o q _ u_null root n k = refl
begins_inner o q _ u_eof root n k = refl
begins_inner o q _ u_ralloc root n k = refl
begins_inner o q _ u_rarrayalloc root n k = refl

pub in_parentheses : (e : t.Expr) → Shape true g.Unary (λ o. e) (g.sign m.OpenParenthesis ∷ node (g.Level 0) e ∷ g.sign m.CloseParenthesis ∷ [])
in_parentheses e = with_word r.parenthesized (λ o root k. refl) (λ o. ((λ e. read (sees r.is_close (build e))), (λ p e. begins_inner o p.spot p.word (unary_word p.spot p.word e)), (λ p e. tt), λ q. ((ends close, λ o. refl), (_, λ root n k. refl, (λ p f. (tt, λ root n k. refl), λ root n k. refl)))))

-- Postfixes, behind what they are of.
pub along_index : (a i : t.Expr) (o : Spot) → Along {s = g.Unary} o (t.index o a i) (Ends true g.Unary (t.index o a i)) (Ends true g.Unary a) (build a) (g.sign m.OpenBracket ∷ node (g.Level 0) i ∷ g.sign m.CloseBracket ∷ [])
along_index a i o = λ q. (open_bracket, (_, λ root n k. refl, (_, (λ p e root n k. refl), (λ p e. tt), λ q. ((bracket, λ o. refl), (_, λ root n k. refl, (λ p f. (tt, λ root n k. refl), λ root n k. refl))))))

pub along_member : (a : t.Expr) (x : names.Name) (o : Spot) → Along {s = g.Unary} o (t.member o a x) (Ends true g.Unary (t.member o a x)) (Ends true g.Unary a) (build a) (g.sign m.Dot ∷ node g.Name x ∷ [])
along_member a x o = λ q. (dot, (_, λ root n k. refl, ((λ x. build (t.member o a x)), (λ q y. (tt, λ root n k. refl)), (λ p f. (tt, λ root n k. refl), λ root n k. refl))))

pub along_arrow : (a : t.Expr) (x : names.Name) (o : Spot) → Along {s = g.Unary} o (t.arrow o a x) (Ends true g.Unary (t.arrow o a x)) (Ends true g.Unary a) (build a) (g.sign m.Arrow ∷ node g.Name x ∷ [])
along_arrow a x o = λ q. (arrow, (_, λ root n k. refl, ((λ x. build (t.arrow o a x)), (λ q y. (tt, λ root n k. refl)), (λ p f. (tt, λ root n k. refl), λ root n k. refl))))
