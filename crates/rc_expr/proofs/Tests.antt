-- Words that are tested, and words behind which a symbol is complete.
use Rattle.std.proofs.Common.{ℕ, ◌≡◌, ◌≤◌, Bool, true, false, Some, None, Option, [], ◌∷◌, List, cond, nat_le, refl, ap, ◌∙◌, arith}
use Rattle.std.proofs.lemmas.Bool.Decides.{nat_tests}
use Rattle.rc_syntax.specs.declared.word.Token.{Token as CodeToken}
use Rattle.rc_syntax.specs.declared.word.Key.TheVariants as y
use Rattle.rc_syntax.specs.declared.word.Mark.TheVariants as m
use Rattle.rc_syntax.specs.declared.tree.Spot.{Spot}
use Rattle.rc_syntax.specs.declared.tree.Note.{Note}
use Rattle.rc_syntax.specs.declared.tree.BinaryOp.{BinaryOp}
use Rattle.rc_syntax.specs.declared.tree.BinaryOp.TheVariants as o
use Rattle.rc_syntax.specs.Tokens.{Word, mark, key}
use Rattle.rc_syntax.specs.Tree as t
use Rattle.rc_syntax.specs.Grammar.{Symbol, Level, Unary, Arguments, Stars, TreeOf, Placed, level_of, mark_of, with_last}
use Rattle.rc_syntax.specs.reader.Todo.{stop, only, enter, build, when}
use Rattle.rc_syntax.specs.reader.Reading.{tail, is_open, is_close, is_close_bracket, is_comma, is_colon, is_int, is_question, more_stars, postfix_in, binary_of, operated, beside, chosen}
use Rattle.rc_words.specs.Words.{from, word_in, word_at, Misses}
use Rattle.rc_expr.specs.Goes.{Quiet, no_postfix, at_least, operator_from}

pub open_else : (x : Word) → (x ≡ mark m.OpenParenthesis → ⊥) → is_open x ≡ false
open_else (mark m.OpenParenthesis) h = absurd (h refl)
open_else _ h = refl

pub close_else : (x : Word) → (x ≡ mark m.CloseParenthesis → ⊥) → is_close x ≡ false
close_else (mark m.CloseParenthesis) h = absurd (h refl)
close_else _ h = refl

pub close_bracket_else : (x : Word) → (x ≡ mark m.CloseBracket → ⊥) → is_close_bracket x ≡ false
close_bracket_else (mark m.CloseBracket) h = absurd (h refl)
close_bracket_else _ h = refl

pub comma_else : (x : Word) → (x ≡ mark m.Comma → ⊥) → is_comma x ≡ false
comma_else (mark m.Comma) h = absurd (h refl)
comma_else _ h = refl

pub colon_else : (x : Word) → (x ≡ mark m.Colon → ⊥) → is_colon x ≡ false
colon_else (mark m.Colon) h = absurd (h refl)
colon_else _ h = refl

pub question_else : (x : Word) → (x ≡ mark m.Question → ⊥) → is_question x ≡ false
question_else (mark m.Question) h = absurd (h refl)
question_else _ h = refl

pub int_else : (x : Word) → (x ≡ key y.Int → ⊥) → is_int x ≡ false
int_else (key y.Int) h = absurd (h refl)
int_else _ h = refl

-- A symbol that no word goes on with.
pub quiet_plain : (s : Symbol) (sp : Spot) (a : TreeOf s) (ws : List Placed) → ((p : Placed) → tail s sp a p ≡ only stop) → Quiet s sp a ws
quiet_plain s sp a [] h = tt
quiet_plain s sp a (p ∷ ps) h = h p

more_else : (ns : List Note) (x : Word) → (x ≡ mark m.Star → ⊥) → more_stars ns x ≡ only stop
more_else ns (mark m.Star) h = absurd (h refl)
more_else ns _ h = refl

quiet_stars_in : (sp : Spot) (ns : List Note) (ws : List Placed) → (word_in ws ≡ Some (mark m.Star) → ⊥) → Quiet Stars sp ns ws
quiet_stars_in sp ns [] h = tt
quiet_stars_in sp ns (p ∷ ps) h = more_else ns p.word (λ e. h (ap Some e))

pub quiet_stars : (ts : List CodeToken) (q : ℕ) (sp : Spot) (ns : List Note) → Misses ts q (mark m.Star) → Quiet Stars sp ns (from ts q)
quiet_stars ts q sp ns h = quiet_stars_in sp ns (from ts q) h

quiet_arguments_in : (sp : Spot) (v : t.Exprs) (ws : List Placed) → (word_in ws ≡ Some (mark m.Comma) → ⊥) → Quiet Arguments sp v ws
quiet_arguments_in sp v [] h = tt
quiet_arguments_in sp v (p ∷ ps) h = ap (λ b. only (when b (enter (Level 0) (λ e. build (with_last v e))))) (comma_else p.word (λ e. h (ap Some e)))

pub quiet_arguments : (ts : List CodeToken) (q : ℕ) (sp : Spot) (v : t.Exprs) → Misses ts q (mark m.Comma) → Quiet Arguments sp v (from ts q)
quiet_arguments ts q sp v h = quiet_arguments_in sp v (from ts q) h

postfix_else : (sp : Spot) (a : t.Expr) (x : Word) → no_postfix (Some x) ≡ true → postfix_in sp a x ≡ stop
postfix_else sp a (mark m.OpenBracket) h = absurd cc
postfix_else sp a (mark m.Dot) h = absurd cc
postfix_else sp a (mark m.Arrow) h = absurd cc
postfix_else sp a _ h = refl

quiet_unary_in : (sp : Spot) (a : t.Expr) (ws : List Placed) → no_postfix (word_in ws) ≡ true → Quiet Unary sp a ws
quiet_unary_in sp a [] h = tt
quiet_unary_in sp a (p ∷ ps) h = ap only (postfix_else sp a p.word h)

pub quiet_unary : (ts : List CodeToken) (q : ℕ) (sp : Spot) (a : t.Expr) → no_postfix (word_at ts q) ≡ true → Quiet Unary sp a (from ts q)
quiet_unary ts q sp a h = quiet_unary_in sp a (from ts q) h

when_stop : {s : Symbol} (b : Bool) → when b (stop {s = s}) ≡ stop
when_stop true = refl
when_stop false = refl

none_false : (b : Bool) (op : BinaryOp) → cond b (Some op) None ≡ None → b ≡ false
none_false false op h = refl
none_false true op h = absurd cc

operated_else : {i : ℕ} (sp : Spot) (a : t.Expr) (x : Word) (op : Option BinaryOp) → at_least i op ≡ None → when (is_question x) (when (nat_le i 0) (chosen {i = i} sp a)) ≡ stop → operated {i = i} sp a x op ≡ stop
operated_else {i = i} sp a x (Some op) h q = ap (λ b. when b (beside sp a op)) (none_false (nat_le i (level_of op)) op h)
operated_else sp a x None h q = q

quiet_level_in : (i : ℕ) (sp : Spot) (a : t.Expr) (ws : List Placed) → operator_from i (word_in ws) ≡ None → 1 ≤ i → Quiet (Level i) sp a ws
quiet_level_in i sp a [] h low = tt
quiet_level_in i sp a (p ∷ ps) h low =
    let high : nat_le i 0 ≡ false = grind (arith, nat_tests) in
    ap only (operated_else {i = i} sp a p.word (binary_of p.word) h
    (ap (λ b. when (is_question p.word) (when b (chosen sp a))) high ∙ when_stop (is_question p.word)))

pub quiet_level : (ts : List CodeToken) (q i : ℕ) (sp : Spot) (a : t.Expr) → operator_from i (word_at ts q) ≡ None → 1 ≤ i → Quiet (Level i) sp a (from ts q)
quiet_level ts q i sp a h low = quiet_level_in i sp a (from ts q) h low

quiet_expression_in : (sp : Spot) (a : t.Expr) (ws : List Placed) → operator_from 0 (word_in ws) ≡ None → (word_in ws ≡ Some (mark m.Question) → ⊥) → Quiet (Level 0) sp a ws
quiet_expression_in sp a [] h q = tt
quiet_expression_in sp a (p ∷ ps) h q =
    ap only (operated_else {i = 0} sp a p.word (binary_of p.word) h (ap (λ b. when b (when (nat_le 0 0) (chosen sp a))) (question_else p.word (λ e. q (ap Some e)))))

pub quiet_expression : (ts : List CodeToken) (q : ℕ) (sp : Spot) (a : t.Expr) → (operator_from 0 (word_at ts q) ≡ None) × Misses ts q (mark m.Question) → Quiet (Level 0) sp a (from ts q)
quiet_expression ts q sp a h = quiet_expression_in sp a (from ts q) h.0 h.1

binary_of_mark : (op : BinaryOp) → binary_of (mark (mark_of op)) ≡ Some op
binary_of_mark o.LogicalOr = refl
binary_of_mark o.LogicalAnd = refl
binary_of_mark o.BitOr = refl
binary_of_mark o.BitXor = refl
binary_of_mark o.BitAnd = refl
binary_of_mark o.Equal = refl
binary_of_mark o.NotEqual = refl
binary_of_mark o.Less = refl
binary_of_mark o.Greater = refl
binary_of_mark o.LessEqual = refl
binary_of_mark o.GreaterEqual = refl
binary_of_mark o.ShiftLeft = refl
binary_of_mark o.ShiftRight = refl
binary_of_mark o.Add = refl
binary_of_mark o.Subtract = refl
binary_of_mark o.Multiply = refl
binary_of_mark o.Divide = refl
binary_of_mark o.Remainder = refl

-- An operator that binds tightly enough goes on with a left side.
pub operates : (i : ℕ) (sp : Spot) (a : t.Expr) (op : BinaryOp) → i ≤ level_of op → operated {i = i} sp a (mark (mark_of op)) (binary_of (mark (mark_of op))) ≡ beside sp a op
operates i sp a op h =
    let yes : nat_le i (level_of op) ≡ true = grind (arith, nat_tests) in
    ap (operated {i = i} sp a (mark (mark_of op))) (binary_of_mark op) ∙ ap (λ b. when b (beside {i = i} sp a op)) yes
