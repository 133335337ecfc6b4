-- The words of a text of bytes: numbers below 2 to the 32nd, and characters and strings of bytes.
use Rattle.std.proofs.Common.{◌≡◌, ◌<◌, ◌≤◌, ◌+◌, ◌∙◌, ℕ, Bool, true, false, List, [], ◌∷◌, ◌++◌, length, Option, Some, None, cond, refl, sym, subst, arith}
use Rattle.std.specs.Prelude.{◌==◌, nat_le}
use Rattle.std.specs.List.{AllByRecursion as Every}
use Rattle.std.proofs.lemmas.Bool.Decides.{nat_tests}
use Rattle.rc_core.specs.Numbers.{IsByte}
use Rattle.rc_syntax.specs.Tokens.{Word, Token, number, character, string}
use Rattle.rc_syntax.specs.Bytes.{Each, is_hexadecimal, line_behind}
use Rattle.rc_syntax.specs.Numerals as numerals
use Rattle.rc_syntax.specs.Numerals.{Number, digit_value, number_type, value_in}
use Rattle.rc_syntax.specs.Literals as literals
use Rattle.rc_syntax.specs.Literals.{Writes, WritesAll, simple_escape}
use Rattle.rc_syntax.specs.Words.{Piece, blank, line_comment, block_comment, skipped_line, identifier, keyword, integer_constant, character_constant, string_literal, punctuator, Cut, end, piece, with_line}
use Rattle.rc_syntax.specs.Grammar.{Placed, placed}

abbrev pub WordInRange : Word → Type 0
WordInRange (number value unsigned) = value < 4294967296
WordInRange (character value) = value < 256
WordInRange (string bytes) = Every IsByte bytes
WordInRange _ = Unit {0}

abbrev pub WordsInRange : List Placed → Type 0
WordsInRange [] = Unit {0}
WordsInRange (p ∷ ps) = WordInRange p.word × WordsInRange ps

abbrev TokensInRange : List Token → Type 0
TokensInRange [] = Unit {0}
TokensInRange (t ∷ tokens) = WordInRange t.word × TokensInRange tokens

-- ---- parts of lists of bytes

front : (xs ys : List ℕ) → Every IsByte (xs ++ ys) → Every IsByte xs
front [] ys all = tt
front (x ∷ xs) ys all = (all.0, front xs ys all.1)

back : (xs ys : List ℕ) → Every IsByte (xs ++ ys) → Every IsByte ys
back [] ys all = all
back (x ∷ xs) ys all = back xs ys all.1

-- ---- what bytes write

is_small : (k value : ℕ) → Some k ≡ Some value → k < 256 → value < 256
is_small k value e small = subst (λ n. n < 256) (let same : k ≡ value = cc in same) small

-- by which letter it is
one_of_letters : (a b c d f g h i j k l : Bool) (value : ℕ) → cond a (Some 7) (cond b (Some 8) (cond c (Some 12) (cond d (Some 10) (cond f (Some 13) (cond g (Some 9) (cond h (Some 11) (cond i (Some 92) (cond j (Some 39) (cond k (Some 34) (cond l (Some 63) None)))))))))) ≡ Some value → value < 256
one_of_letters true b c d f g h i j k l value e = is_small 7 value e (omega arith)
one_of_letters false true c d f g h i j k l value e = is_small 8 value e (omega arith)
one_of_letters false false true d f g h i j k l value e = is_small 12 value e (omega arith)
one_of_letters false false false true f g h i j k l value e = is_small 10 value e (omega arith)
one_of_letters false false false false true g h i j k l value e = is_small 13 value e (omega arith)
one_of_letters false false false false false true h i j k l value e = is_small 9 value e (omega arith)
one_of_letters false false false false false false true i j k l value e = is_small 11 value e (omega arith)
one_of_letters false false false false false false false true j k l value e = is_small 92 value e (omega arith)
one_of_letters false false false false false false false false true k l value e = is_small 39 value e (omega arith)
one_of_letters false false false false false false false false false true l value e = is_small 34 value e (omega arith)
one_of_letters false false false false false false false false false false true value e = is_small 63 value e (omega arith)
one_of_letters false false false false false false false false false false false value e = absurd cc

escape_small : (b value : ℕ) → simple_escape b ≡ Some value → value < 256
escape_small b value e = one_of_letters (b == 97) (b == 98) (b == 102) (b == 110) (b == 114) (b == 116) (b == 118) (b == 92) (b == 39) (b == 34) (b == 63) value e

digit_small : (b : ℕ) → is_hexadecimal b ≡ true → digit_value b ≤ 15
digit_small b h = grind (arith, nat_tests, h)

two_digits : (digits : List ℕ) → Each is_hexadecimal digits → length digits ≤ 2 → value_in 16 digits < 256
two_digits [] each few = omega arith
two_digits (a ∷ []) each few = let small = digit_small a each.0 in omega (arith, small)
two_digits (a ∷ b ∷ []) each few = let first = digit_small a each.0 in let second = digit_small b each.1.0 in omega (arith, first, second)
two_digits (a ∷ b ∷ c ∷ more) each few = absurd (omega (arith, few))

written_small : (q : ℕ) (bytes further : List ℕ) (value : ℕ) → Every IsByte bytes → Writes q bytes further value → value < 256
written_small q bytes further value all (literals.plain is p) = (subst (Every IsByte) is all).0
written_small q bytes further value all (literals.simple letter is s) = escape_small letter value s
written_small q bytes further value all (literals.octal digits is each some few ends same small) = omega (arith, small)
written_small q bytes further value all (literals.hexadecimal digits is each some few ends same) = subst (λ n. n < 256) (sym same) (two_digits digits each few)

values_small : (q : ℕ) (bytes values : List ℕ) → Every IsByte bytes → WritesAll q bytes values → Every IsByte values
values_small q bytes [] all written = tt
values_small q bytes (value ∷ values) all (first, further, is, writes, more) =
    let whole = subst (Every IsByte) is all in
    (written_small q first further value (front first further whole) writes, values_small q further values (back first further whole) more)

number_small : (base value : ℕ) (suffix unsigned : Bool) → number_type base value suffix ≡ Some unsigned → value < 4294967296
number_small base value suffix unsigned e = by (nat_le value 4294967295) refl e where
  by : (test : Bool) → nat_le value 4294967295 ≡ test → cond test (cond suffix (Some true) (cond (nat_le value 2147483647) (Some false) (cond (base == 10) None (Some true)))) None ≡ Some unsigned → value < 4294967296
  by true is e = grind (arith, nat_tests, is)
  by false is e = absurd cc

number_in_range : (bytes : List ℕ) (w : Word) → Number bytes w → WordInRange w
number_in_range bytes w (numerals.unsuffixed base value unsigned numeral typed is) = subst WordInRange (sym is) (number_small base value false unsigned typed)
number_in_range bytes w (numerals.suffixed digits suffix base value unsigned cut suffixes numeral typed is) = subst WordInRange (sym is) (number_small base value true unsigned typed)

-- ---- words

of_some : (seen : Option Word) (w v : Word) → seen ≡ Some w → seen ≡ Some v → WordInRange v → WordInRange w
of_some seen w v e f h = subst WordInRange (let same : Some v ≡ Some w = sym f ∙ e in cc) h

of_none : {A : Type 0} (seen : Option Word) (w : Word) → seen ≡ Some w → seen ≡ None → A
of_none seen w e f = absurd (let none : Some w ≡ None = sym e ∙ f in cc)

word_in_range : (before bytes rest : List ℕ) (seen : Option Word) (w : Word) → Every IsByte bytes → seen ≡ Some w → Piece before bytes rest seen → WordInRange w
word_in_range before bytes rest seen w all e (blank b is p none) = of_none seen w e none
word_in_range before bytes rest seen w all e (line_comment text is p q none) = of_none seen w e none
word_in_range before bytes rest seen w all e (block_comment text is p none) = of_none seen w e none
word_in_range before bytes rest seen w all e (skipped_line margin text is m p q r s none) = of_none seen w e none
word_in_range before bytes rest seen w all e (identifier first others is p q r some) = of_some seen w _ e some tt
word_in_range before bytes rest seen w all e (keyword k is some) = of_some seen w _ e some tt
word_in_range before bytes rest seen w all e (integer_constant v p q some) = of_some seen w v e some (number_in_range bytes v p)
word_in_range before bytes rest seen w all e (character_constant body value is p some) =
    of_some seen w (character value) e some (values_small 39 body (value ∷ []) (front body (39 ∷ []) (subst (Every IsByte) is all).1) p).0
word_in_range before bytes rest seen w all e (string_literal body values is p some) =
    of_some seen w (string values) e some (values_small 34 body values (front body (34 ∷ []) (subst (Every IsByte) is all).1) p)
word_in_range before bytes rest seen w all e (punctuator m is p some) = of_some seen w _ e some tt

with_seen : (line : ℕ) (seen : Option Word) (tokens : List Token) → ((w : Word) → seen ≡ Some w → WordInRange w) → TokensInRange tokens → TokensInRange (with_line line seen tokens)
with_seen line None tokens h all = all
with_seen line (Some w) tokens h all = (h w refl, all)

tokens_in_range : {before text read rest : List ℕ} {tokens : List Token} → Every IsByte text → Cut before text tokens read rest → TokensInRange tokens
tokens_in_range all end = tt
tokens_in_range all (piece {before} {text} {bytes} {middle} {read} {rest} {seen} {tokens} r cut) =
    let whole = subst (Every IsByte) r.cut all in
    with_seen (line_behind before) seen tokens
    (λ w e. word_in_range before bytes middle seen w (front bytes middle whole) e r.piece)
    (tokens_in_range (back bytes middle whole) cut)

all_placed : (i : ℕ) (tokens : List Token) → TokensInRange tokens → WordsInRange (placed i tokens)
all_placed i [] all = tt
all_placed i (t ∷ tokens) all = (all.0, all_placed (i + 1) tokens all.1)

pub words_in_range : (text : List ℕ) (tokens : List Token) → Every IsByte text → Cut [] text tokens text [] → WordsInRange (placed 0 tokens)
words_in_range text tokens all cut = all_placed 0 tokens (tokens_in_range all cut)
