-- What a text of limited length limits: how many words it has, and how long its string literals are.
use Rattle.std.proofs.Common.{◌≡◌, ◌≤◌, ◌+◌, ◌∙◌, ℕ, suc, refl, sym, subst, List, [], ◌∷◌, length, Option, Some, None, ap, arith, length-append}
use Rattle.rc_syntax.specs.declared.word.Token.{Token as CodeToken}
use Rattle.rc_syntax.specs.Tokens.{Word, Token, name, number, character, string, key, mark}
use Rattle.rc_syntax.specs.WordShapes.{tokens_of}
use Rattle.rc_syntax.specs.Numerals as numerals
use Rattle.rc_syntax.specs.Numerals.{Number}
use Rattle.rc_syntax.specs.Literals as literals
use Rattle.rc_syntax.specs.Literals.{Writes, WritesAll}
use Rattle.rc_syntax.specs.Words.{Piece, blank, line_comment, block_comment, skipped_line, identifier, keyword, integer_constant, character_constant, string_literal, punctuator, Cut, end, piece, with_line}
use Rattle.rc_syntax.specs.Bytes.{line_behind}
use Rattle.rc_syntax.specs.Tree.{Tree}
use Rattle.rc_syntax.specs.Grammar.{Placed, Text, Derives, node, placed}
use Rattle.rc_syntax.proofs.CutLaws.{reads_look}
use Rattle.rc_syntax.proofs.PieceLaws.{look_fits}
use Rattle.rc_deletes.specs.Limits.{AreShort, IsShort}
use Rattle.rc_typing.specs.Checks.{IsWritten}
use Rattle.rc_compile.specs.Acceptance.{HasWords}
use Rattle.rc_compile.specs.Answers.{IsOnlyTree}

one_more : (line : ℕ) (seen : Option Word) (tokens : List Token) → length (with_line line seen tokens) ≤ 1 + length tokens
one_more line None tokens = omega arith
one_more line (Some w) tokens = omega arith

pub words_fit : {before text read rest : List ℕ} {tokens : List Token} → Cut before text tokens read rest → length tokens + length rest ≤ length text
words_fit end = omega arith
words_fit (piece {before} {text} {bytes} {middle} {read} {rest} {seen} {tokens} r cut) =
    let some = (look_fits before text (length bytes, seen) (reads_look before text bytes middle seen r)).0 in
    let more = words_fit cut in
    let whole : length text ≡ length bytes + length middle = ap length r.cut ∙ length-append bytes middle in
    omega (arith, some, more, whole, one_more (line_behind before) seen tokens)

pub few_words : (text : List ℕ) (tokens : List Token) → HasWords text tokens → length tokens ≤ 1048576
few_words text tokens has = let short = has.short in let fit = words_fit has.words in omega (arith, short, fit)

same_number : (tokens : List CodeToken) → length (tokens_of tokens) ≡ length tokens
same_number [] = refl
same_number (t ∷ tokens) = ap suc (same_number tokens)

pub few_code_words : (text : List ℕ) (tokens : List CodeToken) → HasWords text (tokens_of tokens) → length tokens ≤ 1048576
few_code_words text tokens has = let few = few_words text (tokens_of tokens) has in let same = same_number tokens in omega (arith, few, same)

-- a string literal among the words has no more bytes than this
abbrev Short : ℕ → Word → Type 0
Short most (string bytes) = length bytes ≤ most
Short most _ = Unit {0}

abbrev AllShort : ℕ → List Token → Type 0
AllShort most [] = Unit {0}
AllShort most (t ∷ tokens) = Short most t.word × AllShort most tokens

-- each value is written by some byte
some_byte : (q : ℕ) (bytes further : List ℕ) (value : ℕ) → Writes q bytes further value → 1 ≤ length bytes
some_byte q bytes further value (literals.plain is p) = omega (arith, ap length is)
some_byte q bytes further value (literals.simple letter is s) = omega (arith, ap length is)
some_byte q bytes further value (literals.octal digits is each some few ends same small) = omega (arith, ap length is)
some_byte q bytes further value (literals.hexadecimal digits is each some few ends same) = omega (arith, ap length is)

values_fit : (q : ℕ) (bytes values : List ℕ) → WritesAll q bytes values → length values ≤ length bytes
values_fit q bytes [] all = omega arith
values_fit q bytes (value ∷ values) (first, further, is, writes, all) =
    let some = some_byte q first further value writes in
    let more = values_fit q further values all in
    let whole : length bytes ≡ length first + length further = ap length is ∙ length-append first further in
    omega (arith, some, more, whole)

of_some : (n : ℕ) (seen : Option Word) (w v : Word) → seen ≡ Some w → seen ≡ Some v → Short n v → Short n w
of_some n seen w v e f h = subst (Short n) (let same : Some v ≡ Some w = sym f ∙ e in cc) h

of_none : {A : Type 0} (seen : Option Word) (w : Word) → seen ≡ Some w → seen ≡ None → A
of_none seen w e f = absurd (let none : Some w ≡ None = sym e ∙ f in cc)

of_number : (n : ℕ) (bytes : List ℕ) (w : Word) → Number bytes w → Short n w
of_number n bytes w (numerals.unsuffixed base value unsigned numeral typed is) = subst (Short n) (sym is) tt
of_number n bytes w (numerals.suffixed digits suffix base value unsigned cut suffixes numeral typed is) = subst (Short n) (sym is) tt

short_word : (before bytes rest : List ℕ) (seen : Option Word) (w : Word) → seen ≡ Some w → Piece before bytes rest seen → Short (length bytes) w
short_word before bytes rest seen w e (blank b is p none) = of_none seen w e none
short_word before bytes rest seen w e (line_comment text is p q none) = of_none seen w e none
short_word before bytes rest seen w e (block_comment text is p none) = of_none seen w e none
short_word before bytes rest seen w e (skipped_line margin text is m p q r s none) = of_none seen w e none
short_word before bytes rest seen w e (identifier first others is p q r some) = of_some (length bytes) seen w _ e some tt
short_word before bytes rest seen w e (keyword k is some) = of_some (length bytes) seen w _ e some tt
short_word before bytes rest seen w e (integer_constant v p q some) = of_some (length bytes) seen w v e some (of_number (length bytes) bytes v p)
short_word before bytes rest seen w e (character_constant body value is p some) = of_some (length bytes) seen w _ e some tt
short_word before bytes rest seen w e (string_literal body values is p some) =
    let fit = values_fit 34 body values p in
    of_some (length bytes) seen w (string values) e some (omega (arith, fit, ap length is, length-append body (34 ∷ [])))
short_word before bytes rest seen w e (punctuator m is p some) = of_some (length bytes) seen w _ e some tt

longer : (m n : ℕ) (w : Word) → m ≤ n → Short m w → Short n w
longer m n (string bytes) le h = omega (arith, le, h)
longer m n (name bytes) le h = tt
longer m n (number value unsigned) le h = tt
longer m n (character value) le h = tt
longer m n (key k) le h = tt
longer m n (mark i) le h = tt

with_seen : (n line : ℕ) (seen : Option Word) (tokens : List Token) → ((w : Word) → seen ≡ Some w → Short n w) → AllShort n tokens → AllShort n (with_line line seen tokens)
with_seen n line None tokens h all = all
with_seen n line (Some w) tokens h all = (h w refl, all)

strings_fit : {before text read rest : List ℕ} {tokens : List Token} (n : ℕ) → length text ≤ n → Cut before text tokens read rest → AllShort n tokens
strings_fit n le end = tt
strings_fit n le (piece {before} {text} {bytes} {middle} {read} {rest} {seen} {tokens} r cut) =
    let whole : length text ≡ length bytes + length middle = ap length r.cut ∙ length-append bytes middle in
    with_seen n (line_behind before) seen tokens
    (λ w e. longer (length bytes) n w (omega (arith, le, whole)) (short_word before bytes middle seen w e r.piece))
    (strings_fit n (omega (arith, le, whole)) cut)

is_short : (w : Word) → Short 1048576 w → IsShort w
is_short (string bytes) h = h
is_short (name bytes) h = tt
is_short (number value unsigned) h = tt
is_short (character value) h = tt
is_short (key k) h = tt
is_short (mark i) h = tt

are_short : (i : ℕ) (tokens : List Token) → AllShort 1048576 tokens → AreShort (placed i tokens)
are_short i [] h = tt
are_short i (t ∷ tokens) h = (is_short t.word h.0, are_short (i + 1) tokens h.1)

same_count : (i : ℕ) (tokens : List Token) → length (placed i tokens) ≡ length tokens
same_count i [] = refl
same_count i (t ∷ tokens) = ap suc (same_count (i + 1) tokens)

-- the tree of a text is that of few words, whose strings are no longer than the text
pub record IsOfFewWords (tree : Tree) : Type 0 where
  pub words : List Placed
  pub derived : Derives words (node Text tree.items)
  pub few : length words ≤ 1048576
  pub short : AreShort words

pub of_few_words : (text : List ℕ) (tree : Tree) → IsOnlyTree text tree → IsOfFewWords tree
of_few_words text tree only =
    let is = only.is_tree in
    let few = few_words text is.tokens is.has_words in
    let count = same_count 0 is.tokens in
    record {
      words = placed 0 is.tokens;
      derived = is.derived;
      few = omega (arith, few, count);
      short = are_short 0 is.tokens (strings_fit 1048576 is.has_words.short is.has_words.words);
    }

pub is_written : (text : List ℕ) (tree : Tree) → IsOnlyTree text tree → IsWritten tree
is_written text tree only =
    let is = of_few_words text tree only in
    let few = is.few in
    record { words = is.words; derived = is.derived; few = omega (arith, few); short = is.short }
