-- How words are printed: each in one spelling, with a single blank between each two.
use Rattle.std.specs.Prelude.{ℕ, ◌≡◌, ◌≤◌, List, [], ◌∷◌, ◌++◌, map, flat_map, true, ◌==◌, if◌then◌else◌, codes, decimal}
use Rattle.std.specs.List.{join_by}
use Rattle.rc_syntax.specs.declared.word.Key.{Key}
use Rattle.rc_syntax.specs.Tokens.{Word, name, number, character, string, key, mark, Token}
use Rattle.rc_syntax.specs.Spellings.{key_spelling, mark_spelling}
use Rattle.rc_syntax.specs.Bytes.{is_letter, in_name, Each}
use Rattle.rc_syntax.specs.Literals.{is_plain}

-- A byte that may stand between these quotes stands for itself; a line feed is `\n`, and a `\` and the quote have a `\` before them.
abbrev pub byte_spelling : ℕ → ℕ → List ℕ
byte_spelling quote b = if is_plain quote b then b ∷ [] else (if b == 10 then codes "\\n" else 92 ∷ b ∷ [])

abbrev pub quoted : ℕ → List ℕ → List ℕ
quoted quote values = quote ∷ (flat_map (byte_spelling quote) values ++ quote ∷ [])

abbrev pub spelling : Word → List ℕ
spelling (name bytes) = bytes
spelling (number value unsigned) = if unsigned then decimal value ++ codes "u" else decimal value
spelling (character value) = quoted 39 (value ∷ [])
spelling (string values) = quoted 34 values
spelling (key k) = key_spelling k
spelling (mark m) = mark_spelling m

abbrev pub printed : List Word → List ℕ
printed words = join_by spelling (codes " ") words

-- A letter, then letters and digits, and no reserved word.
pub record IsName (bytes : List ℕ) : Type 0 where
  pub first : ℕ
  pub others : List ℕ
  pub is : bytes ≡ first ∷ others
  pub letter : is_letter first ≡ true
  pub in_names : Each in_name others
  pub unreserved : (k : Key) → key_spelling k ≡ bytes → ⊥

-- The words that texts have: names are names, and the type of a number holds it.
abbrev pub IsPrintable : Word → Type 0
IsPrintable (name bytes) = IsName bytes
IsPrintable (number value unsigned) = value ≤ (if unsigned then 4294967295 else 2147483647)
IsPrintable _ = Unit {0}

abbrev pub word_in : Token → Word
word_in t = t.word

abbrev pub words_in : List Token → List Word
words_in tokens = map word_in tokens

-- The words, all on line 1.
abbrev pub on_first_line : List Word → List Token
on_first_line [] = []
on_first_line (w ∷ words) = record { word = w; line = 1 } ∷ on_first_line words
