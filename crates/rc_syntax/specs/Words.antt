-- The words of a text (ISO C 6.4): the text is cut into blanks, comments, skipped lines and words, and each piece is the longest
-- that stands at its place.
use Rattle.std.specs.Prelude.{ℕ, ◌≡◌, ◌≤◌, List, [], ◌∷◌, ◌++◌, length, Option, Some, None, Bool, true, false, ◌||◌, ◌&&◌, ◌==◌, codes}
use Rattle.rc_syntax.specs.declared.word.Key.{Key}
use Rattle.rc_syntax.specs.declared.word.Mark.{Mark}
use Rattle.rc_syntax.specs.Tokens.{Word, name, character, string, key, mark, Token}
use Rattle.rc_syntax.specs.Spellings.{key_spelling, mark_spelling}
use Rattle.rc_syntax.specs.Bytes.{is_blank, is_margin, is_letter, in_name, in_line, Each, begins, line_behind, IsMargin}
use Rattle.rc_syntax.specs.Numerals.{Number}
use Rattle.rc_syntax.specs.Literals.{WritesAll}

-- an end of a comment is inside these bytes
abbrev pub HasEnd : List ℕ → Type 0
HasEnd bytes = (front back : List ℕ) × (bytes ≡ front ++ 42 ∷ 47 ∷ back)

-- `/` before `/` or `*` opens a comment, and is no mark
abbrev pub opens_comment : List ℕ → Bool
opens_comment [] = false
opens_comment (b ∷ bytes) = b == 47 && begins (λ c. c == 47 || c == 42) bytes

-- what may not stand directly behind a number
abbrev pub continues_number : ℕ → Bool
continues_number b = in_name b || b == 46

-- behind the bytes before it and in front of the rest, this piece of a text is a word, or else a blank, a comment or a skipped line
pub data Piece (before bytes rest : List ℕ) (seen : Option Word) : Type 0 where
  blank : (b : ℕ) → bytes ≡ b ∷ [] → is_blank b ≡ true → seen ≡ None → Piece before bytes rest seen
  line_comment : (text : List ℕ) → bytes ≡ 47 ∷ 47 ∷ text → Each in_line text → begins in_line rest ≡ false → seen ≡ None → Piece before bytes rest seen
  block_comment : (text : List ℕ) → bytes ≡ 47 ∷ 42 ∷ (text ++ 42 ∷ 47 ∷ []) → (HasEnd text → ⊥) → seen ≡ None → Piece before bytes rest seen
  skipped_line : (margin text : List ℕ) → bytes ≡ 35 ∷ (margin ++ (codes "include" ++ text)) → IsMargin before → Each is_margin margin →
      begins in_name text ≡ false → Each in_line text → begins in_line rest ≡ false → seen ≡ None → Piece before bytes rest seen
  identifier : (first : ℕ) (others : List ℕ) → bytes ≡ first ∷ others → is_letter first ≡ true → Each in_name others →
      ((k : Key) → key_spelling k ≡ bytes → ⊥) → seen ≡ Some (name bytes) → Piece before bytes rest seen
  keyword : (k : Key) → bytes ≡ key_spelling k → seen ≡ Some (key k) → Piece before bytes rest seen
  integer_constant : (w : Word) → Number bytes w → begins continues_number rest ≡ false → seen ≡ Some w → Piece before bytes rest seen
  character_constant : (body : List ℕ) (value : ℕ) → bytes ≡ 39 ∷ (body ++ 39 ∷ []) → WritesAll 39 body (value ∷ []) → seen ≡ Some (character value) → Piece before bytes rest seen
  string_literal : (body values : List ℕ) → bytes ≡ 34 ∷ (body ++ 34 ∷ []) → WritesAll 34 body values → seen ≡ Some (string values) → Piece before bytes rest seen
  punctuator : (m : Mark) → bytes ≡ mark_spelling m → opens_comment (bytes ++ rest) ≡ false → seen ≡ Some (mark m) → Piece before bytes rest seen

-- behind these bytes the text begins with this piece, and with none that is longer
pub record Reads (before text bytes : List ℕ) (seen : Option Word) (rest : List ℕ) : Type 0 where
  pub cut : text ≡ bytes ++ rest
  pub piece : Piece before bytes rest seen
  pub longest : (longer further : List ℕ) (other : Option Word) → text ≡ longer ++ further → Piece before longer further other → length longer ≤ length bytes

abbrev pub with_line : ℕ → Option Word → List Token → List Token
with_line line None tokens = tokens
with_line line (Some w) tokens = record { word = w; line = line } ∷ tokens

-- behind the bytes before it the text is cut into these words, up to the rest, behind all that was read
pub data Cut : List ℕ → List ℕ → List Token → List ℕ → List ℕ → Type 0 where
  end : {before text : List ℕ} → Cut before text [] before text
  piece : {before text bytes middle read rest : List ℕ} {seen : Option Word} {tokens : List Token} → Reads before text bytes seen middle →
      Cut (before ++ bytes) middle tokens read rest → Cut before text (with_line (line_behind before) seen tokens) read rest

-- the whole text is these words
abbrev pub Words : List ℕ → List Token → Type 0
Words text tokens = Cut [] text tokens text []

-- no piece stands at the front of the text, behind the bytes before it
abbrev pub IsStuck : List ℕ → List ℕ → Type 0
IsStuck before text = (bytes rest : List ℕ) (seen : Option Word) → text ≡ bytes ++ rest → Piece before bytes rest seen → ⊥

-- the text can be cut up to this byte of this line, and no further
pub record StopsAt (text : List ℕ) (byte line : ℕ) : Type 0 where
  pub tokens : List Token
  pub read : List ℕ
  pub others : List ℕ
  pub cut : Cut [] text tokens read (byte ∷ others)
  pub stuck : IsStuck read (byte ∷ others)
  pub on_line : line ≡ line_behind read

-- some word begins with the byte
abbrev pub BeginsWord : ℕ → Type 0
BeginsWord byte = (others : List ℕ) × (rest : List ℕ) × (w : Word) × Piece [] (byte ∷ others) rest (Some w)

-- the first unread place: a byte that begins no word, or a word or a comment that is not well formed
abbrev pub UnreadByte : List ℕ → ℕ → Type 0
UnreadByte text line = (byte : ℕ) × StopsAt text byte line × (BeginsWord byte → ⊥)

abbrev pub UnreadToken : List ℕ → ℕ → Type 0
UnreadToken text line = (byte : ℕ) × StopsAt text byte line × BeginsWord byte
