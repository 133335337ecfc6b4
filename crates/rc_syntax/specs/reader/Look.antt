-- The piece at the front of a text, found byte by byte: what `Words` relates is shown to be found here, and the code follows it.
use Rattle.std.specs.Prelude.{ℕ, zero, suc, ◌+◌, ◌-◌, List, [], ◌∷◌, length, take, drop, fold, Option, Some, None, Bool, true, false, not, ◌||◌, ◌&&◌, ◌==◌, nat_le, nat_eq, if◌then◌else◌, codes, slice_index}
use Rattle.std.specs.List.{prefix_len, list_all, starts_with}
use Rattle.rc_syntax.specs.declared.word.Key.{Key}
use Rattle.rc_syntax.specs.declared.word.Mark.{Mark}
use Rattle.rc_syntax.specs.Tokens.{Word, name, number, character, string, key, mark}
use Rattle.rc_syntax.specs.Spellings.{mark_spelling, key_named, mark_named}
use Rattle.rc_syntax.specs.Bytes.{is_blank, is_margin, is_letter, is_decimal, is_octal, is_hexadecimal, in_name, in_line, begins}
use Rattle.rc_syntax.specs.Numerals.{value_in, is_suffix, number_type}
use Rattle.rc_syntax.specs.Literals.{is_plain, simple_escape}

-- what a byte can begin
pub data Class : Type 0 where
  blank : Class
  letter : Class
  digit : Class
  quote : Class
  double_quote : Class
  slash : Class
  hash : Class
  other : Class

abbrev pub class_of : ℕ → Class
class_of b =
    if is_blank b then blank else (if is_letter b then letter else (if is_decimal b then digit else
    (if b == 39 then quote else (if b == 34 then double_quote else (if b == 47 then slash else (if b == 35 then hash else other))))))

-- how many bytes there are, and which word they are, or none
abbrev pub Seen : Type 0
Seen = ℕ × Option Word

abbrev pub key_or_name : List ℕ → Option Key → Word
key_or_name bytes None = name bytes
key_or_name bytes (Some k) = key k

abbrev pub name_word : List ℕ → Word
name_word bytes = key_or_name bytes (key_named bytes)

abbrev pub is_x : ℕ → Bool
is_x b = b == 120 || b == 88

-- the base of a numeral, and how many bytes stand before its digits
abbrev pub base_of : List ℕ → ℕ × ℕ
base_of [] = (10, 0)
base_of (b ∷ rest) = if b == 48 then (if begins is_x rest then (16, 2) else (8, 1)) else (10, 0)

abbrev pub is_digit_in : ℕ → ℕ → Bool
is_digit_in base b = if base == 16 then is_hexadecimal b else (if base == 8 then is_octal b else is_decimal b)

abbrev pub value_at : ℕ → List ℕ → Option ℕ
value_at base digits = if list_all (is_digit_in base) digits && nat_le (value_in base digits) 4294967295 then Some (value_in base digits) else None

abbrev pub typed : ℕ → Option Bool → Option Word
typed value None = None
typed value (Some unsigned) = Some (number value unsigned)

abbrev pub number_in : ℕ → Bool → Option ℕ → Option Word
number_in base suffixed None = None
number_in base suffixed (Some value) = typed value (number_type base value suffixed)

abbrev pub numeral_word : Bool → List ℕ → Option Word
numeral_word suffixed bytes =
    if (base_of bytes).0 == 16 && nat_le (length bytes) 2 then None else number_in (base_of bytes).0 suffixed (value_at (base_of bytes).0 (drop (base_of bytes).1 bytes))

abbrev pub number_word : List ℕ → Option Word
number_word bytes = if is_suffix (slice_index bytes (length bytes - 1)) then numeral_word true (take (length bytes - 1) bytes) else numeral_word false bytes

abbrev pub found_word : ℕ → Option Word → Option Seen
found_word n None = None
found_word n (Some w) = Some (n, Some w)

abbrev pub number_at : ℕ → ℕ → List ℕ → Option Seen
number_at n b rest = if begins (λ c. c == 46) (drop n rest) then None else found_word (suc n) (number_word (b ∷ take n rest))

abbrev pub simple_at : Option ℕ → Option (ℕ × ℕ)
simple_at None = None
simple_at (Some value) = Some (2, value)

abbrev pub octal_at : ℕ → List ℕ → Option (ℕ × ℕ)
octal_at n bytes = if nat_le (value_in 8 (take n bytes)) 255 then Some (suc n, value_in 8 (take n bytes)) else None

abbrev pub hexadecimal_at : ℕ → List ℕ → Option (ℕ × ℕ)
hexadecimal_at n bytes = if n == 1 || n == 2 then Some (suc (suc n), value_in 16 (take n bytes)) else None

-- how many bytes an escape has, the `\` before it counted, and its value
abbrev pub escape_at : List ℕ → Option (ℕ × ℕ)
escape_at [] = None
escape_at (b ∷ rest) =
    if b == 120 then hexadecimal_at (prefix_len is_hexadecimal (take 3 rest)) rest
    else (if is_octal b then octal_at (prefix_len is_octal (take 3 (b ∷ rest))) (b ∷ rest) else simple_at (simple_escape b))

-- the next value of a literal
abbrev pub value_next : ℕ → List ℕ → Option (ℕ × ℕ)
value_next q [] = None
value_next q (b ∷ rest) = if b == 92 then escape_at rest else (if is_plain q b then Some (1, b) else None)

abbrev pub closed : ℕ → Option (ℕ × ℕ) → List ℕ → Option Seen
closed q None rest = None
closed q (Some x) rest = if begins (λ c. c == q) (drop x.0 rest) then Some (suc (suc x.0), Some (character x.1)) else None

abbrev pub one_further : Option (ℕ × List ℕ) → Option (ℕ × List ℕ)
one_further None = None
one_further (Some x) = Some (suc x.0, x.1)

abbrev pub one_value : Option (ℕ × ℕ) → (ℕ → Option (ℕ × List ℕ)) → Option (ℕ × List ℕ)
one_value None more = None
one_value (Some x) more = joined x.1 (more x.0)
  where
    joined : ℕ → Option (ℕ × List ℕ) → Option (ℕ × List ℕ)
    joined value None = None
    joined value (Some y) = Some (suc y.0, value ∷ y.1)

-- how many bytes stand before the closing quote, the skipped ones counted, and what the others write
abbrev pub body_at : ℕ → ℕ → List ℕ → Option (ℕ × List ℕ)
body_at q skip [] = None
body_at q (suc skip) (b ∷ rest) = one_further (body_at q skip rest)
body_at q zero (b ∷ rest) = if b == q then Some (0, []) else one_value (value_next q (b ∷ rest)) (λ n. body_at q (n - 1) rest)

abbrev pub string_of : Option (ℕ × List ℕ) → Option Seen
string_of None = None
string_of (Some x) = Some (suc (suc x.0), Some (string x.1))

abbrev pub further_end : Option ℕ → Option ℕ
further_end None = None
further_end (Some n) = Some (suc n)

-- how many bytes there are through the first end of a comment
abbrev pub comment_end : List ℕ → Option ℕ
comment_end [] = None
comment_end (b ∷ rest) = if b == 42 && begins (λ c. c == 47) rest then Some 2 else further_end (comment_end rest)

abbrev pub skipped : ℕ → Option ℕ → Option Seen
skipped n None = None
skipped n (Some m) = Some (n + m, None)

abbrev pub found_mark : Option Mark → Option Seen
found_mark None = None
found_mark (Some m) = Some (length (mark_spelling m), Some (mark m))

abbrev pub mark_at : List ℕ → Option Seen
mark_at text = found_mark (mark_named text)

abbrev pub slash_at : ℕ → List ℕ → Option Seen
slash_at b rest =
    if begins (λ c. c == 47) rest then Some (suc (suc (prefix_len in_line (drop 1 rest))), None)
    else (if begins (λ c. c == 42) rest then skipped 2 (comment_end (drop 1 rest)) else mark_at (b ∷ rest))

-- whether only spaces and tabs stand on the line of what follows, by the bytes before
abbrev pub is_in_margin : List ℕ → Bool
is_in_margin before = fold (λ fresh b. if b == 10 then true else (fresh && is_margin b)) true before

-- behind a `#` and its margin: how many bytes there are from `include` on
abbrev pub include_at : List ℕ → Option ℕ
include_at rest = if starts_with nat_eq rest (codes "include") && not (begins in_name (drop 7 rest)) then Some (7 + prefix_len in_line (drop 7 rest)) else None

abbrev pub hash_at : List ℕ → List ℕ → Option Seen
hash_at before rest = if is_in_margin before then skipped (suc (prefix_len is_margin rest)) (include_at (drop (prefix_len is_margin rest) rest)) else None

abbrev pub look_as : Class → List ℕ → ℕ → List ℕ → Option Seen
look_as blank before b rest = Some (1, None)
look_as letter before b rest = Some (suc (prefix_len in_name rest), Some (name_word (b ∷ take (prefix_len in_name rest) rest)))
look_as digit before b rest = number_at (prefix_len in_name rest) b rest
look_as quote before b rest = closed 39 (value_next 39 rest) rest
look_as double_quote before b rest = string_of (body_at 34 0 rest)
look_as slash before b rest = slash_at b rest
look_as hash before b rest = hash_at before rest
look_as other before b rest = mark_at (b ∷ rest)

abbrev pub look : List ℕ → List ℕ → Option Seen
look before [] = None
look before (b ∷ rest) = look_as (class_of b) before b rest
