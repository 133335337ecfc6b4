-- The spelling of a word is found where it stands, with a blank or nothing behind it.
use Rattle.std.proofs.Common.{ℕ, zero, suc, ◌≡◌, ◌<◌, ◌≤◌, ◌+◌, ◌*◌, ◌/◌, ◌%◌, ◌^◌, List, [], ◌∷◌, ◌++◌, length, take, drop, find, Some, Bool, true, false, not, ◌||◌, ◌&&◌, cond, refl, ap, sym, ◌∙◌, subst, arith, inl, inr}
use Rattle.std.proofs.lemmas.Bool.Decides.{nat_tests}
use Rattle.std.proofs.lemmas.Fmt.{decimal_digit, decimal_by_steps}
use Rattle.std.proofs.lemmas.List.Sums.{fold-append}
use Rattle.std.specs.Prelude.{◌==◌, ◌⊎◌, nat_le, bytes_eq, decimal, flat_map}
use Rattle.std.specs.List.{prefix_len, list_all}
use Rattle.rc_syntax.specs.declared.word.Mark.{Mark}
use Rattle.rc_syntax.specs.Tokens.{Word, name, number, character, string, key, mark}
use Rattle.rc_syntax.specs.Spellings.{key_spelling, mark_spelling, marks, mark_named}
use Rattle.rc_syntax.specs.Bytes.{is_letter, is_decimal, in_name, in_line, Each, begins}
use Rattle.rc_syntax.specs.Numerals.{digit_value, value_in, Numeral, decimal as decimal_numeral, octal, number_type, Number, unsuffixed, suffixed}
use Rattle.rc_syntax.specs.Literals.{is_plain, simple_escape, Writes, plain, simple, WritesAll}
use Rattle.rc_syntax.specs.Words.{opens_comment}
use Rattle.rc_syntax.specs.reader.Look.{name_word, number_word, found_mark, look}
use Rattle.rc_syntax.specs.printing.Printing.{byte_spelling, quoted, spelling, IsPrintable}
use Rattle.rc_syntax.proofs.ByteLaws.{byte_test, or_false, not_true, and_true, same_length, each_exact, take_front, each_of_all, each_append, each_mono}
use Rattle.rc_syntax.proofs.Classes.{class_letter}
use Rattle.rc_syntax.proofs.SpellingTables.{key_like_name, look_at_mark, mark_found}
use Rattle.rc_syntax.proofs.NamesAndMarks.{name_of_key, name_of_none, mark_named_at, mark_stands, same_mark}
use Rattle.rc_syntax.proofs.NumberLaws.{number_found, number_shape}
use Rattle.rc_syntax.proofs.PieceLaws.{name_head, digit_look, character_look, string_look}

-- a blank comes first, or nothing
abbrev pub Ends : List ℕ → Type 0
Ends [] = Unit {0}
Ends (b ∷ rest) = b ≡ 32

ends_begins : (p : ℕ → Bool) → p 32 ≡ false → (rest : List ℕ) → Ends rest → begins p rest ≡ false
ends_begins p h [] e = refl
ends_begins p h (b ∷ rest) e = ap p e ∙ h

-- a name, and a reserved word
letter_look : (before : List ℕ) (first : ℕ) (others rest : List ℕ) → is_letter first ≡ true → Each in_name others → Ends rest →
    look before (first ∷ others ++ rest) ≡ Some (suc (length others), Some (name_word (first ∷ others)))
letter_look before first others rest h i e =
    let c = class_letter first h in
    let m : prefix_len in_name (others ++ rest) ≡ length others = each_exact in_name others rest i (ends_begins in_name refl rest e) in
    let t : take (length others) (others ++ rest) ≡ others = take_front others rest in
    rw (c, m, t) refl

like_name_look : (before bytes rest : List ℕ) (first : ℕ) (others : List ℕ) → bytes ≡ first ∷ others → is_letter first ≡ true → Each in_name others → Ends rest →
    look before (bytes ++ rest) ≡ Some (length bytes, Some (name_word bytes))
like_name_look before bytes rest first others is h i e = rw is (letter_look before first others rest h i e)

-- a number in its decimal digits
record Digits (n : ℕ) (ds : List ℕ) : Type 0 where
  first : ℕ
  others : List ℕ
  is : ds ≡ first ∷ others
  each : Each is_decimal ds
  value : value_in 10 ds ≡ n
  no_zero : 1 ≤ n → (first == 48) ≡ false

digit_decimal : (d : ℕ) → d < 10 → is_decimal (48 + d) ≡ true
digit_decimal d h = grind (arith, nat_tests)

digit_is : (d : ℕ) → d < 10 → digit_value (48 + d) ≡ d
digit_is d h = let e = digit_decimal d h in rw e (omega arith)

no_zero_digit : (d : ℕ) → 1 ≤ d → (48 + d == 48) ≡ false
no_zero_digit d h = grind (arith, nat_tests)

one_digit : (n : ℕ) → n < 10 → Digits n ((48 + n) ∷ [])
one_digit n h = record { first = 48 + n; others = []; is = refl; each = (digit_decimal n h, tt); value = omega (arith, digit_is n h); no_zero = λ s. no_zero_digit n s }

digit_more : (n : ℕ) (ds : List ℕ) → 10 ≤ n → Digits (n / 10) ds → Digits n (ds ++ ((48 + n % 10) ∷ []))
digit_more n ds l d =
    let c = 48 + n % 10 in
    record {
      first = d.first;
      others = d.others ++ c ∷ [];
      is = ap (λ z. z ++ c ∷ []) d.is;
      each = each_append is_decimal ds (c ∷ []) d.each (digit_decimal (n % 10) (omega arith), tt);
      value = fold-append (λ value b. value * 10 + digit_value b) 0 ds (c ∷ []) ∙ omega (arith, d.value, digit_is (n % 10) (omega arith));
      no_zero = λ s. d.no_zero (omega arith);
    }

decimal_digits : (n : ℕ) → n < 2 ^ 64 → Digits n (decimal n)
decimal_digits = decimal_by_steps Digits one_digit digit_more

decimal_is : (n : ℕ) → n ≤ 4294967295 → (base : ℕ) × Numeral (decimal n) base n
decimal_is zero h = (8, octal [] (decimal_digit 0 (omega arith)) tt refl refl)
decimal_is (suc n) h = let d = decimal_digits (suc n) (omega arith) in (10, decimal_numeral d.first d.others d.is (d.no_zero (omega arith)) d.each refl (sym d.value))

le_test : (a b : ℕ) → a ≤ b → nat_le a b ≡ true
le_test a b h = grind (arith, nat_tests)

unsigned_type : (base value : ℕ) → value ≤ 4294967295 → number_type base value true ≡ Some true
unsigned_type base value h = let e = le_test value 4294967295 h in rw e refl

int_type : (base value : ℕ) → value ≤ 2147483647 → number_type base value false ≡ Some false
int_type base value h =
    let e = le_test value 4294967295 (omega arith) in
    let f = le_test value 2147483647 h in
    rw (e, f) refl

spelled_number : (value : ℕ) (unsigned : Bool) → IsPrintable (number value unsigned) → Number (spelling (number value unsigned)) (number value unsigned)
spelled_number value true h = let d = decimal_is value h in suffixed (decimal value) 117 d.0 value true refl refl d.1 (unsigned_type d.0 value h) refl
spelled_number value false h = let d = decimal_is value (omega arith) in unsuffixed d.0 value false d.1 (int_type d.0 value h) refl

number_look : (before bytes rest : List ℕ) (w : Word) → Number bytes w → Ends rest → look before (bytes ++ rest) ≡ Some (length bytes, Some w)
number_look before bytes rest w n e =
    let x = number_shape bytes w n in
    let m : prefix_len in_name (x.others ++ rest) ≡ length x.others = each_exact in_name x.others rest x.in_names (ends_begins in_name refl rest e) in
    rw (x.is) (digit_look before x.first x.others rest w x.digit m (ends_begins (λ z. z == 46) refl rest e) (ap number_word (sym x.is) ∙ number_found bytes w n))

-- bytes between quotes
or_true : (x y : Bool) → (x || y) ≡ true → (x ≡ true) ⊎ (y ≡ true)
or_true true y e = inl refl
or_true false y e = inr e

not_false : (x : Bool) → not x ≡ false → x ≡ true
not_false true e = refl
not_false false e = absurd (cc)

-- a byte that isn't plain is a line feed, or one that a `\` stands before
escapes : (q b : ℕ) → (q ≡ 39) ⊎ (q ≡ 34) → is_plain q b ≡ false → (b == 10) ≡ false → simple_escape b ≡ Some b
escapes q b q_is h f = elim (or_true (b == 92) (b == q) (first (b == 10) f (not_false ((b == 10) || ((b == 92) || (b == q))) h))) [
  | inl e ↦ of_backslash (byte_test b 92 e)
  | inr e ↦ of_quote (byte_test b q e)
]
  where
    first : (v : Bool) → v ≡ false → (v || ((b == 92) || (b == q))) ≡ true → ((b == 92) || (b == q)) ≡ true
    first true e i = absurd (cc)
    first false e i = i

    of_backslash : b ≡ 92 → simple_escape b ≡ Some b
    of_backslash e = rw e refl

    of_quote : b ≡ q → simple_escape b ≡ Some b
    of_quote e = elim q_is [
      | inl i ↦ (let j : b ≡ 39 = e ∙ i in rw j refl)
      | inr i ↦ (let j : b ≡ 34 = e ∙ i in rw j refl)
    ]

byte_writes : (q b : ℕ) (further : List ℕ) → (q ≡ 39) ⊎ (q ≡ 34) → Writes q (byte_spelling q b) further b
byte_writes q b further q_is = go (is_plain q b) refl
  where
    escaped : is_plain q b ≡ false → (v : Bool) → (b == 10) ≡ v → Writes q (cond v (92 ∷ 110 ∷ []) (92 ∷ b ∷ [])) further b
    escaped h true e = simple 110 refl (ap Some (sym (byte_test b 10 e)))
    escaped h false e = simple b refl (escapes q b q_is h e)

    go : (v : Bool) → is_plain q b ≡ v → Writes q (cond v (b ∷ []) (cond (b == 10) (92 ∷ 110 ∷ []) (92 ∷ b ∷ []))) further b
    go true e = plain refl e
    go false e = escaped e (b == 10) refl

all_writes : (q : ℕ) (values : List ℕ) → (q ≡ 39) ⊎ (q ≡ 34) → WritesAll q (flat_map (byte_spelling q) values) values
all_writes q [] h = refl
all_writes q (v ∷ values) h = (byte_spelling q v, flat_map (byte_spelling q) values, refl, byte_writes q v (flat_map (byte_spelling q) values) h, all_writes q values h)

-- a mark: none has a blank or a line feed in it, and none opens a comment
abbrev is_inked : ℕ → Bool
is_inked b = in_line b && not (b == 32)

abbrev mark_is_inked : Mark → Bool
mark_is_inked m = list_all is_inked (mark_spelling m) && not (opens_comment (mark_spelling m))

marks_are_inked : list_all mark_is_inked marks ≡ true
unfolding marks
marks_are_inked = refl

some_is : {A : Type 0} {x y : A} → Some x ≡ Some y → x ≡ y
some_is e = cc

found_passes : {X : Type 0} (p q : X → Bool) (xs : List X) (x : X) → list_all q xs ≡ true → find p xs ≡ Some x → q x ≡ true
found_passes p q [] x h e = absurd (cc)
found_passes p q (y ∷ ys) x h e = go (p y) e (found_passes p q ys x (and_true (q y) (list_all q ys) h).1)
  where
    go : (v : Bool) → cond v (Some y) (find p ys) ≡ Some x → (find p ys ≡ Some x → q x ≡ true) → q x ≡ true
    go true f more = ap q (sym (some_is f)) ∙ (and_true (q y) (list_all q ys) h).0
    go false f more = more f

inked : (m : Mark) → (list_all is_inked (mark_spelling m) ≡ true) × (not (opens_comment (mark_spelling m)) ≡ true)
inked m = and_true (list_all is_inked (mark_spelling m)) (not (opens_comment (mark_spelling m))) (found_passes (λ x. bytes_eq (mark_spelling x) (mark_spelling m)) mark_is_inked marks m marks_are_inked (mark_found m))

blank_not_inked : (b : ℕ) → is_inked b ≡ true → b ≡ 32 → ⊥
blank_not_inked b h e = let f : true ≡ false = sym h ∙ ap is_inked e in cc

ends_shorter : (xs rest ys more : List ℕ) → xs ++ rest ≡ ys ++ more → Each is_inked ys → Ends rest → length ys ≤ length xs
ends_shorter xs rest [] more e h i = omega arith
ends_shorter [] [] (y ∷ ys) more e h i = absurd (cc)
ends_shorter [] (b ∷ rest) (y ∷ ys) more e h i = absurd (blank_not_inked y h.0 (let f : y ≡ b = cc in f ∙ i))
ends_shorter (x ∷ xs) rest (y ∷ ys) more e h i = let f : xs ++ rest ≡ ys ++ more = cc in omega (arith, ends_shorter xs rest ys more f h.1 i)

and_false : (x y : Bool) → y ≡ false → (x && y) ≡ false
and_false true y e = e
and_false false y e = refl

no_comment : (bytes rest : List ℕ) → opens_comment bytes ≡ false → Ends rest → opens_comment (bytes ++ rest) ≡ false
no_comment [] [] h e = refl
no_comment [] (b ∷ rest) h e = rw e refl
no_comment (b ∷ []) rest h e = and_false (b == 47) (begins (λ c. c == 47 || c == 42) rest) (ends_begins (λ c. c == 47 || c == 42) refl rest e)
no_comment (b ∷ c ∷ bytes) rest h e = h

mark_look : (before : List ℕ) (m : Mark) (rest : List ℕ) → Ends rest → look before (mark_spelling m ++ rest) ≡ Some (length (mark_spelling m), Some (mark m))
mark_look before m rest e =
    let text = mark_spelling m ++ rest in
    let x = mark_named_at m rest in
    let y = x.0 in
    let s = mark_stands text y x.1 in
    let short = ends_shorter (mark_spelling m) rest (mark_spelling y) (drop (length (mark_spelling y)) text) s (each_of_all is_inked (mark_spelling y) (inked y).0) e in
    let same : length (mark_spelling m) ≡ length (mark_spelling y) = omega (arith, short, x.2) in
    let is : m ≡ y = same_mark m y (same_length (mark_spelling m) rest (mark_spelling y) (drop (length (mark_spelling y)) text) s same).0 in
    let found : mark_named text ≡ Some m = x.1 ∙ ap Some (sym is) in
    look_at_mark before rest m (no_comment (mark_spelling m) rest (not_true (opens_comment (mark_spelling m)) (inked m).1) e) ∙ ap found_mark found

-- The spelling of a word is found as the word.
pub spelling_look : (before : List ℕ) (w : Word) (rest : List ℕ) → IsPrintable w → Ends rest → look before (spelling w ++ rest) ≡ Some (length (spelling w), Some w)
spelling_look before (name bytes) rest h e =
    like_name_look before bytes rest h.first h.others h.is h.letter h.in_names e ∙ ap (λ z. Some (length bytes, Some z)) (name_of_none bytes h.unreserved)
spelling_look before (number value unsigned) rest h e = number_look before (spelling (number value unsigned)) rest (number value unsigned) (spelled_number value unsigned h) e
spelling_look before (character value) rest h e = character_look before (byte_spelling 39 value ++ []) rest value (all_writes 39 (value ∷ []) (inl refl))
spelling_look before (string values) rest h e = string_look before (flat_map (byte_spelling 34) values) rest values (all_writes 34 values (inr refl))
spelling_look before (key k) rest h e =
    let x = name_head (key_spelling k) (key_like_name k) in
    like_name_look before (key_spelling k) rest x.0 x.1 x.2 x.3 x.4 e ∙ ap (λ z. Some (length (key_spelling k), Some z)) (name_of_key k)
spelling_look before (mark m) rest h e = mark_look before m rest e

-- It stands on one line.
in_name_in_line : (b : ℕ) → in_name b ≡ true → in_line b ≡ true
in_name_in_line b h = grind (arith, nat_tests)

letter_in_line : (b : ℕ) → is_letter b ≡ true → in_line b ≡ true
letter_in_line b h = grind (arith, nat_tests)

decimal_in_line : (b : ℕ) → is_decimal b ≡ true → in_line b ≡ true
decimal_in_line b h = grind (arith, nat_tests)

like_name_in_line : (bytes : List ℕ) (first : ℕ) (others : List ℕ) → bytes ≡ first ∷ others → in_line first ≡ true → Each in_name others → Each in_line bytes
like_name_in_line bytes first others is h i =
    let P : List ℕ → Type 0 = λ z. Each in_line z in
    subst P (sym is) (h, each_mono in_name in_line in_name_in_line others i)

number_in_line : (bytes : List ℕ) (w : Word) → Number bytes w → Each in_line bytes
number_in_line bytes w n = let x = number_shape bytes w n in like_name_in_line bytes x.first x.others x.is (decimal_in_line x.first x.digit) x.in_names

byte_in_line : (q b : ℕ) → Each in_line (byte_spelling q b)
byte_in_line q b = go (is_plain q b) refl
  where
    escaped : (v : Bool) → (b == 10) ≡ v → Each in_line (cond v (92 ∷ 110 ∷ []) (92 ∷ b ∷ []))
    escaped true e = (refl, (refl, tt))
    escaped false e = (refl, (ap not e, tt))

    go : (v : Bool) → is_plain q b ≡ v → Each in_line (cond v (b ∷ []) (cond (b == 10) (92 ∷ 110 ∷ []) (92 ∷ b ∷ [])))
    go true e = (ap not (or_false (b == 10) ((b == 92) || (b == q)) (not_true ((b == 10) || ((b == 92) || (b == q))) e)).0, tt)
    go false e = escaped (b == 10) refl

bytes_in_line : (q : ℕ) (values : List ℕ) → Each in_line (flat_map (byte_spelling q) values)
bytes_in_line q [] = tt
bytes_in_line q (v ∷ values) = each_append in_line (byte_spelling q v) (flat_map (byte_spelling q) values) (byte_in_line q v) (bytes_in_line q values)

quoted_in_line : (q : ℕ) (values : List ℕ) → in_line q ≡ true → Each in_line (quoted q values)
quoted_in_line q values h = (h, each_append in_line (flat_map (byte_spelling q) values) (q ∷ []) (bytes_in_line q values) (h, tt))

inked_in_line : (b : ℕ) → is_inked b ≡ true → in_line b ≡ true
inked_in_line b h = (and_true (in_line b) (not (b == 32)) h).0

pub spelling_in_line : (w : Word) → IsPrintable w → Each in_line (spelling w)
spelling_in_line (name bytes) h = like_name_in_line bytes h.first h.others h.is (letter_in_line h.first h.letter) h.in_names
spelling_in_line (number value unsigned) h = number_in_line (spelling (number value unsigned)) (number value unsigned) (spelled_number value unsigned h)
spelling_in_line (character value) h = quoted_in_line 39 (value ∷ []) refl
spelling_in_line (string values) h = quoted_in_line 34 values refl
spelling_in_line (key k) h = let x = name_head (key_spelling k) (key_like_name k) in like_name_in_line (key_spelling k) x.0 x.1 x.2 (letter_in_line x.0 x.3) x.4
spelling_in_line (mark m) h = each_mono is_inked in_line inked_in_line (mark_spelling m) (each_of_all is_inked (mark_spelling m) (inked m).0)
