-- Printed words are the words of that text, and each word of a text can be printed.
use Rattle.std.proofs.Common.{ℕ, suc, ◌≡◌, ◌≤◌, List, [], ◌∷◌, ◌++◌, append_assoc, append-nil, length, drop, Option, Some, None, Bool, true, false, cond, refl, ap, sym, ◌∙◌, subst, arith}
use Rattle.std.proofs.lemmas.Bool.Decides.{nat_tests}
use Rattle.std.proofs.lemmas.List.Elements.{All-head, All-tail, All-cons}
use Rattle.std.specs.Prelude.{◌==◌, All, count_by, flat_map, codes, nat_le}
use Rattle.rc_syntax.specs.Tokens.{Word, number, Token}
use Rattle.rc_syntax.specs.Bytes.{in_line, Each, line_behind}
use Rattle.rc_syntax.specs.Numerals.{number_type, Number, unsuffixed, suffixed}
use Rattle.rc_syntax.specs.Words.{Piece, blank, line_comment, block_comment, skipped_line, identifier, keyword, integer_constant, character_constant, string_literal, punctuator, Reads, with_line, Cut, end, piece, Words}
use Rattle.rc_syntax.specs.reader.Look.{look}
use Rattle.rc_syntax.specs.printing.Printing.{spelling, printed, IsPrintable, words_in, on_first_line}
use Rattle.rc_syntax.proofs.ByteLaws.{not_true, each_append, take_front, drop_front}
use Rattle.rc_syntax.proofs.CutLaws.{look_reads}
use Rattle.rc_syntax.proofs.Spelled.{Ends, spelling_look, spelling_in_line}

first_line : (before : List ℕ) → Each in_line before → line_behind before ≡ 1
first_line before h = ap suc (none before h)
  where
    none : (bytes : List ℕ) → Each in_line bytes → count_by (λ b. b == 10) bytes ≡ 0
    none [] h = refl
    none (b ∷ bytes) h = let e = not_true (b == 10) h.0 in rw e (none bytes h.1)

-- what is found at a front is read there
reads_front : (before bytes rest : List ℕ) (seen : Option Word) → look before (bytes ++ rest) ≡ Some (length bytes, seen) → Reads before (bytes ++ rest) bytes seen rest
reads_front before bytes rest seen e =
    let r = look_reads before (bytes ++ rest) (length bytes, seen) e in
    let P : List ℕ → Type 0 = λ z. Reads before (bytes ++ rest) z seen (drop (length bytes) (bytes ++ rest)) in
    let Q : List ℕ → Type 0 = λ z. Reads before (bytes ++ rest) bytes seen z in
    subst Q (drop_front bytes rest) (subst P (take_front bytes rest) r)

-- one word more
word_cut : (before rest read : List ℕ) (w : Word) (tokens : List Token) → Each in_line before → IsPrintable w → Ends rest → Cut (before ++ spelling w) rest tokens read [] →
    Cut before (spelling w ++ rest) (record { word = w; line = 1 } ∷ tokens) read []
word_cut before rest read w tokens h p e c =
    let P : ℕ → Type 0 = λ z. Cut before (spelling w ++ rest) (record { word = w; line = z } ∷ tokens) read [] in
    subst P (first_line before h) (piece (reads_front before (spelling w) rest (Some w) (spelling_look before w rest p e)) c)

abbrev behind_blanks : List Word → List ℕ
behind_blanks words = flat_map (λ w. codes " " ++ spelling w) words

behind_ends : (words : List Word) → Ends (behind_blanks words)
behind_ends [] = tt
behind_ends (w ∷ words) = refl

-- the words behind blanks
cut_behind : (before : List ℕ) (words : List Word) → Each in_line before → All IsPrintable words → Cut before (behind_blanks words) (on_first_line words) (before ++ behind_blanks words) []
cut_behind before [] h p =
    let P : List ℕ → Type 0 = λ z. Cut before [] [] z [] in
    subst P (sym (append-nil before)) end
cut_behind before (w ∷ words) h p =
    let s = spelling w in
    let more = behind_blanks words in
    let blanked = before ++ 32 ∷ [] in
    let i : Each in_line blanked = each_append in_line before (32 ∷ []) h (refl, tt) in
    let q : IsPrintable w = All-head IsPrintable w words p in
    let j : Each in_line (blanked ++ s) = each_append in_line blanked s i (spelling_in_line w q) in
    let rest = cut_behind (blanked ++ s) words j (All-tail IsPrintable w words p) in
    let c : Cut blanked (s ++ more) (on_first_line (w ∷ words)) ((blanked ++ s) ++ more) [] = word_cut blanked more ((blanked ++ s) ++ more) w (on_first_line words) i q (behind_ends words) rest in
    let d : Cut before (32 ∷ (s ++ more)) (on_first_line (w ∷ words)) ((blanked ++ s) ++ more) [] = piece (reads_front before (32 ∷ []) (s ++ more) None refl) c in
    let e : (blanked ++ s) ++ more ≡ before ++ 32 ∷ (s ++ more) = append_assoc blanked s more ∙ append_assoc before (32 ∷ []) (s ++ more) in
    let P : List ℕ → Type 0 = λ z. Cut before (32 ∷ (s ++ more)) (on_first_line (w ∷ words)) z [] in
    subst P e d

-- Printed words are the words of that text.
pub printed_words : (words : List Word) → All IsPrintable words → Words (printed words) (on_first_line words)
printed_words [] p = end
printed_words (w ∷ words) p =
    let q : IsPrintable w = All-head IsPrintable w words p in
    word_cut [] (behind_blanks words) (spelling w ++ behind_blanks words) w (on_first_line words) tt q (behind_ends words) (cut_behind (spelling w) words (spelling_in_line w q) (All-tail IsPrintable w words p))

-- Each word of a text can be printed.
le_of : (a b : ℕ) → nat_le a b ≡ true → a ≤ b
le_of a b h = grind (arith, nat_tests)

number_fits : (base value : ℕ) (suffix unsigned : Bool) → number_type base value suffix ≡ Some unsigned → IsPrintable (number value unsigned)
number_fits base value suffix unsigned e = below (nat_le value 4294967295) refl e
  where
    fits : (u : Bool) → ◌≡◌ {A = Option Bool} (Some u) (Some unsigned) → IsPrintable (number value u) → IsPrintable (number value unsigned)
    fits u f g = let P : Bool → Type 0 = λ z. IsPrintable (number value z) in subst P (let k : u ≡ unsigned = cc in k) g

    other : value ≤ 4294967295 → (v : Bool) → cond v None (Some true) ≡ Some unsigned → IsPrintable (number value unsigned)
    other h true f = absurd (cc)
    other h false f = fits true f h

    int : value ≤ 4294967295 → (v : Bool) → nat_le value 2147483647 ≡ v → cond v (Some false) (cond (base == 10) None (Some true)) ≡ Some unsigned → IsPrintable (number value unsigned)
    int h true f g = fits false g (le_of value 2147483647 f)
    int h false f g = other h (base == 10) g

    with : value ≤ 4294967295 → (v : Bool) → cond v (Some true) (cond (nat_le value 2147483647) (Some false) (cond (base == 10) None (Some true))) ≡ Some unsigned → IsPrintable (number value unsigned)
    with h true f = fits true f h
    with h false f = int h (nat_le value 2147483647) refl f

    below : (v : Bool) → nat_le value 4294967295 ≡ v → cond v (cond suffix (Some true) (cond (nat_le value 2147483647) (Some false) (cond (base == 10) None (Some true)))) None ≡ Some unsigned → IsPrintable (number value unsigned)
    below true f g = with (le_of value 4294967295 f) suffix g
    below false f g = absurd (cc)

number_printable : (bytes : List ℕ) (w : Word) → Number bytes w → IsPrintable w
number_printable bytes w (unsuffixed base value unsigned numeral type is) = let P : Word → Type 0 = λ z. IsPrintable z in subst P (sym is) (number_fits base value false unsigned type)
number_printable bytes w (suffixed digits suffix base value unsigned bytes_are suffix_is numeral type is) = let P : Word → Type 0 = λ z. IsPrintable z in subst P (sym is) (number_fits base value true unsigned type)

abbrev SeenPrintable : Option Word → Type 0
SeenPrintable None = Unit {0}
SeenPrintable (Some w) = IsPrintable w

piece_printable : (before bytes rest : List ℕ) (seen : Option Word) → Piece before bytes rest seen → SeenPrintable seen
piece_printable before bytes rest seen (blank b is h s) = subst SeenPrintable (sym s) tt
piece_printable before bytes rest seen (line_comment text is h i s) = subst SeenPrintable (sym s) tt
piece_printable before bytes rest seen (block_comment text is h s) = subst SeenPrintable (sym s) tt
piece_printable before bytes rest seen (skipped_line margin text is m h free each line s) = subst SeenPrintable (sym s) tt
piece_printable before bytes rest seen (identifier first others is h i unreserved s) =
    subst SeenPrintable (sym s) (record { first = first; others = others; is = is; letter = h; in_names = i; unreserved = unreserved })
piece_printable before bytes rest seen (keyword k is s) = subst SeenPrintable (sym s) tt
piece_printable before bytes rest seen (integer_constant w n free s) = subst SeenPrintable (sym s) (number_printable bytes w n)
piece_printable before bytes rest seen (character_constant body value is w s) = subst SeenPrintable (sym s) tt
piece_printable before bytes rest seen (string_literal body values is w s) = subst SeenPrintable (sym s) tt
piece_printable before bytes rest seen (punctuator m is free s) = subst SeenPrintable (sym s) tt

with_printable : (line : ℕ) (seen : Option Word) (tokens : List Token) → SeenPrintable seen → All IsPrintable (words_in tokens) → All IsPrintable (words_in (with_line line seen tokens))
with_printable line None tokens h i = i
with_printable line (Some w) tokens h i = All-cons IsPrintable w (words_in tokens) h i

all_none : All IsPrintable []
all_none k d h = absurd (omega arith)

pub cut_printable : {before text read rest : List ℕ} {tokens : List Token} → Cut before text tokens read rest → All IsPrintable (words_in tokens)
cut_printable end = all_none
cut_printable {before = before} (piece {bytes = bytes} {middle = middle} {seen = seen} {tokens = tokens} x c) =
    with_printable (line_behind before) seen tokens (piece_printable before bytes middle seen x.piece) (cut_printable c)
