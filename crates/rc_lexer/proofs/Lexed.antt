-- The steps of the loop over a text, and what each answer means.
use Rattle.std.proofs.Common.{ℕ, zero, suc, cond, ◌≡◌, ◌<◌, ◌≤◌, ◌+◌, List, [], ◌∷◌, ◌++◌, append-nil, length, take, drop, get_or, Option, Some, None, Ok, Err, inl, inr, Bool, true, false, refl, ap, sym, ◌∙◌, subst, arith, length-drop}
use Rattle.std.proofs.lemmas.List.Sums.{sum_by-append}
use Rattle.std.proofs.lemmas.Bool.Decides.{nat_tests}
use Rattle.std.specs.Prelude.{◌==◌, nat_le, count_by}
use Rattle.rc_syntax.specs.declared.word.Token.{Token as CodeToken}
use Rattle.rc_syntax.specs.declared.word.Mark.{Mark}
use Rattle.rc_syntax.specs.declared.word.Mark.TheVariants.{Slash}
use Rattle.rc_syntax.specs.Tokens.{Word, Token, number, character, string, mark}
use Rattle.rc_syntax.specs.WordShapes.{token_of, tokens_of}
use Rattle.rc_syntax.specs.Bytes.{is_decimal, line_behind}
use Rattle.rc_syntax.specs.Words.{opens_comment, Piece, blank, line_comment, block_comment, skipped_line, identifier, keyword, integer_constant, character_constant, string_literal, punctuator, with_line, Cut, IsStuck, StopsAt, BeginsWord, UnreadByte, UnreadToken, Words}
use Rattle.rc_syntax.specs.reader.Look as at
use Rattle.rc_syntax.specs.reader.Look.{Seen, found_mark, look, class_of}
use Rattle.rc_syntax.specs.Spellings.{key_spelling, mark_spelling}
use Rattle.rc_syntax.specs.Literals.{plain}
use Rattle.rc_syntax.specs.Numerals.{value_in, decimal, octal, number_type, Number, unsuffixed}
use Rattle.rc_syntax.proofs.ByteLaws.{byte_test}
use Rattle.rc_syntax.proofs.Classes.{View, view, class_letter, class_digit}
use Rattle.rc_syntax.proofs.SpellingTables.{key_like_name, look_at_mark, mark_head}
use Rattle.rc_syntax.proofs.NamesAndMarks.{mark_named_at}
use Rattle.rc_syntax.proofs.NumberLaws.{number_shape}
use Rattle.rc_syntax.proofs.PieceLaws.{look_fits, name_head}
use Rattle.rc_syntax.proofs.CutLaws.{look_reads, look_stuck, cut_more, one_list, one_place, read_or_stopped}
use Rattle.rc_lexer.specs.declared.fault.LexFault.TheVariants.{TooLong, Byte, Token as TokenFault, Memory}
use Rattle.rc_lexer.specs.Pieces.{fault_of}
use Rattle.rc_lexer.specs.Lexes.{Answer, Lexes, GivesWords, Refuses}
use Rattle.rc_lexer.proofs.Bodies.{next_byte, further_in}

take_none : (n : ℕ) → take n (let e : List ℕ = [] in e) ≡ []
take_none zero = refl
take_none (suc n) = refl

take_further : (text : List ℕ) (i n : ℕ) → take i text ++ take n (drop i text) ≡ take (i + n) text
take_further text zero n = let e : n ≡ zero + n = omega arith in ap (λ j. take j text) e
take_further [] (suc i) n = take_none n ∙ sym (take_none (suc i + n))
take_further (b ∷ bs) (suc i) n = ap (λ z. b ∷ z) (take_further bs i n) ∙ (let e : suc (i + n) ≡ suc i + n = omega arith in ap (λ j. take j (b ∷ bs)) e)

-- one piece more
pub cut_on : (text : List ℕ) (place : ℕ) (ts : List Token) (x : Seen) → Cut [] text ts (take place text) (drop place text) → look (take place text) (drop place text) ≡ Some x →
    Cut [] text (ts ++ with_line (line_behind (take place text)) x.1 []) (take (place + x.0) text) (drop (place + x.0) text)
cut_on text place ts x c e =
    let d = cut_more c (look_reads (take place text) (drop place text) x e) in
    let ts' = ts ++ with_line (line_behind (take place text)) x.1 [] in
    let P : List ℕ → Type 0 = λ z. Cut [] text ts' z (drop x.0 (drop place text)) in
    let Q : List ℕ → Type 0 = λ z. Cut [] text ts' (take (place + x.0) text) z in
    subst Q (further_in text place x.0) (subst P (take_further text place x.0) d)

pub piece_within : (text : List ℕ) (place : ℕ) (x : Seen) → place < length text → look (take place text) (drop place text) ≡ Some x → (1 ≤ x.0) × (place + x.0 ≤ length text)
piece_within text place x h e = let f = look_fits (take place text) (drop place text) x e in (f.0, omega (arith, f.1, length-drop place text))

-- the same, as the code has the parts of the text
pub split_within : (text before rest : List ℕ) (place : ℕ) (x : Seen) → place < length text → before ≡ take place text → rest ≡ drop place text → look before rest ≡ Some x →
    (look (take place text) (drop place text) ≡ Some x) × (1 ≤ x.0) × (place + x.0 ≤ length text)
split_within text before rest place x h e f g =
    let l : look (take place text) (drop place text) ≡ Some x = ap (λ z. look z (drop place text)) (sym e) ∙ ap (look before) (sym f) ∙ g in
    let w = piece_within text place x h l in (l, w.0, w.1)

-- the lines behind a piece
pub lines_on : (text : List ℕ) (place n : ℕ) → line_behind (take (place + n) text) ≡ line_behind (take place text) + count_by (λ b. b == 10) (take n (drop place text))
lines_on text place n =
    let e = ap (count_by (λ b. b == 10)) (sym (take_further text place n)) ∙ sum_by-append (λ b. cond (b == 10) 1 0) (take place text) (take n (drop place text)) in
    omega (arith, e)

pub tokens_of_push : (ts : List CodeToken) (t : CodeToken) → tokens_of (ts ++ t ∷ []) ≡ tokens_of ts ++ token_of t ∷ []
tokens_of_push [] t = refl
tokens_of_push (u ∷ ts) t = ap (λ z. token_of u ∷ z) (tokens_of_push ts t)

pub tokens_of_none : (ts : List CodeToken) (line : ℕ) → tokens_of ts ≡ tokens_of ts ++ with_line line None []
tokens_of_none ts line = sym (append-nil (tokens_of ts))

-- a digit, a quote and a slash begin words
digit_small : (b : ℕ) → is_decimal b ≡ true → (nat_le (value_in 10 (b ∷ [])) 4294967295 ≡ true) × (nat_le (value_in 10 (b ∷ [])) 2147483647 ≡ true)
digit_small b h = ((grind (arith, nat_tests)), (grind (arith, nat_tests)))

digit_number : (b : ℕ) → is_decimal b ≡ true → (w : Word) × Number (b ∷ []) w
digit_number b h = go (b == 48) refl
  where
    go : (v : Bool) → (b == 48) ≡ v → (w : Word) × Number (b ∷ []) w
    go true e = (number 0 false, unsuffixed 8 0 false (octal [] (ap (λ z. z ∷ []) (byte_test b 48 e)) tt refl refl) refl refl)
    go false e =
        let s = digit_small b h in
        let v = value_in 10 (b ∷ []) in
        let t : number_type 10 v false ≡ Some false = rw (s.0, s.1) refl in
        (number v false, unsuffixed 10 v false (decimal b [] refl e (h, tt) refl refl) t refl)

digit_begins : (b : ℕ) → is_decimal b ≡ true → BeginsWord b
digit_begins b h = let x = digit_number b h in ([], [], x.0, integer_constant x.0 x.1 refl refl)

quote_begins : BeginsWord 39
quote_begins = (97 ∷ 39 ∷ [], [], character 97, character_constant (97 ∷ []) 97 refl (97 ∷ [], [], refl, plain refl refl, refl) refl)

double_begins : BeginsWord 34
double_begins = (34 ∷ [], [], string [], string_literal [] [] refl refl refl)

slash_begins : BeginsWord 47
slash_begins = ([], [], mark Slash, punctuator Slash refl refl refl)

abbrev is_silent : at.Class → Bool
is_silent at.blank = false
is_silent at.letter = false
is_silent at.digit = false
is_silent at.quote = false
is_silent at.double_quote = false
is_silent at.slash = false
is_silent at.hash = true
is_silent at.other = true

true_false : true ≡ false → ⊥
true_false e = cc

silent_not : (b c : ℕ) (d : at.Class) → is_silent (class_of b) ≡ true → b ≡ c → class_of c ≡ d → is_silent d ≡ false → ⊥
silent_not b c d h e f g = true_false (sym h ∙ ap (λ z. is_silent (class_of z)) e ∙ ap is_silent f ∙ g)

not_slash : (b : ℕ) → is_silent (class_of b) ≡ true → (b == 47) ≡ false
not_slash b h = go (b == 47) refl
  where
    go : (v : Bool) → (b == 47) ≡ v → v ≡ false
    go true e = absurd (silent_not b 47 at.slash h (byte_test b 47 e) refl refl)
    go false e = refl

head_same : (b c : ℕ) (bs cs : List ℕ) → b ∷ bs ≡ c ∷ cs → b ≡ c
head_same b c bs cs e = cc

-- where nothing is found, and the byte is of no other class, no word begins with it
no_word : (before : List ℕ) (b : ℕ) (others : List ℕ) → is_silent (class_of b) ≡ true → look before (b ∷ others) ≡ None → BeginsWord b → ⊥
no_word before b others h e x = go x.0 x.1 x.2 x.3
  where
    mark_no : (more : List ℕ) (m : Mark) → b ∷ more ≡ mark_spelling m → ⊥
    mark_no more m f =
        let head = mark_head m in
        let one : mark_spelling head.0 ≡ b ∷ [] = head.1 b more (sym f) in
        let t : mark_spelling head.0 ++ others ≡ b ∷ others = ap (λ z. z ++ others) one in
        let s = not_slash b h in
        let o : opens_comment (mark_spelling head.0 ++ others) ≡ false = ap opens_comment t ∙ rw s refl in
        let l = look_at_mark before others head.0 o in
        let n = mark_named_at head.0 others in
        let none : ◌≡◌ {A = Option Seen} None (Some (length (mark_spelling n.0), Some (mark n.0))) = sym e ∙ ap (look before) (sym t) ∙ l ∙ ap found_mark n.1 in
        cc

    go : (more rest : List ℕ) (w : Word) → Piece [] (b ∷ more) rest (Some w) → ⊥
    go more rest w (blank c is i s) = cc
    go more rest w (line_comment text is i j s) = cc
    go more rest w (block_comment text is i s) = cc
    go more rest w (skipped_line margin text is m i free each line s) = cc
    go more rest w (identifier first others' is i j unreserved s) = silent_not b first at.letter h (head_same b first more others' is) (class_letter first i) refl
    go more rest w (keyword k is s) = let y = name_head (key_spelling k) (key_like_name k) in silent_not b y.0 at.letter h (head_same b y.0 more y.1 (is ∙ y.2)) (class_letter y.0 y.3) refl
    go more rest w (integer_constant w' n free s) = let y = number_shape (b ∷ more) w' n in silent_not b y.first at.digit h (head_same b y.first more y.others y.is) (class_digit y.first y.digit) refl
    go more rest w (character_constant body value is i s) = silent_not b 39 at.quote h (head_same b 39 more (body ++ 39 ∷ []) is) refl refl
    go more rest w (string_literal body values is i s) = silent_not b 34 at.double_quote h (head_same b 34 more (body ++ 34 ∷ []) is) refl refl
    go more rest w (punctuator m is free s) = mark_no more m is

-- the refusal where nothing is found
refused : (text : List ℕ) (b line : ℕ) (before others : List ℕ) (c : at.Class) → class_of b ≡ c → length text ≤ 1048576 → look before (b ∷ others) ≡ None → StopsAt text b line → Lexes text (Err (fault_of c line))
refused text b line before others at.blank e h n s = let f : ◌≡◌ {A = Option Seen} (Some (1, None)) None = sym (rw e refl) ∙ n in cc
refused text b line before others at.letter e h n s = absurd (letter_found e n)
  where
    letter_found : class_of b ≡ at.letter → look before (b ∷ others) ≡ None → ⊥
    letter_found f g = let i : at.look_as at.letter before b others ≡ None = ap (λ z. at.look_as z before b others) (sym f) ∙ g in cc
refused text b line before others at.digit e h n s = (h, (b, s, digit_begins b (let P : at.Class → Type 0 = λ z. View b z in subst P e (view b))))
refused text b line before others at.quote e h n s = (h, (b, s, subst (λ (z : ℕ). BeginsWord z) (sym (let P : at.Class → Type 0 = λ z. View b z in subst P e (view b))) quote_begins))
refused text b line before others at.double_quote e h n s = (h, (b, s, subst (λ (z : ℕ). BeginsWord z) (sym (let P : at.Class → Type 0 = λ z. View b z in subst P e (view b))) double_begins))
refused text b line before others at.slash e h n s = (h, (b, s, subst (λ (z : ℕ). BeginsWord z) (sym (let P : at.Class → Type 0 = λ z. View b z in subst P e (view b))) slash_begins))
refused text b line before others at.hash e h n s = (h, (b, s, no_word before b others (ap is_silent e) n))
refused text b line before others at.other e h n s = (h, (b, s, no_word before b others (ap is_silent e) n))

pub refusal : (text : List ℕ) (place line : ℕ) (ts : List Token) → place < length text → length text ≤ 1048576 → line ≡ line_behind (take place text) → Cut [] text ts (take place text) (drop place text) →
    look (take place text) (drop place text) ≡ None → Lexes text (Err (fault_of (class_of (get_or text place 0)) line))
refusal text place line ts h short l c n =
    let b = get_or text place 0 in
    let others = drop (place + 1) text in
    let f = next_byte text place h in
    let P : List ℕ → Type 0 = λ z. Cut [] text ts (take place text) z in
    let Q : List ℕ → Type 0 = λ z. IsStuck (take place text) z in
    refused text b line (take place text) others (class_of b) refl short (ap (look (take place text)) (sym f) ∙ n)
    (record { tokens = ts; read = take place text; others = others; cut = subst P f c; stuck = subst Q f (look_stuck (take place text) (drop place text) n); on_line = l })

-- the text's words are given, and its first unread place is refused, memory permitting
pub words_given : (text : List ℕ) (r : Answer) (ts : List Token) → Lexes text r → length text ≤ 1048576 → Words text ts → GivesWords ts r
words_given text (Ok v) ts l h w = one_list text (tokens_of v.items) ts l.1 w
words_given text (Err TooLong) ts l h w = absurd (omega arith)
words_given text (Err (Byte n)) ts l h w = absurd (read_or_stopped text ts l.1.0 n w l.1.1)
words_given text (Err (TokenFault n)) ts l h w = absurd (read_or_stopped text ts l.1.0 n w l.1.1)
words_given text (Err Memory) ts l h w = refl

pub byte_given : (text : List ℕ) (r : Answer) (line : ℕ) → Lexes text r → length text ≤ 1048576 → UnreadByte text line → Refuses (Byte line) r
byte_given text (Ok v) line l h u = read_or_stopped text (tokens_of v.items) u.0 line l.1 u.1
byte_given text (Err TooLong) line l h u = absurd (omega arith)
byte_given text (Err (Byte n)) line l h u = inl (ap Byte (one_place text l.1.0 u.0 n line l.1.1 u.1).1)
byte_given text (Err (TokenFault n)) line l h u = let P : ℕ → Type 0 = λ z. BeginsWord z in absurd (u.2 (subst P (one_place text l.1.0 u.0 n line l.1.1 u.1).0 l.1.2))
byte_given text (Err Memory) line l h u = inr refl

pub token_given : (text : List ℕ) (r : Answer) (line : ℕ) → Lexes text r → length text ≤ 1048576 → UnreadToken text line → Refuses (TokenFault line) r
token_given text (Ok v) line l h u = read_or_stopped text (tokens_of v.items) u.0 line l.1 u.1
token_given text (Err TooLong) line l h u = absurd (omega arith)
token_given text (Err (Byte n)) line l h u = let P : ℕ → Type 0 = λ z. BeginsWord z in absurd (l.1.2 (subst P (one_place text u.0 l.1.0 line n u.1 l.1.1).0 u.2))
token_given text (Err (TokenFault n)) line l h u = inl (ap TokenFault (one_place text l.1.0 u.0 n line l.1.1 u.1).1)
token_given text (Err Memory) line l h u = inr refl
