-- The words of known lines: pieces are looked for one after the other, without regard to what stands before.
use Rattle.rc_task_trees.proofs.Common.{◌≡◌, zero, ◌+◌, ◌≤◌, append_assoc, append-nil, take, drop, Option, Some, None, not, cond, refl, ap, sym, ◌∙◌, subst, arith, nat_tests, sum_by-append, ◌==◌, count_by, decimal, Word, number, string, Token, is_decimal, in_line, in_name, Each, begins, line_behind, Number, is_plain, plain, WritesAll, continues_number, Piece, blank, line_comment, block_comment, skipped_line, identifier, keyword, integer_constant, character_constant, string_literal, punctuator, with_line, Cut, piece, Seen, look, look_as, class_of, Class, hash, number_word, look_reads, drop_front, take_front, each_exact, each_append, each_mono, number_shape, number_found, begins_in, or_left, or_right, digit_look, string_look, spelling_look}
use Rattle.std.proofs.Common.{ℕ, suc, List, [], ◌∷◌, ◌++◌, length, Bool, true, false}
use Rattle.rc_task_trees.proofs.LineFeeds.{with_line_on}

-- behind any bytes whose next line this is, the text is these words to its end
abbrev pub Lexes : ℕ → List ℕ → List Token → Type 0
Lexes line text tokens = (before : List ℕ) → line_behind before ≡ line → Cut before text tokens (before ++ text) []

abbrev pub lines_on : ℕ → List ℕ → ℕ
lines_on line [] = line
lines_on line (b ∷ bytes) = lines_on (cond (b == 10) (suc line) line) bytes

one_behind : (before : List ℕ) (b : ℕ) → line_behind (before ++ b ∷ []) ≡ cond (b == 10) (suc (line_behind before)) (line_behind before)
one_behind before b = go (b == 10) (ap suc (sum_by-append (λ c. cond (c == 10) 1 0) before (b ∷ [])))
  where
    go : (v : Bool) → suc (count_by (λ c. c == 10) (before ++ b ∷ [])) ≡ suc (count_by (λ c. c == 10) before + (0 + cond v 1 0)) → line_behind (before ++ b ∷ []) ≡ cond v (suc (line_behind before)) (line_behind before)
    go true e = e ∙ omega arith
    go false e = e ∙ omega arith

behind_on : (bytes before : List ℕ) → line_behind (before ++ bytes) ≡ lines_on (line_behind before) bytes
behind_on [] before = ap line_behind (append-nil before)
behind_on (b ∷ bytes) before = ap line_behind (sym (append_assoc before (b ∷ []) bytes)) ∙ behind_on bytes (before ++ b ∷ []) ∙ ap (λ z. lines_on z bytes) (one_behind before b)

-- what stands before is of account only for a `#`
abbrev look_free : Class → ℕ → List ℕ → Option Seen
look_free hash b rest = None
look_free c b rest = look_as c [] b rest

free_look : (c : Class) (before : List ℕ) (b : ℕ) (rest : List ℕ) (x : Seen) → look_free c b rest ≡ Some x → look_as c before b rest ≡ Some x
free_look hash before b rest x e = absurd (cc)
free_look c before b rest x e = e

abbrev pub Scanned : Type 0
Scanned = Option (List Token × ℕ × List ℕ)

abbrev with_piece : ℕ → Option Word → Scanned → Scanned
with_piece line seen None = None
with_piece line seen (Some y) = Some (with_line line seen y.0, y.1, y.2)

abbrev scan_behind : (ℕ → List ℕ → Scanned) → ℕ → List ℕ → Option Seen → Scanned
scan_behind again line text None = None
scan_behind again line text (Some x) = with_piece line x.1 (again (lines_on line (take x.0 text)) (drop x.0 text))

-- so many pieces from the front of the text, with the line and the text behind them
abbrev pub scan : ℕ → ℕ → List ℕ → Scanned
scan zero line text = Some ([], line, text)
scan (suc n) line [] = None
scan (suc n) line (b ∷ rest) = scan_behind (λ l t. scan n l t) line (b ∷ rest) (look_free (class_of b) b rest)

-- one piece more in front
piece_lexes : (line : ℕ) (text : List ℕ) (x : Seen) (tokens : List Token) → ((before : List ℕ) → look before text ≡ Some x) → Lexes (lines_on line (take x.0 text)) (drop x.0 text) tokens → Lexes line text (with_line line x.1 tokens)
piece_lexes line text x tokens found rest before e =
    let r = look_reads before text x (found before) in
    let bytes = take x.0 text in
    let c = rest (before ++ bytes) (behind_on bytes before ∙ ap (λ z. lines_on z bytes) e) in
    let P : List ℕ → Type 0 = λ z. Cut before text (with_line (line_behind before) x.1 tokens) z [] in
    let Q : ℕ → Type 0 = λ z. Cut before text (with_line z x.1 tokens) (before ++ text) [] in
    subst Q e (subst P (append_assoc before bytes (drop x.0 text) ∙ ap (λ z. before ++ z) (sym r.cut)) (piece r c))

some_is : {A : Type 0} {x y : A} → Some x ≡ Some y → x ≡ y
some_is e = cc

piece_is : (line : ℕ) (seen : Option Word) (o : Scanned) (ts : List Token) (l : ℕ) (rest : List ℕ) → with_piece line seen o ≡ Some (ts, l, rest) → (us : List Token) × (o ≡ Some (us, l, rest)) × (ts ≡ with_line line seen us)
piece_is line seen None ts l rest e = absurd (cc)
piece_is line seen (Some y) ts l rest e =
    let d : ◌≡◌ {A = List Token × ℕ × List ℕ} (with_line line seen y.0, y.1, y.2) (ts, l, rest) = some_is e in
    (y.0, ap (λ (z : List Token × ℕ × List ℕ). Some (y.0, z.1, z.2)) d, sym (ap (λ (z : List Token × ℕ × List ℕ). z.0) d))

pub scan_lexes : (n line : ℕ) (text : List ℕ) (ts : List Token) (l : ℕ) (rest : List ℕ) → scan n line text ≡ Some (ts, l, rest) → (more : List Token) → Lexes l rest more → Lexes line text (ts ++ more)
scan_lexes zero line text ts l rest e more h =
    let d : ◌≡◌ {A = List Token × ℕ × List ℕ} ([], line, text) (ts, l, rest) = some_is e in
    let P : List Token × ℕ × List ℕ → Type 0 = λ z. Lexes line text more → Lexes z.1 z.2 more → Lexes line text (z.0 ++ more) in
    let Q : List Token × ℕ × List ℕ → Type 0 = λ z. Lexes z.1 z.2 more in
    subst P d (λ x y. x) (subst Q (sym d) h) h
scan_lexes (suc n) line [] ts l rest e more h = absurd (cc)
scan_lexes (suc n) line (b ∷ text) ts l rest e more h = go (look_free (class_of b) b text) refl e (λ m t us f. scan_lexes n m t us l rest f more h)
  where
    go : (o : Option Seen) → look_free (class_of b) b text ≡ o → scan_behind (λ l t. scan n l t) line (b ∷ text) o ≡ Some (ts, l, rest) →
        ((m : ℕ) (t : List ℕ) (us : List Token) → scan n m t ≡ Some (us, l, rest) → Lexes m t (us ++ more)) → Lexes line (b ∷ text) (ts ++ more)
    go None f g again = absurd (cc)
    go (Some x) f g again =
        let p = piece_is line x.1 (scan n (lines_on line (take x.0 (b ∷ text))) (drop x.0 (b ∷ text))) ts l rest g in
        let c = again (lines_on line (take x.0 (b ∷ text))) (drop x.0 (b ∷ text)) p.0 p.1 in
        let P : List Token → Type 0 = λ z. Lexes line (b ∷ text) z in
        subst P (with_line_on line x.1 p.0 more ∙ ap (λ z. z ++ more) (sym p.2)) (piece_lexes line (b ∷ text) x (p.0 ++ more) (λ before. free_look (class_of b) before b text x f) c)

-- a word that is found whatever stands before
front_lexes : (line : ℕ) (bytes rest : List ℕ) (w : Word) (more : List Token) → ((before : List ℕ) → look before (bytes ++ rest) ≡ Some (length bytes, Some w)) → lines_on line bytes ≡ line → Lexes line rest more →
    Lexes line (bytes ++ rest) (record { word = w; line = line } ∷ more)
front_lexes line bytes rest w more found same h =
    let P : List ℕ → Type 0 = λ z. Lexes (lines_on line z) (drop (length bytes) (bytes ++ rest)) more in
    let Q : List ℕ → Type 0 = λ z. Lexes (lines_on line bytes) z more in
    let S : ℕ → Type 0 = λ z. Lexes z rest more in
    piece_lexes line (bytes ++ rest) (length bytes, Some w) more found (subst P (sym (take_front bytes rest)) (subst Q (sym (drop_front bytes rest)) (subst S (sym same) h)))

same_line : (line : ℕ) (bytes : List ℕ) → Each in_line bytes → lines_on line bytes ≡ line
same_line line [] h = refl
same_line line (b ∷ bytes) h = go (b == 10) refl (same_line line bytes h.1)
  where
    go : (v : Bool) → (b == 10) ≡ v → lines_on line bytes ≡ line → lines_on (cond v (suc line) line) bytes ≡ line
    go true e i = let f : false ≡ true = ap not (sym e) ∙ h.0 in absurd (cc)
    go false e i = i

-- a number in decimal
number_piece : (before bytes rest : List ℕ) (n : ℕ) (u : Bool) (seen : Option Word) → Piece before bytes rest seen → seen ≡ Some (number n u) → Number bytes (number n u)
number_piece before bytes rest n u seen (integer_constant w x free s) e = let f : w ≡ number n u = (let g : ◌≡◌ {A = Option Word} (Some w) (Some (number n u)) = sym s ∙ e in cc) in let P : Word → Type 0 = λ z. Number bytes z in subst P f x
number_piece before bytes rest n u seen (blank b is h s) e = absurd (cc)
number_piece before bytes rest n u seen (line_comment text is h i s) e = absurd (cc)
number_piece before bytes rest n u seen (block_comment text is h s) e = absurd (cc)
number_piece before bytes rest n u seen (skipped_line margin text is m h free each line s) e = absurd (cc)
number_piece before bytes rest n u seen (identifier first others is h i unreserved s) e = absurd (cc)
number_piece before bytes rest n u seen (keyword k is s) e = absurd (cc)
number_piece before bytes rest n u seen (character_constant body value is w s) e = absurd (cc)
number_piece before bytes rest n u seen (string_literal body values is w s) e = absurd (cc)
number_piece before bytes rest n u seen (punctuator m is free s) e = absurd (cc)

pub decimal_number : (n : ℕ) → n ≤ 2147483647 → Number (decimal n) (number n false)
decimal_number n h =
    let bytes = decimal n in
    let r = look_reads [] (bytes ++ []) (length bytes, Some (number n false)) (spelling_look [] (number n false) [] h tt) in
    let P : List ℕ → Type 0 = λ z. Number z (number n false) in
    subst P (take_front bytes []) (number_piece [] (take (length bytes) (bytes ++ [])) (drop (length bytes) (bytes ++ [])) n false (Some (number n false)) r.piece refl)

decimal_in_line : (b : ℕ) → is_decimal b ≡ true → in_line b ≡ true
decimal_in_line b h = grind (arith, nat_tests)

name_in_line : (b : ℕ) → in_name b ≡ true → in_line b ≡ true
name_in_line b h = grind (arith, nat_tests)

pub number_lexes : (line n : ℕ) (rest : List ℕ) (more : List Token) → n ≤ 2147483647 → begins continues_number rest ≡ false → Lexes line rest more → Lexes line (decimal n ++ rest) (record { word = number n false; line = line } ∷ more)
number_lexes line n rest more h free c =
    let number_is = decimal_number n h in
    let x = number_shape (decimal n) (number n false) number_is in
    let name_ends = begins_in in_name continues_number (λ z h. or_left (in_name z) (z == 46) h) rest free in
    let dot_ends = begins_in (λ z. z == 46) continues_number (λ z h. or_right (in_name z) (z == 46) h) rest free in
    let f : number_word (x.first ∷ x.others) ≡ Some (number n false) = ap number_word (sym x.is) ∙ number_found (decimal n) (number n false) number_is in
    front_lexes line (decimal n) rest (number n false) more
    (λ before. rw (x.is) (digit_look before x.first x.others rest (number n false) x.digit (each_exact in_name x.others rest x.in_names name_ends) dot_ends f)) (let P : List ℕ → Type 0 = λ z. Each in_line z in same_line line (decimal n) (subst P (sym x.is) (decimal_in_line x.first x.digit, each_mono in_name in_line name_in_line x.others x.in_names))) c

-- digits between quotes
abbrev pub is_digit : ℕ → Bool
is_digit b = is_decimal b

digit_plain : (b : ℕ) → is_digit b ≡ true → is_plain 34 b ≡ true
digit_plain b h = grind (arith, nat_tests)

digit_in_line : (b : ℕ) → is_digit b ≡ true → in_line b ≡ true
digit_in_line b h = grind (arith, nat_tests)

digits_write : (digits : List ℕ) → Each is_digit digits → WritesAll 34 digits digits
digits_write [] h = refl
digits_write (d ∷ digits) h = (d ∷ [], digits, refl, plain refl (digit_plain d h.0), digits_write digits h.1)

pub string_lexes : (line : ℕ) (digits rest : List ℕ) (more : List Token) → Each is_digit digits → Lexes line rest more → Lexes line (34 ∷ (digits ++ 34 ∷ rest)) (record { word = string digits; line = line } ∷ more)
string_lexes line digits rest more h c =
    let e : (digits ++ 34 ∷ []) ++ rest ≡ digits ++ 34 ∷ rest = append_assoc digits (34 ∷ []) rest in
    let P : List ℕ → Type 0 = λ z. Lexes line (34 ∷ z) (record { word = string digits; line = line } ∷ more) in
    subst P e (front_lexes line (34 ∷ (digits ++ 34 ∷ [])) rest (string digits) more (λ before. string_look before digits rest digits (digits_write digits h))
    (same_line line (34 ∷ (digits ++ 34 ∷ [])) (refl, each_append in_line digits (34 ∷ []) (each_mono is_digit in_line digit_in_line digits h) (refl, tt))) c)
