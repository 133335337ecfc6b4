-- The piece that is found at the front of a text stands there, and no piece there is longer or another.
use Rattle.std.proofs.Common.{ℕ, zero, suc, ◌≡◌, ◌≤◌, ◌+◌, List, [], ◌∷◌, ◌++◌, append_assoc, append-nil, length, take, drop, Option, Some, None, Bool, true, false, not, ◌||◌, ◌&&◌, cond, refl, ap, sym, ◌∙◌, subst, arith, inl, inr, length-append}
use Rattle.std.proofs.lemmas.Bool.{cases_lt}
use Rattle.std.specs.Prelude.{◌==◌, nat_eq, codes}
use Rattle.std.specs.List.{prefix_len, list_all, starts_with}
use Rattle.rc_syntax.specs.declared.word.Key.{Key}
use Rattle.rc_syntax.specs.declared.word.Mark.{Mark}
use Rattle.rc_syntax.specs.Tokens.{Word, character, string, mark}
use Rattle.rc_syntax.specs.Spellings.{key_spelling, mark_spelling, key_named, mark_named}
use Rattle.rc_syntax.specs.Bytes.{is_letter, is_decimal, is_margin, in_name, in_line, Each, begins}
use Rattle.rc_syntax.specs.Literals.{Writes, WritesAll}
use Rattle.rc_syntax.specs.Words.{opens_comment, continues_number, Piece, blank, line_comment, block_comment, skipped_line, identifier, keyword, integer_constant, character_constant, string_literal, punctuator}
use Rattle.rc_syntax.specs.reader.Look.{Class, class_of, blank as blank_class, letter, digit, quote, double_quote, slash, hash, other, Seen, key_or_name, name_word, number_word, found_word, value_next, closed, body_at, string_of, comment_end, skipped, found_mark, mark_at, is_in_margin, include_at, look_as, look}
use Rattle.rc_syntax.proofs.ByteLaws.{byte_test, and_true, not_true, or_of, each_take, run_fits, each_within, each_exact, run_ends, drop_front, take_front, front_and, front_length, begins_cons, each_of_all, starts_front}
use Rattle.rc_syntax.proofs.SpellingTables.{is_like_name, key_like_name, look_at_mark, mark_some}
use Rattle.rc_syntax.proofs.Classes.{View, view, class_blank, class_letter, class_digit}
use Rattle.rc_syntax.proofs.NamesAndMarks.{Within, key_is, no_key, name_of_key, name_of_none, mark_stands, mark_within}
use Rattle.rc_syntax.proofs.NumberLaws.{number_found, number_is, number_shape}
use Rattle.rc_syntax.proofs.LiteralLaws.{IsQuote, next_found, writes_within, next_is, body_is, body_found}
use Rattle.rc_syntax.proofs.CommentLaws.{comment_found, comment_is, is_margin_of, in_margin}

some_is : {A : Type 0} {x y : A} → Some x ≡ Some y → x ≡ y
some_is e = cc

pub single_quote : IsQuote 39
single_quote = record { no_octal = refl; no_hexadecimal = refl; no_escape = refl }

pub double_quotes : IsQuote 34
double_quotes = record { no_octal = refl; no_hexadecimal = refl; no_escape = refl }

-- a piece of n bytes stands at the front of the text
pub record Stands (before text : List ℕ) (n : ℕ) (seen : Option Word) : Type 0 where
  pub bytes : List ℕ
  pub rest : List ℕ
  pub is : text ≡ bytes ++ rest
  pub count : n ≡ length bytes
  pub piece : Piece before bytes rest seen

moved : (before text : List ℕ) (n : ℕ) (seen : Option Word) (x : Seen) → Some (n, seen) ≡ Some x → Stands before text n seen → Stands before text x.0 x.1
moved before text n seen x e s = let P : Seen → Type 0 = λ z. Stands before text z.0 z.1 in subst P (some_is e) s

-- names and reserved words
name_piece : (before : List ℕ) (b : ℕ) (others rest : List ℕ) → is_letter b ≡ true → Each in_name others → Piece before (b ∷ others) rest (Some (name_word (b ∷ others)))
name_piece before b others rest h i = go (key_named (b ∷ others)) refl
  where
    go : (o : Option Key) → key_named (b ∷ others) ≡ o → Piece before (b ∷ others) rest (Some (key_or_name (b ∷ others) o))
    go None e = identifier b others refl h i (no_key (b ∷ others) e) refl
    go (Some k) e = keyword k (sym (key_is (b ∷ others) k e)) refl

letter_stands : (before : List ℕ) (b : ℕ) (rest : List ℕ) (x : Seen) → is_letter b ≡ true → look_as letter before b rest ≡ Some x → Stands before (b ∷ rest) x.0 x.1
letter_stands before b rest x h e =
    let m = prefix_len in_name rest in
    moved before (b ∷ rest) (suc m) (Some (name_word (b ∷ take m rest))) x e (record {
      bytes = b ∷ take m rest;
      rest = drop m rest;
      is = ap (λ z. b ∷ z) (front_and m rest);
      count = ap suc (sym (front_length m rest (run_fits in_name rest)));
      piece = name_piece before b (take m rest) (drop m rest) h (each_take in_name rest);
    })

continues_none : (t : List ℕ) → begins in_name t ≡ false → begins (λ c. c == 46) t ≡ false → begins continues_number t ≡ false
continues_none [] h i = refl
continues_none (c ∷ t) h i = or_of (in_name c) (c == 46) h i

digit_stands : (before : List ℕ) (b : ℕ) (rest : List ℕ) (x : Seen) → is_decimal b ≡ true → look_as digit before b rest ≡ Some x → Stands before (b ∷ rest) x.0 x.1
digit_stands before b rest x h e = go (begins (λ c. c == 46) (drop (prefix_len in_name rest) rest)) refl e
  where
    m : ℕ
    m = prefix_len in_name rest

    word : begins (λ c. c == 46) (drop (prefix_len in_name rest) rest) ≡ false → (o : Option Word) → number_word (b ∷ take (prefix_len in_name rest) rest) ≡ o →
        found_word (suc (prefix_len in_name rest)) o ≡ Some x → Stands before (b ∷ rest) x.0 x.1
    word f None g k = absurd (cc)
    word f (Some w) g k = moved before (b ∷ rest) (suc (prefix_len in_name rest)) (Some w) x k (record {
      bytes = b ∷ take (prefix_len in_name rest) rest;
      rest = drop (prefix_len in_name rest) rest;
      is = ap (λ z. b ∷ z) (front_and (prefix_len in_name rest) rest);
      count = ap suc (sym (front_length (prefix_len in_name rest) rest (run_fits in_name rest)));
      piece = integer_constant w (number_is b (take (prefix_len in_name rest) rest) w h g) (continues_none (drop (prefix_len in_name rest) rest) (run_ends in_name rest) f) refl;
    })

    go : (v : Bool) → begins (λ c. c == 46) (drop (prefix_len in_name rest) rest) ≡ v → cond v None (found_word (suc (prefix_len in_name rest)) (number_word (b ∷ take (prefix_len in_name rest) rest))) ≡ Some x → Stands before (b ∷ rest) x.0 x.1
    go true f k = absurd (cc)
    go false f k = word f (number_word (b ∷ take (prefix_len in_name rest) rest)) refl k

quote_stands : (before : List ℕ) (b : ℕ) (rest : List ℕ) (x : Seen) → b ≡ 39 → look_as quote before b rest ≡ Some x → Stands before (b ∷ rest) x.0 x.1
quote_stands before b [] x h e = absurd (cc)
quote_stands before b (c ∷ rest) x h e = value (value_next 39 (c ∷ rest)) refl e
  where
    close : (y : ℕ × ℕ) → value_next 39 (c ∷ rest) ≡ Some y → (v : Bool) → begins (λ z. z == 39) (drop y.0 (c ∷ rest)) ≡ v →
        cond v (Some (suc (suc y.0), Some (character y.1))) None ≡ Some x → Stands before (b ∷ c ∷ rest) x.0 x.1
    close y f true g k =
        let n = next_is 39 c rest y f in
        let d : drop y.0 (c ∷ rest) ≡ n.further = ap (λ z. drop z (c ∷ rest)) n.count ∙ ap (drop (length n.others)) n.is ∙ drop_front n.others n.further in
        let q = begins_cons 39 n.further (ap (begins (λ z. z == 39)) (sym d) ∙ g) in
        let P : List ℕ → Type 0 = λ z. Writes 39 (c ∷ n.others) z y.1 in
        let w : Writes 39 (c ∷ n.others) [] y.1 = writes_within 39 (c ∷ n.others) [] q.0 y.1 (subst P q.1 n.writes) in
        moved before (b ∷ c ∷ rest) (suc (suc y.0)) (Some (character y.1)) x k (record {
          bytes = 39 ∷ (c ∷ n.others ++ 39 ∷ []);
          rest = q.0;
          is = ap (λ z. z ∷ c ∷ rest) h ∙ ap (λ z. 39 ∷ c ∷ z) (n.is ∙ ap (λ z. n.others ++ z) q.1 ∙ sym (append_assoc n.others (39 ∷ []) q.0));
          count = omega (arith, n.count, length-append n.others (39 ∷ []));
          piece = character_constant (c ∷ n.others) y.1 refl (c ∷ n.others, [], sym (append-nil (c ∷ n.others)), w, refl) refl;
        })
    close y f false g k = absurd (cc)

    value : (o : Option (ℕ × ℕ)) → value_next 39 (c ∷ rest) ≡ o → closed 39 o (c ∷ rest) ≡ Some x → Stands before (b ∷ c ∷ rest) x.0 x.1
    value None f k = absurd (cc)
    value (Some y) f k = close y f (begins (λ z. z == 39) (drop y.0 (c ∷ rest))) refl k

double_stands : (before : List ℕ) (b : ℕ) (rest : List ℕ) (x : Seen) → b ≡ 34 → look_as double_quote before b rest ≡ Some x → Stands before (b ∷ rest) x.0 x.1
double_stands before b rest x h e = go (body_at 34 0 rest) refl e
  where
    no_front : (front : List ℕ) → length front ≡ 0 → front ≡ []
    no_front [] f = refl
    no_front (c ∷ front) f = absurd (omega arith)

    go : (o : Option (ℕ × List ℕ)) → body_at 34 0 rest ≡ o → string_of o ≡ Some x → Stands before (b ∷ rest) x.0 x.1
    go None f k = absurd (cc)
    go (Some y) f k =
        let w = body_is 34 0 rest y.0 y.1 f in
        let g = no_front w.front w.skips in
        moved before (b ∷ rest) (suc (suc y.0)) (Some (string y.1)) x k (record {
          bytes = 34 ∷ (w.body ++ 34 ∷ []);
          rest = w.more;
          is = ap (λ z. z ∷ rest) h ∙ ap (λ z. 34 ∷ z) (w.is ∙ ap (λ z. z ++ (w.body ++ 34 ∷ w.more)) g ∙ sym (append_assoc w.body (34 ∷ []) w.more));
          count = omega (arith, w.count, length-append w.body (34 ∷ []));
          piece = string_literal w.body y.1 refl w.writes refl;
        })

mark_at_stands : (before text : List ℕ) (x : Seen) → opens_comment text ≡ false → mark_at text ≡ Some x → Stands before text x.0 x.1
mark_at_stands before text x h e = go (mark_named text) refl e
  where
    go : (o : Option Mark) → mark_named text ≡ o → found_mark o ≡ Some x → Stands before text x.0 x.1
    go None f k = absurd (cc)
    go (Some m) f k =
        let s = mark_stands text m f in
        moved before text (length (mark_spelling m)) (Some (mark m)) x k (record {
          bytes = mark_spelling m;
          rest = drop (length (mark_spelling m)) text;
          is = s;
          count = refl;
          piece = punctuator m refl (ap opens_comment (sym s) ∙ h) refl;
        })

no_comment : (b : ℕ) (rest : List ℕ) → begins (λ c. c == 47) rest ≡ false → begins (λ c. c == 42) rest ≡ false → opens_comment (b ∷ rest) ≡ false
no_comment b [] h i = go (b == 47)
  where
    go : (v : Bool) → (v && false) ≡ false
    go true = refl
    go false = refl
no_comment b (c ∷ rest) h i = go (b == 47) (or_of (c == 47) (c == 42) h i)
  where
    go : (v : Bool) → (c == 47 || c == 42) ≡ false → (v && (c == 47 || c == 42)) ≡ false
    go true e = e
    go false e = refl

slash_stands : (before : List ℕ) (b : ℕ) (rest : List ℕ) (x : Seen) → b ≡ 47 → look_as slash before b rest ≡ Some x → Stands before (b ∷ rest) x.0 x.1
slash_stands before b rest x h e = line (begins (λ c. c == 47) rest) refl e
  where
    comment : (r : List ℕ) → rest ≡ 42 ∷ r → (o : Option ℕ) → comment_end r ≡ o → skipped 2 o ≡ Some x → Stands before (b ∷ rest) x.0 x.1
    comment r f None g k = absurd (cc)
    comment r f (Some n) g k =
        let w = comment_is r n g in
        moved before (b ∷ rest) (2 + n) None x k (record {
          bytes = 47 ∷ 42 ∷ (w.text ++ 42 ∷ 47 ∷ []);
          rest = w.more;
          is = ap (λ z. z ∷ rest) h ∙ ap (λ z. 47 ∷ z) f ∙ ap (λ z. 47 ∷ 42 ∷ z) (w.is ∙ sym (append_assoc w.text (42 ∷ 47 ∷ []) w.more));
          count = omega (arith, w.count, length-append w.text (42 ∷ 47 ∷ []));
          piece = block_comment w.text refl w.inside refl;
        })

    block : begins (λ c. c == 47) rest ≡ false → (v : Bool) → begins (λ c. c == 42) rest ≡ v → cond v (skipped 2 (comment_end (drop 1 rest))) (mark_at (b ∷ rest)) ≡ Some x → Stands before (b ∷ rest) x.0 x.1
    block f true g k =
        let y = begins_cons 42 rest g in
        let d : drop 1 rest ≡ y.0 = ap (drop 1) y.1 in
        comment y.0 y.1 (comment_end y.0) refl (ap (λ z. skipped 2 (comment_end z)) (sym d) ∙ k)
    block f false g k = mark_at_stands before (b ∷ rest) x (no_comment b rest f g) k

    line : (v : Bool) → begins (λ c. c == 47) rest ≡ v →
        cond v (Some (suc (suc (prefix_len in_line (drop 1 rest))), None)) (cond (begins (λ c. c == 42) rest) (skipped 2 (comment_end (drop 1 rest))) (mark_at (b ∷ rest))) ≡ Some x → Stands before (b ∷ rest) x.0 x.1
    line true f k =
        let y = begins_cons 47 rest f in
        let d : drop 1 rest ≡ y.0 = ap (drop 1) y.1 in
        let m = prefix_len in_line y.0 in
        moved before (b ∷ rest) (suc (suc m)) None x (ap (λ z. Some (suc (suc (prefix_len in_line z)), None)) (sym d) ∙ k) (record {
          bytes = 47 ∷ 47 ∷ take m y.0;
          rest = drop m y.0;
          is = ap (λ z. z ∷ rest) h ∙ ap (λ z. 47 ∷ z) y.1 ∙ ap (λ z. 47 ∷ 47 ∷ z) (front_and m y.0);
          count = ap (λ z. suc (suc z)) (sym (front_length m y.0 (run_fits in_line y.0)));
          piece = line_comment (take m y.0) refl (each_take in_line y.0) (run_ends in_line y.0) refl;
        })
    line false f k = block f (begins (λ c. c == 42) rest) refl k

begins_take : (p : ℕ → Bool) (n : ℕ) (t : List ℕ) → begins p t ≡ false → begins p (take n t) ≡ false
begins_take p zero t h = refl
begins_take p (suc n) [] h = refl
begins_take p (suc n) (c ∷ t) h = h

-- from `include` on
record Include (r : List ℕ) (n : ℕ) : Type 0 where
  text : List ℕ
  more : List ℕ
  is : r ≡ codes "include" ++ (text ++ more)
  count : n ≡ 7 + length text
  free : begins in_name text ≡ false
  each : Each in_line text
  ends : begins in_line more ≡ false

include_is : (r : List ℕ) (n : ℕ) → include_at r ≡ Some n → Include r n
include_is r n e = go (starts_with nat_eq r (codes "include") && not (begins in_name (drop 7 r))) refl e
  where
    go : (v : Bool) → (starts_with nat_eq r (codes "include") && not (begins in_name (drop 7 r))) ≡ v → cond v (Some (7 + prefix_len in_line (drop 7 r))) None ≡ Some n → Include r n
    go true f k =
        let p = and_true (starts_with nat_eq r (codes "include")) (not (begins in_name (drop 7 r))) f in
        let s = starts_front r (codes "include") p.0 in
        let t = drop 7 r in
        let m = prefix_len in_line t in
        record {
          text = take m t;
          more = drop m t;
          is = s ∙ ap (λ z. codes "include" ++ z) (front_and m t);
          count = sym (some_is k) ∙ ap (λ z. 7 + z) (sym (front_length m t (run_fits in_line t)));
          free = begins_take in_name m t (not_true (begins in_name t) p.1);
          each = each_take in_line t;
          ends = run_ends in_line t;
        }
    go false f k = absurd (cc)

hash_stands : (before : List ℕ) (b : ℕ) (rest : List ℕ) (x : Seen) → b ≡ 35 → look_as hash before b rest ≡ Some x → Stands before (b ∷ rest) x.0 x.1
hash_stands before b rest x h e = margin (is_in_margin before) refl e
  where
    include : is_in_margin before ≡ true → (o : Option ℕ) → include_at (drop (prefix_len is_margin rest) rest) ≡ o → skipped (suc (prefix_len is_margin rest)) o ≡ Some x → Stands before (b ∷ rest) x.0 x.1
    include g None f k = absurd (cc)
    include g (Some n) f k =
        let m = prefix_len is_margin rest in
        let i = include_is (drop m rest) n f in
        let spaces = take m rest in
        let i_is = codes "include" in
        let whole : rest ≡ (spaces ++ (i_is ++ i.text)) ++ i.more =
        front_and m rest ∙ ap (λ z. spaces ++ z) (i.is ∙ sym (append_assoc i_is i.text i.more)) ∙ sym (append_assoc spaces (i_is ++ i.text) i.more) in
        moved before (b ∷ rest) (suc m + n) None x k (record {
          bytes = 35 ∷ (spaces ++ (i_is ++ i.text));
          rest = i.more;
          is = ap (λ z. z ∷ rest) h ∙ ap (λ z. 35 ∷ z) whole;
          count = omega (arith, i.count, length-append spaces (i_is ++ i.text), front_length m rest (run_fits is_margin rest));
          piece = skipped_line spaces i.text refl (is_margin_of before g) (each_take is_margin rest) i.free i.each i.ends refl;
        })

    margin : (v : Bool) → is_in_margin before ≡ v → cond v (skipped (suc (prefix_len is_margin rest)) (include_at (drop (prefix_len is_margin rest) rest))) None ≡ Some x → Stands before (b ∷ rest) x.0 x.1
    margin true g k = include g (include_at (drop (prefix_len is_margin rest) rest)) refl k
    margin false g k = absurd (cc)

other_stands : (before : List ℕ) (b : ℕ) (rest : List ℕ) (x : Seen) → (b == 47) ≡ false → look_as other before b rest ≡ Some x → Stands before (b ∷ rest) x.0 x.1
other_stands before b rest x h e = mark_at_stands before (b ∷ rest) x (rw h refl) e

blank_stands : (before : List ℕ) (b : ℕ) (rest : List ℕ) (x : Seen) → View b blank_class → look_as blank_class before b rest ≡ Some x → Stands before (b ∷ rest) x.0 x.1
blank_stands before b rest x h e = moved before (b ∷ rest) 1 None x e (record { bytes = b ∷ []; rest = rest; is = refl; count = refl; piece = blank b refl h refl })

look_as_stands : (c : Class) (before : List ℕ) (b : ℕ) (rest : List ℕ) (x : Seen) → View b c → look_as c before b rest ≡ Some x → Stands before (b ∷ rest) x.0 x.1
look_as_stands blank_class = blank_stands
look_as_stands letter = letter_stands
look_as_stands digit = digit_stands
look_as_stands quote = quote_stands
look_as_stands double_quote = double_stands
look_as_stands slash = slash_stands
look_as_stands hash = hash_stands
look_as_stands other = other_stands

-- what is found stands there
pub look_stands : (before text : List ℕ) (x : Seen) → look before text ≡ Some x → Stands before text x.0 x.1
look_stands before [] x e = absurd (cc)
look_stands before (b ∷ rest) x e = look_as_stands (class_of b) before b rest x (view b) e

-- what stands there is found, or something longer is
exact : (r : Option Seen) (n : ℕ) (o seen : Option Word) → r ≡ Some (n, o) → seen ≡ o → Within r n seen
exact r n o seen e f = let P : Option Seen → Type 0 = λ z. Within z n seen in subst P (sym e) (inr (refl, f))

letter_within : (before : List ℕ) (first : ℕ) (others rest : List ℕ) (seen : Option Word) → is_letter first ≡ true → Each in_name others → seen ≡ Some (name_word (first ∷ others)) →
    Within (look before (first ∷ others ++ rest)) (suc (length others)) seen
letter_within before first others rest seen h i s =
    let c = class_letter first h in
    let m = prefix_len in_name (others ++ rest) in
    rw c (elim (cases_lt (length others) m) [
      | inl w ↦ inl (omega arith)
      | inr w ↦ (
          let l = each_within in_name others rest i in
          let e : m ≡ length others = omega arith in
          let t : take m (others ++ rest) ≡ others = ap (λ z. take z (others ++ rest)) e ∙ take_front others rest in
          inr (ap suc (sym e), s ∙ ap (λ z. Some (name_word (first ∷ z))) (sym t)))
    ])

pub name_head : (bytes : List ℕ) → is_like_name bytes ≡ true → (first : ℕ) × (others : List ℕ) × (bytes ≡ first ∷ others) × (is_letter first ≡ true) × Each in_name others
name_head [] h = absurd (cc)
name_head (b ∷ bytes) h = let p = and_true (is_letter b) (list_all in_name bytes) h in (b, bytes, refl, p.0, each_of_all in_name bytes p.1)

pub begins_in : (p : ℕ → Bool) (q : ℕ → Bool) → ((c : ℕ) → q c ≡ false → p c ≡ false) → (t : List ℕ) → begins q t ≡ false → begins p t ≡ false
begins_in p q f [] h = refl
begins_in p q f (c ∷ t) h = f c h

pub or_left : (x y : Bool) → (x || y) ≡ false → x ≡ false
or_left true y e = absurd (cc)
or_left false y e = refl

pub or_right : (x y : Bool) → (x || y) ≡ false → y ≡ false
or_right true y e = absurd (cc)
or_right false y e = e

no_line_feed_in_name : (c : ℕ) → in_line c ≡ false → in_name c ≡ false
no_line_feed_in_name c h = go (c == 10) refl h
  where
    go : (v : Bool) → (c == 10) ≡ v → not v ≡ false → in_name c ≡ false
    go true e f = ap in_name (byte_test c 10 e)
    go false e f = absurd (cc)

begins_append : (p : ℕ → Bool) (text rest : List ℕ) → begins p text ≡ false → begins p rest ≡ false → begins p (text ++ rest) ≡ false
begins_append p [] rest h i = i
begins_append p (c ∷ text) rest h i = h

include_within : (before margin text rest : List ℕ) → is_in_margin before ≡ true → Each is_margin margin → begins in_name (text ++ rest) ≡ false → prefix_len in_line (text ++ rest) ≡ length text →
    look before (35 ∷ (margin ++ (codes "include" ++ (text ++ rest)))) ≡ Some (suc (length margin) + (7 + length text), None)
include_within before margin text rest h i j k =
    let r = codes "include" ++ (text ++ rest) in
    let m : prefix_len is_margin (margin ++ r) ≡ length margin = each_exact is_margin margin r i refl in
    let d : drop (length margin) (margin ++ r) ≡ r = drop_front margin r in
    rw (h, m, d, j, k) refl

pub digit_look : (before : List ℕ) (first : ℕ) (others rest : List ℕ) (w : Word) → is_decimal first ≡ true → prefix_len in_name (others ++ rest) ≡ length others → begins (λ z. z == 46) rest ≡ false →
    number_word (first ∷ others) ≡ Some w → look before (first ∷ others ++ rest) ≡ Some (suc (length others), Some w)
digit_look before first others rest w h m dot f =
    let c = class_digit first h in
    let d : drop (length others) (others ++ rest) ≡ rest = drop_front others rest in
    let t : take (length others) (others ++ rest) ≡ others = take_front others rest in
    rw (c, m, d, dot, t, f) refl

pub character_look : (before body rest : List ℕ) (value : ℕ) → WritesAll 39 body (value ∷ []) → look before (39 ∷ ((body ++ 39 ∷ []) ++ rest)) ≡ Some (suc (length (body ++ 39 ∷ [])), Some (character value))
character_look before body rest value w =
    let first = w.0 in
    let b : body ≡ first = w.2 ∙ ap (λ z. first ++ z) w.4 ∙ append-nil first in
    let P : List ℕ → Type 0 = λ z. Writes 39 first z value in
    let n : value_next 39 (first ++ 39 ∷ rest) ≡ Some (length first, value) = next_found 39 single_quote first [] rest value (subst P w.4 w.3) in
    let a : (body ++ 39 ∷ []) ++ rest ≡ first ++ 39 ∷ rest = append_assoc body (39 ∷ []) rest ∙ ap (λ z. z ++ 39 ∷ rest) b in
    let d : drop (length first) (first ++ 39 ∷ rest) ≡ 39 ∷ rest = drop_front first (39 ∷ rest) in
    let c : closed 39 (value_next 39 (first ++ 39 ∷ rest)) (first ++ 39 ∷ rest) ≡ Some (suc (suc (length first)), Some (character value)) = rw (n, d) refl in
    let l : suc (suc (length first)) ≡ suc (length (body ++ 39 ∷ [])) = omega (arith, ap length b, length-append body (39 ∷ [])) in
    ap (λ z. look before (39 ∷ z)) a ∙ c ∙ ap (λ z. Some (z, Some (character value))) l

pub string_look : (before body rest values : List ℕ) → WritesAll 34 body values → look before (34 ∷ ((body ++ 34 ∷ []) ++ rest)) ≡ Some (suc (length (body ++ 34 ∷ [])), Some (string values))
string_look before body rest values w =
    let f = body_found 34 double_quotes values body rest w in
    let a : (body ++ 34 ∷ []) ++ rest ≡ body ++ 34 ∷ rest = append_assoc body (34 ∷ []) rest in
    let l : suc (suc (length body)) ≡ suc (length (body ++ 34 ∷ [])) = omega (arith, length-append body (34 ∷ [])) in
    ap (λ z. look before (34 ∷ z)) a ∙ ap string_of f ∙ ap (λ z. Some (z, Some (string values))) l

pub look_within : (before bytes rest : List ℕ) (seen : Option Word) → Piece before bytes rest seen → Within (look before (bytes ++ rest)) (length bytes) seen
look_within before bytes rest seen (blank b is h s) =
    let c = class_blank b h in
    rw is (exact (look before (b ∷ rest)) 1 None seen (rw c refl) s)
look_within before bytes rest seen (line_comment text is h i s) =
    let e = each_exact in_line text rest h i in
    rw is (exact (look before (47 ∷ 47 ∷ (text ++ rest))) (suc (suc (length text))) None seen (ap (λ z. Some (suc (suc z), None)) e) s)
look_within before bytes rest seen (block_comment text is h s) =
    let e : comment_end ((text ++ 42 ∷ 47 ∷ []) ++ rest) ≡ Some (length text + 2) = ap comment_end (append_assoc text (42 ∷ 47 ∷ []) rest) ∙ comment_found text rest h in
    let n : 2 + (length text + 2) ≡ suc (suc (length (text ++ 42 ∷ 47 ∷ []))) = omega (arith, length-append text (42 ∷ 47 ∷ [])) in
    rw is (exact (look before (47 ∷ 42 ∷ ((text ++ 42 ∷ 47 ∷ []) ++ rest))) (suc (suc (length (text ++ 42 ∷ 47 ∷ [])))) None seen (ap (skipped 2) e ∙ ap (λ z. Some (z, None)) n) s)
look_within before bytes rest seen (skipped_line margin text is m h free each line s) =
    let i_is = codes "include" in
    let a : (margin ++ (i_is ++ text)) ++ rest ≡ margin ++ (i_is ++ (text ++ rest)) = append_assoc margin (i_is ++ text) rest ∙ ap (λ z. margin ++ z) (append_assoc i_is text rest) in
    let e = include_within before margin text rest (in_margin before m) h (begins_append in_name text rest free (begins_in in_name in_line no_line_feed_in_name rest line)) (each_exact in_line text rest each line) in
    let n : suc (length margin) + (7 + length text) ≡ suc (length (margin ++ (i_is ++ text))) = omega (arith, length-append margin (i_is ++ text)) in
    rw is (exact (look before (35 ∷ ((margin ++ (i_is ++ text)) ++ rest))) (suc (length (margin ++ (i_is ++ text)))) None seen (ap (λ z. look before (35 ∷ z)) a ∙ e ∙ ap (λ z. Some (z, None)) n) s)
look_within before bytes rest seen (identifier first others is h i unreserved s) =
    let e : seen ≡ Some (name_word (first ∷ others)) = s ∙ ap Some (sym (name_of_none bytes unreserved) ∙ ap name_word is) in
    rw is (letter_within before first others rest seen h i e)
look_within before bytes rest seen (keyword k is s) =
    let x = name_head (key_spelling k) (key_like_name k) in
    let e : bytes ≡ x.0 ∷ x.1 = is ∙ x.2 in
    let f : seen ≡ Some (name_word (x.0 ∷ x.1)) = s ∙ ap Some (sym (name_of_key k) ∙ ap name_word x.2) in
    rw e (letter_within before x.0 x.1 rest seen x.3 x.4 f)
look_within before bytes rest seen (integer_constant w number free s) =
    let x = number_shape bytes w number in
    let name_ends = begins_in in_name continues_number (λ z h. or_left (in_name z) (z == 46) h) rest free in
    let dot_ends = begins_in (λ z. z == 46) continues_number (λ z h. or_right (in_name z) (z == 46) h) rest free in
    let m : prefix_len in_name (x.others ++ rest) ≡ length x.others = each_exact in_name x.others rest x.in_names name_ends in
    let f : number_word (x.first ∷ x.others) ≡ Some w = ap number_word (sym x.is) ∙ number_found bytes w number in
    let e = digit_look before x.first x.others rest w x.digit m dot_ends f in
    rw (x.is) (exact (look before (x.first ∷ x.others ++ rest)) (suc (length x.others)) (Some w) seen e s)
look_within before bytes rest seen (character_constant body value is w s) =
    rw is (exact (look before (39 ∷ ((body ++ 39 ∷ []) ++ rest))) (suc (length (body ++ 39 ∷ []))) (Some (character value)) seen (character_look before body rest value w) s)
look_within before bytes rest seen (string_literal body values is w s) =
    rw is (exact (look before (34 ∷ ((body ++ 34 ∷ []) ++ rest))) (suc (length (body ++ 34 ∷ []))) (Some (string values)) seen (string_look before body rest values w) s)
look_within before bytes rest seen (punctuator m is free s) =
    let h : opens_comment (mark_spelling m ++ rest) ≡ false = ap (λ z. opens_comment (z ++ rest)) (sym is) ∙ free in
    let e = look_at_mark before rest m h in
    let P : Option Word → Type 0 = λ z. Within (mark_at (mark_spelling m ++ rest)) (length (mark_spelling m)) z in
    let Q : Option Seen → Type 0 = λ z. Within z (length (mark_spelling m)) seen in
    rw is (subst Q (sym e) (subst P (sym s) (mark_within m rest)))

long : (bytes : List ℕ) (b : ℕ) (others : List ℕ) → bytes ≡ b ∷ others → 1 ≤ length bytes
long bytes b others e = omega (arith, ap length e)

-- no piece is empty
pub piece_some : (before bytes rest : List ℕ) (seen : Option Word) → Piece before bytes rest seen → 1 ≤ length bytes
piece_some before bytes rest seen (blank b is h s) = long bytes b [] is
piece_some before bytes rest seen (line_comment text is h i s) = long bytes 47 (47 ∷ text) is
piece_some before bytes rest seen (block_comment text is h s) = long bytes 47 (42 ∷ (text ++ 42 ∷ 47 ∷ [])) is
piece_some before bytes rest seen (skipped_line margin text is m h free each line s) = long bytes 35 (margin ++ (codes "include" ++ text)) is
piece_some before bytes rest seen (identifier first others is h i unreserved s) = long bytes first others is
piece_some before bytes rest seen (keyword k is s) = let x = name_head (key_spelling k) (key_like_name k) in long bytes x.0 x.1 (is ∙ x.2)
piece_some before bytes rest seen (integer_constant w number free s) = let x = number_shape bytes w number in long bytes x.first x.others x.is
piece_some before bytes rest seen (character_constant body value is w s) = long bytes 39 (body ++ 39 ∷ []) is
piece_some before bytes rest seen (string_literal body values is w s) = long bytes 34 (body ++ 34 ∷ []) is
piece_some before bytes rest seen (punctuator m is free s) = let x = mark_some m in long bytes x.0 x.1 (is ∙ x.2)

-- what is found is some bytes of the text
pub look_fits : (before text : List ℕ) (x : Seen) → look before text ≡ Some x → (1 ≤ x.0) × (x.0 ≤ length text)
look_fits before text x e =
    let s = look_stands before text x e in
    (omega (arith, s.count, piece_some before s.bytes s.rest x.1 s.piece), omega (arith, s.count, ap length s.is, length-append s.bytes s.rest))
