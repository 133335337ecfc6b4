-- A line feed parts the words of a text from those of the lines behind it, where no `/` stands in these.
use Rattle.rc_task_trees.proofs.Common.{◌≡◌, append_assoc, append-nil, Option, Some, None, not, ◌||◌, refl, ap, sym, ◌∙◌, subst, inl, inr, arith, nat_tests, ◌⊎◌, ◌==◌, codes, Word, Token, key, mark, is_letter, is_decimal, is_octal, is_hexadecimal, is_margin, in_name, in_line, Each, line_behind, is_plain, simple_escape, Writes, plain, simple, octal, hexadecimal, WritesAll, Piece, blank, line_comment, block_comment, skipped_line, identifier, keyword, integer_constant, character_constant, string_literal, punctuator, with_line, Cut, end, piece, byte_test, or_false, not_true, each_append, each_mono, number_shape, spelling_in_line}
use Rattle.std.proofs.Common.{ℕ, List, [], ◌∷◌, ◌++◌, Bool, true, false}
use Rattle.rc_task_trees.proofs.Ends.{fronts}

letter_in_line : (b : ℕ) → is_letter b ≡ true → in_line b ≡ true
letter_in_line b h = grind (arith, nat_tests)

in_name_in_line : (b : ℕ) → in_name b ≡ true → in_line b ≡ true
in_name_in_line b h = grind (arith, nat_tests)

decimal_in_line : (b : ℕ) → is_decimal b ≡ true → in_line b ≡ true
decimal_in_line b h = grind (arith, nat_tests)

octal_in_line : (b : ℕ) → is_octal b ≡ true → in_line b ≡ true
octal_in_line b h = grind (arith, nat_tests)

hexadecimal_in_line : (b : ℕ) → is_hexadecimal b ≡ true → in_line b ≡ true
hexadecimal_in_line b h = grind (arith, nat_tests)

margin_in_line : (b : ℕ) → is_margin b ≡ true → in_line b ≡ true
margin_in_line b h = grind (arith, nat_tests)

plain_in_line : (q b : ℕ) → is_plain q b ≡ true → in_line b ≡ true
plain_in_line q b h = ap not (or_false (b == 10) ((b == 92) || (b == q)) (not_true ((b == 10) || ((b == 92) || (b == q))) h)).0

escape_in_line : (b v : ℕ) → simple_escape b ≡ Some v → in_line b ≡ true
escape_in_line b v h = go (b == 10) refl
  where
    go : (x : Bool) → (b == 10) ≡ x → not x ≡ true
    go true e = let f : None ≡ Some v = ap simple_escape (sym (byte_test b 10 e)) ∙ h in absurd (cc)
    go false e = refl

writes_in_line : (q : ℕ) (bytes further : List ℕ) (value : ℕ) → Writes q bytes further value → Each in_line bytes
writes_in_line q bytes further value (plain is h) = let P : List ℕ → Type 0 = λ z. Each in_line z in subst P (sym is) (plain_in_line q value h, tt)
writes_in_line q bytes further value (simple letter is h) = let P : List ℕ → Type 0 = λ z. Each in_line z in subst P (sym is) (refl, (escape_in_line letter value h, tt))
writes_in_line q bytes further value (octal digits is each some most ends value_is fits) = let P : List ℕ → Type 0 = λ z. Each in_line z in subst P (sym is) (refl, each_mono is_octal in_line octal_in_line digits each)
writes_in_line q bytes further value (hexadecimal digits is each some most ends value_is) = let P : List ℕ → Type 0 = λ z. Each in_line z in subst P (sym is) (refl, (refl, each_mono is_hexadecimal in_line hexadecimal_in_line digits each))

all_in_line : (q : ℕ) (bytes values : List ℕ) → WritesAll q bytes values → Each in_line bytes
all_in_line q bytes [] w = let P : List ℕ → Type 0 = λ z. Each in_line z in subst P (sym w) tt
all_in_line q bytes (value ∷ values) w =
    let P : List ℕ → Type 0 = λ z. Each in_line z in
    subst P (sym w.2) (each_append in_line w.0 w.1 (writes_in_line q w.0 w.1 value w.3) (all_in_line q w.1 values w.4))

feed_not : (xs ys : List ℕ) → Each in_line (xs ++ 10 ∷ ys) → ⊥
feed_not [] ys h = let e : false ≡ true = h.0 in cc
feed_not (x ∷ xs) ys h = feed_not xs ys h.1

-- A piece with a line feed in it is the line feed, or a comment that ends with a `/`.
abbrev HasFeed : List ℕ → List ℕ → List ℕ → Option Word → Type 0
HasFeed bytes xs ys seen = ((xs ≡ []) × (ys ≡ []) × (seen ≡ None)) ⊎ ((front : List ℕ) × (bytes ≡ front ++ 47 ∷ []))

in_one_line : (bytes xs ys : List ℕ) (seen : Option Word) → bytes ≡ xs ++ 10 ∷ ys → Each in_line bytes → HasFeed bytes xs ys seen
in_one_line bytes xs ys seen e h = let P : List ℕ → Type 0 = λ z. Each in_line z in absurd (feed_not xs ys (subst P e h))

feeds : (before bytes rest : List ℕ) (seen : Option Word) → Piece before bytes rest seen → (xs ys : List ℕ) → bytes ≡ xs ++ 10 ∷ ys → HasFeed bytes xs ys seen
feeds before bytes rest seen (blank b is h s) xs ys e = alone xs (sym is ∙ e)
  where
    alone : (xs : List ℕ) → b ∷ [] ≡ xs ++ 10 ∷ ys → HasFeed bytes xs ys seen
    alone [] f = inl (refl, (cc), s)
    alone (x ∷ []) f = absurd (cc)
    alone (x ∷ y ∷ xs) f = absurd (cc)
feeds before bytes rest seen (line_comment text is h i s) xs ys e =
    let P : List ℕ → Type 0 = λ z. Each in_line z in in_one_line bytes xs ys seen e (subst P (sym is) (refl, (refl, h)))
feeds before bytes rest seen (block_comment text is h s) xs ys e = inr (47 ∷ 42 ∷ (text ++ 42 ∷ []), is ∙ ap (λ z. 47 ∷ 42 ∷ z) (sym (append_assoc text (42 ∷ []) (47 ∷ []))))
feeds before bytes rest seen (skipped_line margin text is m h free each line s) xs ys e =
    let P : List ℕ → Type 0 = λ z. Each in_line z in
    let included : Each in_line (codes "include") = (refl, (refl, (refl, (refl, (refl, (refl, (refl, tt))))))) in
    in_one_line bytes xs ys seen e (subst P (sym is) (refl, each_append in_line margin (codes "include" ++ text) (each_mono is_margin in_line margin_in_line margin h) (each_append in_line (codes "include") text included each)))
feeds before bytes rest seen (identifier first others is h i unreserved s) xs ys e =
    let P : List ℕ → Type 0 = λ z. Each in_line z in in_one_line bytes xs ys seen e (subst P (sym is) (letter_in_line first h, each_mono in_name in_line in_name_in_line others i))
feeds before bytes rest seen (keyword k is s) xs ys e = let P : List ℕ → Type 0 = λ z. Each in_line z in in_one_line bytes xs ys seen e (subst P (sym is) (spelling_in_line (key k) tt))
feeds before bytes rest seen (integer_constant w number free s) xs ys e =
    let x = number_shape bytes w number in
    let P : List ℕ → Type 0 = λ z. Each in_line z in
    in_one_line bytes xs ys seen e (subst P (sym x.is) (decimal_in_line x.first x.digit, each_mono in_name in_line in_name_in_line x.others x.in_names))
feeds before bytes rest seen (character_constant body value is w s) xs ys e =
    let P : List ℕ → Type 0 = λ z. Each in_line z in in_one_line bytes xs ys seen e (subst P (sym is) (refl, each_append in_line body (39 ∷ []) (all_in_line 39 body (value ∷ []) w) (refl, tt)))
feeds before bytes rest seen (string_literal body values is w s) xs ys e =
    let P : List ℕ → Type 0 = λ z. Each in_line z in in_one_line bytes xs ys seen e (subst P (sym is) (refl, each_append in_line body (34 ∷ []) (all_in_line 34 body values w) (refl, tt)))
feeds before bytes rest seen (punctuator m is free s) xs ys e = let P : List ℕ → Type 0 = λ z. Each in_line z in in_one_line bytes xs ys seen e (subst P (sym is) (spelling_in_line (mark m) tt))

-- no `/`
abbrev pub no_slash : ℕ → Bool
no_slash b = not (b == 47)

slash_not : (xs : List ℕ) → Each no_slash (xs ++ 47 ∷ []) → ⊥
slash_not [] h = let e : false ≡ true = h.0 in cc
slash_not (x ∷ xs) h = slash_not xs h.1

front_of : (p : ℕ → Bool) (xs ys : List ℕ) → Each p (xs ++ ys) → Each p xs
front_of p [] ys h = tt
front_of p (x ∷ xs) ys h = (h.0, front_of p xs ys h.1)

no_comment : (text us front : List ℕ) → Each no_slash us → text ++ 10 ∷ us ≡ front ++ 47 ∷ [] → ⊥
no_comment text us front h e = elim (fronts front (47 ∷ []) text (10 ∷ us) (sym e)) [
  | inl p ↦ (let P : List ℕ → Type 0 = λ z. Each no_slash z in slash_not p.0 (subst P p.2 (refl, h)))
  | inr p ↦ none p.1 (let f : [] ≡ p.1 ++ 10 ∷ us = cc in f)
]
  where
    none : (xs : List ℕ) → [] ≡ xs ++ 10 ∷ us → ⊥
    none [] f = cc
    none (x ∷ xs) f = cc

pub with_line_on : (n : ℕ) (o : Option Word) (ts us : List Token) → with_line n o (ts ++ us) ≡ with_line n o ts ++ us
with_line_on n None ts us = refl
with_line_on n (Some w) ts us = refl

-- the words, parted at the line feed
pub record Parted (before text lines : List ℕ) (tokens : List Token) (read : List ℕ) : Type 0 where
  pub front : List Token
  pub own : List Token
  pub is : tokens ≡ front ++ own
  pub cut : Cut ((before ++ text) ++ 10 ∷ []) lines own read []

further : {before text lines read : List ℕ} {tokens : List Token} (bytes : List ℕ) (seen : Option Word) → Parted (before ++ bytes) text lines tokens read → Parted before (bytes ++ text) lines (with_line (line_behind before) seen tokens) read
further {before = before} {text = text} {lines = lines} {read = read} bytes seen p =
    let P : List ℕ → Type 0 = λ z. Cut (z ++ 10 ∷ []) lines p.own read [] in
    record { front = with_line (line_behind before) seen p.front; own = p.own; is = ap (with_line (line_behind before) seen) p.is ∙ with_line_on (line_behind before) seen p.front p.own; cut = subst P (append_assoc before bytes text) p.cut }

none_behind : (xs ys : List ℕ) → [] ≡ xs ++ 10 ∷ ys → ⊥
none_behind [] ys f = cc
none_behind (x ∷ xs) ys f = cc

pub parted : {before whole read rest : List ℕ} {tokens : List Token} → Cut before whole tokens read rest → rest ≡ [] → (text lines : List ℕ) → Each no_slash lines → whole ≡ text ++ 10 ∷ lines → Parted before text lines tokens read
parted end r text lines h e = absurd (none_behind text lines (sym r ∙ e))
parted {before = before} {read = read} (piece {bytes = bytes} {middle = middle} {seen = seen} {tokens = tokens} x c) r text lines h e =
    elim (fronts bytes middle text (10 ∷ lines) (sym x.cut ∙ e)) [
      | inl p ↦ over p.0 p.1 p.2 (λ f. parted c r [] lines h f)
      | inr p ↦ (let P : List ℕ → Type 0 = λ z. Parted before z lines (with_line (line_behind before) seen tokens) read in
          subst P (sym p.2) (further bytes seen (parted c r (p.0 ∷ p.1) lines h p.3)))
    ]
  where
    feed : (us : List ℕ) → bytes ≡ text ++ 10 ∷ us → lines ≡ us ++ middle → HasFeed bytes text us seen → Parted before text lines (with_line (line_behind before) seen tokens) read
    feed us f g (inl y) =
        let m : lines ≡ middle = g ∙ ap (λ z. z ++ middle) y.1 in
        let b : bytes ≡ text ++ 10 ∷ [] = f ∙ ap (λ z. text ++ 10 ∷ z) y.1 in
        let Q : List ℕ → Type 0 = λ z. Cut ((before ++ text) ++ 10 ∷ []) z tokens read [] in
        let S : List ℕ → Type 0 = λ z. Cut (before ++ bytes) middle tokens read z in
        let T : List ℕ → Type 0 = λ z. Cut z middle tokens read [] in
        record { front = []; own = tokens; is = ap (λ z. with_line (line_behind before) z tokens) y.2; cut = subst Q (sym m) (subst T (ap (λ z. before ++ z) b ∙ sym (append_assoc before text (10 ∷ []))) (subst S r c)) }
    feed us f g (inr y) = let P : List ℕ → Type 0 = λ z. Each no_slash z in absurd (no_comment text us y.0 (front_of no_slash us middle (subst P g h)) (sym f ∙ y.1))

    over : (us : List ℕ) → bytes ≡ text ++ us → 10 ∷ lines ≡ us ++ middle → (middle ≡ 10 ∷ lines → Parted (before ++ bytes) [] lines tokens read) → Parted before text lines (with_line (line_behind before) seen tokens) read
    over [] f g again =
        let P : List ℕ → Type 0 = λ z. Parted before z lines (with_line (line_behind before) seen tokens) read in
        subst P (append-nil bytes ∙ f ∙ append-nil text) (further bytes seen (again (sym g)))
    over (y ∷ us) f g again = let i : 10 ≡ y = cc in let j : lines ≡ us ++ middle = cc in let k = f ∙ ap (λ z. text ++ z ∷ us) (sym i) in feed us k j (feeds before bytes middle seen x.piece text us k)
