-- Character constants and string literals: what is found between the quotes is what the bytes there write.
use Rattle.std.proofs.Common.{ℕ, zero, suc, ◌≡◌, ◌≤◌, ◌+◌, ◌-◌, List, [], ◌∷◌, ◌++◌, append_assoc, length, take, drop, Option, Some, None, Bool, true, false, ◌||◌, cond, refl, ap, sym, ◌∙◌, subst, arith, inl, inr, length-append}
use Rattle.std.proofs.lemmas.Bool.Decides.{nat_tests}
use Rattle.std.specs.Prelude.{◌==◌, nat_le, ◌⊎◌}
use Rattle.std.specs.List.{prefix_len}
use Rattle.rc_syntax.specs.Bytes.{is_octal, is_hexadecimal, Each, begins}
use Rattle.rc_syntax.specs.Numerals.{value_in}
use Rattle.rc_syntax.specs.Literals.{is_plain, simple_escape, Writes, plain, simple, octal, hexadecimal, WritesAll}
use Rattle.rc_syntax.specs.reader.Look.{simple_at, octal_at, hexadecimal_at, escape_at, value_next, one_further, one_value, body_at}
use Rattle.rc_syntax.proofs.ByteLaws.{byte_test, byte_same, or_false, not_true, one_more, take_front, front_and, front_length, same_length}

some_is : {A : Type 0} {x y : A} → Some x ≡ Some y → x ≡ y
some_is e = cc

-- what is so of both quotes
pub record IsQuote (q : ℕ) : Type 0 where
  pub no_octal : is_octal q ≡ false
  pub no_hexadecimal : is_hexadecimal q ≡ false
  pub no_escape : (92 == q) ≡ false

-- a run of at most n bytes
limited : (p : ℕ → Bool) (n : ℕ) (ds t : List ℕ) → Each p ds → length ds ≤ n → (length ds ≡ n) ⊎ (begins p t ≡ false) → prefix_len p (take n (ds ++ t)) ≡ length ds
limited p zero [] t h i j = refl
limited p zero (d ∷ ds) t h i j = absurd (omega arith)
limited p (suc n) [] t h i (inl j) = absurd (omega arith)
limited p (suc n) [] [] h i (inr j) = refl
limited p (suc n) [] (c ∷ t) h i (inr j) = rw j refl
limited p (suc n) (d ∷ ds) t h i (inl j) = let e : p d ≡ true = h.0 in rw e (omega (arith, limited p n ds t h.1 (omega arith) (inl (omega arith))))
limited p (suc n) (d ∷ ds) t h i (inr j) = let e : p d ≡ true = h.0 in rw e (omega (arith, limited p n ds t h.1 (omega arith) (inr j)))

pub record Run (p : ℕ → Bool) (n : ℕ) (xs : List ℕ) (m : ℕ) : Type 0 where
  pub each : Each p (take m xs)
  pub fits : m ≤ length xs
  pub most : m ≤ n
  pub ends : (m ≡ n) ⊎ (begins p (drop m xs) ≡ false)

pub run : (p : ℕ → Bool) (n : ℕ) (xs : List ℕ) → Run p n xs (prefix_len p (take n xs))
run p zero xs = record { each = tt; fits = omega arith; most = omega arith; ends = inl refl }
run p (suc n) [] = record { each = tt; fits = omega arith; most = omega arith; ends = inr refl }
run p (suc n) (x ∷ xs) = go (p x) refl (run p n xs)
  where
    go : (v : Bool) → p x ≡ v → Run p n xs (prefix_len p (take n xs)) → Run p (suc n) (x ∷ xs) (cond v (1 + prefix_len p (take n xs)) 0)
    go true e r =
        let P : ℕ → Type 0 = λ z. Run p (suc n) (x ∷ xs) z in
        subst P (sym (one_more (prefix_len p (take n xs)))) (record {
          each = (e, r.each);
          fits = omega (arith, r.fits);
          most = omega (arith, r.most);
          ends = elim r.ends [ inl w ↦ inl (ap suc w) | inr w ↦ inr w ];
        })
    go false e r = record { each = tt; fits = omega arith; most = omega arith; ends = inr e }

octal_not : (b c : ℕ) → is_octal b ≡ true → is_octal c ≡ false → (b == c) ≡ false
octal_not b c h i = go (b == c) refl
  where
    go : (v : Bool) → (b == c) ≡ v → v ≡ false
    go true e = let f : true ≡ false = sym h ∙ ap is_octal (byte_test b c e) ∙ i in absurd (cc)
    go false e = refl

octal_no_simple : (b : ℕ) → is_octal b ≡ true → simple_escape b ≡ None
octal_no_simple b h =
    rw (
      octal_not b 97 h refl,
      octal_not b 98 h refl,
      octal_not b 102 h refl,
      octal_not b 110 h refl,
      octal_not b 114 h refl,
      octal_not b 116 h refl,
      octal_not b 118 h refl,
      octal_not b 92 h refl,
      octal_not b 39 h refl,
      octal_not b 34 h refl,
      octal_not b 63 h refl,
    ) refl

simple_no_octal : (b v : ℕ) → simple_escape b ≡ Some v → is_octal b ≡ false
simple_no_octal b v e = go (is_octal b) refl
  where
    go : (t : Bool) → is_octal b ≡ t → t ≡ false
    go true f = let g : None ≡ Some v = sym (octal_no_simple b f) ∙ e in absurd (cc)
    go false f = refl

simple_no_x : (b v : ℕ) → simple_escape b ≡ Some v → (b == 120) ≡ false
simple_no_x b v e = go (b == 120) refl
  where
    go : (t : Bool) → (b == 120) ≡ t → t ≡ false
    go true f = let g : None ≡ Some v = ap simple_escape (sym (byte_test b 120 f)) ∙ e in absurd (cc)
    go false f = refl

le_test : (a b : ℕ) → a ≤ b → nat_le a b ≡ true
le_test a b h = grind (arith, nat_tests)

one_or_two : (n : ℕ) → 1 ≤ n → n ≤ 2 → (n == 1 || n == 2) ≡ true
one_or_two n h i = grind (arith, nat_tests)

one_or_two_is : (n : ℕ) → (n == 1 || n == 2) ≡ true → (1 ≤ n) × (n ≤ 2)
one_or_two_is n h = ((grind (arith, nat_tests)), (grind (arith, nat_tests)))

plain_no_escape : (q b : ℕ) → is_plain q b ≡ true → ((b == 92) ≡ false) × ((b == q) ≡ false)
plain_no_escape q b h =
    let e = not_true ((b == 10) || ((b == 92) || (b == q))) h in
    let f = or_false (b == 10) ((b == 92) || (b == q)) e in
    or_false (b == 92) (b == q) f.1

-- the next value is found
octal_found : (digits t : List ℕ) → Each is_octal digits → 1 ≤ length digits → length digits ≤ 3 → (length digits ≡ 3) ⊎ (begins is_octal t ≡ false) → value_in 8 digits ≤ 255 →
    escape_at (digits ++ t) ≡ Some (suc (length digits), value_in 8 digits)
octal_found [] t h i j k l = absurd (omega arith)
octal_found (d ∷ digits) t h i j k l =
    let e = octal_not d 120 h.0 refl in
    let f : is_octal d ≡ true = h.0 in
    let g : prefix_len is_octal (take 3 (d ∷ digits ++ t)) ≡ length (d ∷ digits) = limited is_octal 3 (d ∷ digits) t h j k in
    let m : take (length (d ∷ digits)) (d ∷ digits ++ t) ≡ d ∷ digits = take_front (d ∷ digits) t in
    let n = le_test (value_in 8 (d ∷ digits)) 255 l in
    let o : octal_at (prefix_len is_octal (take 3 (d ∷ digits ++ t))) (d ∷ digits ++ t) ≡ octal_at (length (d ∷ digits)) (d ∷ digits ++ t) = ap (λ z. octal_at z (d ∷ digits ++ t)) g in
    let s : octal_at (length (d ∷ digits)) (d ∷ digits ++ t) ≡ Some (suc (length (d ∷ digits)), value_in 8 (d ∷ digits)) = ap (λ z. cond (nat_le (value_in 8 z) 255) (Some (suc (length (d ∷ digits)), value_in 8 z)) None) m ∙ rw n refl in
    let u : escape_at (d ∷ digits ++ t) ≡ octal_at (prefix_len is_octal (take 3 (d ∷ digits ++ t))) (d ∷ digits ++ t) = rw (e, f) refl in
    u ∙ o ∙ s

hexadecimal_found : (digits t : List ℕ) → Each is_hexadecimal digits → 1 ≤ length digits → length digits ≤ 2 → begins is_hexadecimal t ≡ false →
    escape_at (120 ∷ digits ++ t) ≡ Some (suc (suc (length digits)), value_in 16 digits)
hexadecimal_found digits t h i j k =
    let g : prefix_len is_hexadecimal (take 3 (digits ++ t)) ≡ length digits = limited is_hexadecimal 3 digits t h (omega arith) (inr k) in
    let n = one_or_two (length digits) i j in
    let o : hexadecimal_at (prefix_len is_hexadecimal (take 3 (digits ++ t))) (digits ++ t) ≡ hexadecimal_at (length digits) (digits ++ t) = ap (λ z. hexadecimal_at z (digits ++ t)) g in
    let s : hexadecimal_at (length digits) (digits ++ t) ≡ Some (suc (suc (length digits)), value_in 16 (take (length digits) (digits ++ t))) = rw n refl in
    o ∙ s ∙ ap (λ z. Some (suc (suc (length digits)), value_in 16 z)) (take_front digits t)

begins_before : (p : ℕ → Bool) (q : ℕ) (xs more : List ℕ) → p q ≡ false → begins p xs ≡ false → begins p (xs ++ q ∷ more) ≡ false
begins_before p q [] more h i = h
begins_before p q (x ∷ xs) more h i = i

begins_within : (p : ℕ → Bool) (q : ℕ) (xs more : List ℕ) → begins p (xs ++ q ∷ more) ≡ false → begins p xs ≡ false
begins_within p q [] more i = refl
begins_within p q (x ∷ xs) more i = i

pub next_found : (q : ℕ) → IsQuote q → (first further more : List ℕ) (value : ℕ) → Writes q first further value → value_next q (first ++ (further ++ q ∷ more)) ≡ Some (length first, value)
next_found q quote first further more value (plain is h) =
    let e = plain_no_escape q value h in
    let f : (value == 92) ≡ false = e.0 in
    rw (is, h, f) refl
next_found q quote first further more value (simple letter is h) =
    let e = simple_no_x letter value h in
    let f = simple_no_octal letter value h in
    rw (is, e, f, h) refl
next_found q quote first further more value (octal digits is each some most ends value_is fits) =
    let e : (length digits ≡ 3) ⊎ (begins is_octal (further ++ q ∷ more) ≡ false) = elim ends [ inl w ↦ inl w | inr w ↦ inr (begins_before is_octal q further more quote.no_octal w) ] in
    let f = octal_found digits (further ++ q ∷ more) each some most e (rw (← value_is) fits) in
    rw (is, value_is) f
next_found q quote first further more value (hexadecimal digits is each some most ends value_is) =
    let f = hexadecimal_found digits (further ++ q ∷ more) each some most (begins_before is_hexadecimal q further more quote.no_hexadecimal ends) in
    rw (is, value_is) f

-- a value begins with another byte than the quote
pub record Starts (q : ℕ) (first : List ℕ) : Type 0 where
  pub byte : ℕ
  pub others : List ℕ
  pub is : first ≡ byte ∷ others
  pub no_quote : (byte == q) ≡ false

pub starts : (q : ℕ) → IsQuote q → (first further : List ℕ) (value : ℕ) → Writes q first further value → Starts q first
starts q quote first further value (plain is h) = record { byte = value; others = []; is = is; no_quote = (plain_no_escape q value h).1 }
starts q quote first further value (simple letter is h) = record { byte = 92; others = letter ∷ []; is = is; no_quote = quote.no_escape }
starts q quote first further value (octal digits is each some most ends value_is fits) = record { byte = 92; others = digits; is = is; no_quote = quote.no_escape }
starts q quote first further value (hexadecimal digits is each some most ends value_is) = record { byte = 92; others = 120 ∷ digits; is = is; no_quote = quote.no_escape }

pub writes_within : (q : ℕ) (first further more : List ℕ) (value : ℕ) → Writes q first (further ++ q ∷ more) value → Writes q first further value
writes_within q first further more value (plain is h) = plain is h
writes_within q first further more value (simple letter is h) = simple letter is h
writes_within q first further more value (octal digits is each some most ends value_is fits) =
    octal digits is each some most (elim ends [ inl w ↦ inl w | inr w ↦ inr (begins_within is_octal q further more w) ]) value_is fits
writes_within q first further more value (hexadecimal digits is each some most ends value_is) = hexadecimal digits is each some most (begins_within is_hexadecimal q further more ends) value_is

-- what is found as the next value is written there
pub record Next (q b : ℕ) (rest : List ℕ) (n value : ℕ) : Type 0 where
  pub others : List ℕ
  pub further : List ℕ
  pub is : rest ≡ others ++ further
  pub count : n ≡ suc (length others)
  pub writes : Writes q (b ∷ others) further value

le_is : (a b : ℕ) → nat_le a b ≡ true → a ≤ b
le_is a b h = grind (arith, nat_tests)

octal_some : (e : ℕ) (rest : List ℕ) → is_octal e ≡ true → 1 ≤ prefix_len is_octal (take 3 (e ∷ rest))
octal_some e rest h = rw h (omega arith)

pub next_is : (q b : ℕ) (rest : List ℕ) (x : ℕ × ℕ) → value_next q (b ∷ rest) ≡ Some x → Next q b rest x.0 x.1
next_is q b rest x h = go (b == 92) refl h
  where
    hex : b ≡ 92 → (r : List ℕ) → rest ≡ 120 ∷ r → (v : Bool) → (prefix_len is_hexadecimal (take 3 r) == 1 || prefix_len is_hexadecimal (take 3 r) == 2) ≡ v →
        cond v (Some (suc (suc (prefix_len is_hexadecimal (take 3 r))), value_in 16 (take (prefix_len is_hexadecimal (take 3 r)) r))) None ≡ Some x → Next q b rest x.0 x.1
    hex f r i true g k =
        let m = prefix_len is_hexadecimal (take 3 r) in
        let w = run is_hexadecimal 3 r in
        let s = one_or_two_is m g in
        let l = front_length m r w.fits in
        let e = some_is k in
        let ends : begins is_hexadecimal (drop m r) ≡ false = elim w.ends [ inl z ↦ absurd (omega (arith, z, s.1)) | inr z ↦ z ] in
        record {
          others = 120 ∷ take m r;
          further = drop m r;
          is = i ∙ ap (λ z. 120 ∷ z) (front_and m r);
          count = sym (ap (λ z. z.0) e) ∙ ap (λ z. suc (suc z)) (sym l);
          writes = hexadecimal (take m r) (ap (λ z. z ∷ 120 ∷ take m r) f) w.each (omega (arith, s.0, l)) (omega (arith, s.1, l)) ends (sym (ap (λ z. z.1) e));
        }
    hex f r i false g k = absurd (cc)

    oct : b ≡ 92 → (e : ℕ) (r : List ℕ) → rest ≡ e ∷ r → is_octal e ≡ true → (v : Bool) → nat_le (value_in 8 (take (prefix_len is_octal (take 3 (e ∷ r))) (e ∷ r))) 255 ≡ v →
        cond v (Some (suc (prefix_len is_octal (take 3 (e ∷ r))), value_in 8 (take (prefix_len is_octal (take 3 (e ∷ r))) (e ∷ r)))) None ≡ Some x → Next q b rest x.0 x.1
    oct f e r i o true g k =
        let m = prefix_len is_octal (take 3 (e ∷ r)) in
        let w = run is_octal 3 (e ∷ r) in
        let l = front_length m (e ∷ r) w.fits in
        let s = octal_some e r o in
        let d = some_is k in
        let value_is : value_in 8 (take m (e ∷ r)) ≡ x.1 = ap (λ z. z.1) d in
        let ends : (length (take m (e ∷ r)) ≡ 3) ⊎ (begins is_octal (drop m (e ∷ r)) ≡ false) = elim w.ends [ inl z ↦ inl (l ∙ z) | inr z ↦ inr z ] in
        record {
          others = take m (e ∷ r);
          further = drop m (e ∷ r);
          is = i ∙ front_and m (e ∷ r);
          count = sym (ap (λ z. z.0) d) ∙ ap suc (sym l);
          writes = octal (take m (e ∷ r)) (ap (λ z. z ∷ take m (e ∷ r)) f) w.each (omega (arith, s, l)) (omega (arith, w.most, l)) ends (sym value_is) (rw (← value_is) (le_is (value_in 8 (take m (e ∷ r))) 255 g));
        }
    oct f e r i o false g k = absurd (cc)

    sim : b ≡ 92 → (e : ℕ) (r : List ℕ) → rest ≡ e ∷ r → (o : Option ℕ) → simple_escape e ≡ o → simple_at o ≡ Some x → Next q b rest x.0 x.1
    sim f e r i None g k = absurd (cc)
    sim f e r i (Some v) g k =
        let d = some_is k in
        record { others = e ∷ []; further = r; is = i; count = sym (ap (λ z. z.0) d); writes = simple e (ap (λ z. z ∷ e ∷ []) f) (g ∙ ap Some (ap (λ z. z.1) d)) }

    digits : b ≡ 92 → (e : ℕ) (r : List ℕ) → rest ≡ e ∷ r → (v : Bool) → is_octal e ≡ v → cond v (octal_at (prefix_len is_octal (take 3 (e ∷ r))) (e ∷ r)) (simple_at (simple_escape e)) ≡ Some x → Next q b rest x.0 x.1
    digits f e r i true g k = oct f e r i g (nat_le (value_in 8 (take (prefix_len is_octal (take 3 (e ∷ r))) (e ∷ r))) 255) refl k
    digits f e r i false g k = sim f e r i (simple_escape e) refl k

    letters : b ≡ 92 → (e : ℕ) (r : List ℕ) → rest ≡ e ∷ r → (v : Bool) → (e == 120) ≡ v →
        cond v (hexadecimal_at (prefix_len is_hexadecimal (take 3 r)) r) (cond (is_octal e) (octal_at (prefix_len is_octal (take 3 (e ∷ r))) (e ∷ r)) (simple_at (simple_escape e))) ≡ Some x → Next q b rest x.0 x.1
    letters f e r i true g k = hex f r (i ∙ ap (λ z. z ∷ r) (byte_test e 120 g)) (prefix_len is_hexadecimal (take 3 r) == 1 || prefix_len is_hexadecimal (take 3 r) == 2) refl k
    letters f e r i false g k = digits f e r i (is_octal e) refl k

    escapes : b ≡ 92 → (t : List ℕ) → rest ≡ t → escape_at t ≡ Some x → Next q b rest x.0 x.1
    escapes f [] i k = absurd (cc)
    escapes f (e ∷ r) i k = letters f e r i (e == 120) refl k

    plains : (v : Bool) → is_plain q b ≡ v → cond v (Some (1, b)) None ≡ Some x → Next q b rest x.0 x.1
    plains true g k = let d = some_is k in let e : b ≡ x.1 = ap (λ z. z.1) d in
        record { others = []; further = rest; is = refl; count = sym (ap (λ z. z.0) d); writes = plain (ap (λ z. z ∷ []) e) (ap (is_plain q) (sym e) ∙ g) }
    plains false g k = absurd (cc)

    go : (v : Bool) → (b == 92) ≡ v → cond v (escape_at rest) (cond (is_plain q b) (Some (1, b)) None) ≡ Some x → Next q b rest x.0 x.1
    go true f k = escapes (byte_test b 92 f) rest refl k
    go false f k = plains (is_plain q b) refl k

-- it is some bytes of the text
pub next_fits : (q : ℕ) (text : List ℕ) (x : ℕ × ℕ) → value_next q text ≡ Some x → (1 ≤ x.0) × (x.0 ≤ length text)
next_fits q [] x e = absurd (cc)
next_fits q (b ∷ rest) x e =
    let n = next_is q b rest x e in
    (omega (arith, n.count), omega (arith, n.count, ap length n.is, length-append n.others n.further))

one_further_is : (o : Option (ℕ × List ℕ)) (n : ℕ) (values : List ℕ) → one_further o ≡ Some (n, values) → (m : ℕ) × (o ≡ Some (m, values)) × (n ≡ suc m)
one_further_is None n values e = absurd (cc)
one_further_is (Some x) n values e = let d = some_is e in let f : x.1 ≡ values = ap (λ z. z.1) d in let g : x.0 ≡ x.0 = refl in (x.0, ap (λ z. Some (x.0, z)) f, sym (ap (λ z. z.0) d))

one_value_is : (o : Option (ℕ × ℕ)) (more : ℕ → Option (ℕ × List ℕ)) (n : ℕ) (values : List ℕ) → one_value o more ≡ Some (n, values) →
    (x : ℕ × ℕ) × (o ≡ Some x) × ((m : ℕ) × (others : List ℕ) × (more x.0 ≡ Some (m, others)) × (n ≡ suc m) × (values ≡ x.1 ∷ others))
one_value_is None more n values e = absurd (cc)
one_value_is (Some x) more n values e = (x, refl, go (more x.0) refl e)
  where
    go : (o : Option (ℕ × List ℕ)) → more x.0 ≡ o → one_value (Some x) (λ z. o) ≡ Some (n, values) → (m : ℕ) × (others : List ℕ) × (more x.0 ≡ Some (m, others)) × (n ≡ suc m) × (values ≡ x.1 ∷ others)
    go None f g = absurd (cc)
    go (Some y) f g = let d = some_is g in (y.0, y.1, f, sym (ap (λ z. z.0) d), sym (ap (λ z. z.1) d))

-- behind the skipped bytes stand a body that writes the values, and the closing quote
pub record Body (q skip : ℕ) (text : List ℕ) (n : ℕ) (values : List ℕ) : Type 0 where
  pub front : List ℕ
  pub body : List ℕ
  pub more : List ℕ
  pub is : text ≡ front ++ (body ++ q ∷ more)
  pub skips : length front ≡ skip
  pub count : n ≡ skip + length body
  pub writes : WritesAll q body values

pub body_is : (q skip : ℕ) (text : List ℕ) (n : ℕ) (values : List ℕ) → body_at q skip text ≡ Some (n, values) → Body q skip text n values
body_is q skip [] n values e = absurd (cc)
body_is q (suc skip) (b ∷ rest) n values e =
    let x = one_further_is (body_at q skip rest) n values e in
    let w = body_is q skip rest x.0 values x.1 in
    record { front = b ∷ w.front; body = w.body; more = w.more; is = ap (λ z. b ∷ z) w.is; skips = ap suc w.skips; count = omega (arith, x.2, w.count); writes = w.writes }
body_is q zero (b ∷ rest) n values e = go (b == q) refl (λ k m others f. body_is q k rest m others f) e
  where
    go : (v : Bool) → (b == q) ≡ v → ((k m : ℕ) (others : List ℕ) → body_at q k rest ≡ Some (m, others) → Body q k rest m others) →
        cond v (Some (0, [])) (one_value (value_next q (b ∷ rest)) (λ k. body_at q (k - 1) rest)) ≡ Some (n, values) → Body q zero (b ∷ rest) n values
    go true f again g =
        let d = some_is g in
        record { front = []; body = []; more = rest; is = ap (λ z. z ∷ rest) (byte_test b q f); skips = refl; count = sym (ap (λ z. z.0) d); writes = (let P : List ℕ → Type 0 = λ z. WritesAll q [] z in subst P (ap (λ z. z.1) d) refl) }
    go false f again g =
        let x = one_value_is (value_next q (b ∷ rest)) (λ k. body_at q (k - 1) rest) n values g in
        let y = next_is q b rest x.0 x.1 in
        let w = again (x.0.0 - 1) x.2.0 x.2.1 x.2.2 in
        let c : length w.front ≡ length y.others = omega (arith, w.skips, y.count) in
        let s = same_length w.front (w.body ++ q ∷ w.more) y.others y.further (sym w.is ∙ y.is) c in
        let first = b ∷ y.others in
        let P : List ℕ → Type 0 = λ z. Writes q first z x.0.1 in
        let wr : Writes q first w.body x.0.1 = writes_within q first w.body w.more x.0.1 (subst P (sym s.1) y.writes) in
        let Q : List ℕ → Type 0 = λ z. WritesAll q (first ++ w.body) z in
        record {
          front = [];
          body = first ++ w.body;
          more = w.more;
          is = ap (λ z. b ∷ z) (w.is ∙ ap (λ z. z ++ (w.body ++ q ∷ w.more)) s.0) ∙ sym (append_assoc first w.body (q ∷ w.more));
          skips = refl;
          count = omega (arith, x.2.3, w.count, c, w.skips, y.count, length-append first w.body);
          writes = subst Q (sym x.2.4) (first, w.body, refl, wr, w.writes);
        }

skip_front : (q : ℕ) (front text : List ℕ) (n : ℕ) (values : List ℕ) → body_at q 0 text ≡ Some (n, values) → body_at q (length front) (front ++ text) ≡ Some (length front + n, values)
skip_front q [] text n values e = e ∙ ap (λ z. Some (z, values)) (let f : n ≡ 0 + n = omega arith in f)
skip_front q (b ∷ front) text n values e = ap one_further (skip_front q front text n values e) ∙ ap (λ z. Some (z, values)) (let f : suc (length front + n) ≡ suc (length front) + n = omega arith in f)

-- a body that writes the values is found
pub body_found : (q : ℕ) → IsQuote q → (values body more : List ℕ) → WritesAll q body values → body_at q 0 (body ++ q ∷ more) ≡ Some (length body, values)
body_found q quote [] body more w =
    let e = byte_same q in
    let f : body_at q 0 (q ∷ more) ≡ Some (0, []) = rw e refl in
    ap (λ z. body_at q 0 (z ++ q ∷ more)) w ∙ f ∙ ap (λ z. Some (length z, [])) (sym w)
body_found q quote (value ∷ values) body more w =
    let first = w.0 in
    let further = w.1 in
    let s = starts q quote first further value w.3 in
    let n = next_found q quote first further more value w.3 in
    let again = body_found q quote values further more w.4 in
    let t = further ++ q ∷ more in
    let k = skip_front q s.others t (length further) values again in
    let whole : body ++ q ∷ more ≡ s.byte ∷ (s.others ++ t) = ap (λ z. z ++ q ∷ more) w.2 ∙ append_assoc first further (q ∷ more) ∙ ap (λ z. z ++ t) s.is in
    let m : value_next q (s.byte ∷ (s.others ++ t)) ≡ Some (length first, value) = ap (λ z. value_next q (z ++ t)) (sym s.is) ∙ n in
    let l : length first ≡ suc (length s.others) = ap length s.is in
    let c : length first - 1 ≡ length s.others = omega arith in
    let f = s.no_quote in
    let g : body_at q 0 (s.byte ∷ (s.others ++ t)) ≡ one_value (value_next q (s.byte ∷ (s.others ++ t))) (λ z. body_at q (z - 1) (s.others ++ t)) = rw f refl in
    let h : one_value (value_next q (s.byte ∷ (s.others ++ t))) (λ z. body_at q (z - 1) (s.others ++ t)) ≡ one_value (Some (length first, value)) (λ z. body_at q (z - 1) (s.others ++ t)) = ap (λ o. one_value o (λ z. body_at q (z - 1) (s.others ++ t))) m in
    let j : body_at q (length first - 1) (s.others ++ t) ≡ Some (length s.others + length further, values) = ap (λ z. body_at q z (s.others ++ t)) c ∙ k in
    let i : one_value (Some (length first, value)) (λ z. body_at q (z - 1) (s.others ++ t)) ≡ Some (suc (length s.others + length further), value ∷ values) = ap (λ o. one_value (Some (length first, value)) (λ z. o)) j in
    let d : suc (length s.others + length further) ≡ length body = omega (arith, ap length w.2, length-append first further) in
    ap (body_at q 0) whole ∙ g ∙ h ∙ i ∙ ap (λ z. Some (z, value ∷ values)) d
