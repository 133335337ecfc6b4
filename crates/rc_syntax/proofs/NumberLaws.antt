-- Numbers: what is found at a run of letters and digits is the number that it writes.
use Rattle.std.proofs.Common.{ℕ, suc, ◌≡◌, ◌≤◌, ◌-◌, List, [], ◌∷◌, ◌++◌, length, take, drop, get_or, Option, Some, None, Bool, true, false, ◌&&◌, cond, refl, ap, sym, ◌∙◌, subst, arith}
use Rattle.std.proofs.lemmas.Bool.Decides.{nat_tests}
use Rattle.std.specs.Prelude.{◌==◌, nat_le}
use Rattle.std.specs.List.{list_all}
use Rattle.rc_syntax.specs.Tokens.{Word, number}
use Rattle.rc_syntax.specs.Bytes.{is_decimal, is_octal, is_hexadecimal, in_name, Each, begins}
use Rattle.rc_syntax.specs.Numerals.{value_in, Numeral, decimal, octal, hexadecimal, is_suffix, number_type, Number, unsuffixed, suffixed}
use Rattle.rc_syntax.specs.reader.Look.{is_x, base_of, is_digit_in, value_at, typed, number_in, numeral_word, number_word}
use Rattle.rc_syntax.proofs.ByteLaws.{and_true, byte_test, each_of_all, all_of_each, each_mono, each_append}

some_is : {A : Type 0} {x y : A} → Some x ≡ Some y → x ≡ y
some_is e = cc

-- one base at a time
value_found : (base : ℕ) (digits : List ℕ) → Each (is_digit_in base) digits → nat_le (value_in base digits) 4294967295 ≡ true → value_at base digits ≡ Some (value_in base digits)
value_found base digits h i = let e = all_of_each (is_digit_in base) digits h in rw (e, i) refl

value_is : (base : ℕ) (digits : List ℕ) (value : ℕ) → value_at base digits ≡ Some value → Each (is_digit_in base) digits × (value ≡ value_in base digits)
value_is base digits value e = go (list_all (is_digit_in base) digits && nat_le (value_in base digits) 4294967295) refl e
  where
    go : (v : Bool) → (list_all (is_digit_in base) digits && nat_le (value_in base digits) 4294967295) ≡ v → cond v (Some (value_in base digits)) None ≡ Some value → Each (is_digit_in base) digits × (value ≡ value_in base digits)
    go true f g = (each_of_all (is_digit_in base) digits (and_true (list_all (is_digit_in base) digits) (nat_le (value_in base digits) 4294967295) f).0, sym (some_is g))
    go false f g = absurd (cc)

type_fits : (base value : ℕ) (suffix unsigned : Bool) → number_type base value suffix ≡ Some unsigned → nat_le value 4294967295 ≡ true
type_fits base value suffix unsigned e = go (nat_le value 4294967295) e
  where
    go : (v : Bool) → cond v (cond suffix (Some true) (cond (nat_le value 2147483647) (Some false) (cond (base == 10) None (Some true)))) None ≡ Some unsigned → v ≡ true
    go true f = refl
    go false f = absurd (cc)

word_found : (base : ℕ) (suffix : Bool) (digits : List ℕ) (value : ℕ) (unsigned : Bool) → Each (is_digit_in base) digits → value ≡ value_in base digits → number_type base value suffix ≡ Some unsigned →
    number_in base suffix (value_at base digits) ≡ Some (number value unsigned)
word_found base suffix digits value unsigned h e f =
    let g : nat_le (value_in base digits) 4294967295 ≡ true = ap (λ z. nat_le z 4294967295) (sym e) ∙ type_fits base value suffix unsigned f in
    let i = value_found base digits h g in
    let j : number_type base (value_in base digits) suffix ≡ Some unsigned = ap (λ z. number_type base z suffix) (sym e) ∙ f in
    ap (number_in base suffix) i ∙ ap (typed (value_in base digits)) j ∙ ap (λ z. Some (number z unsigned)) (sym e)

octal_no_x : (b : ℕ) → is_octal b ≡ true → is_x b ≡ false
octal_no_x b h = grind (arith, nat_tests)

octal_no_x_begins : (digits : List ℕ) → Each is_octal digits → begins is_x digits ≡ false
octal_no_x_begins [] h = refl
octal_no_x_begins (d ∷ digits) h = octal_no_x d h.0

two_and : (digits : List ℕ) → 1 ≤ length digits → nat_le (suc (suc (length digits))) 2 ≡ false
two_and digits h = grind (arith, nat_tests)

numeral_found : (suffix : Bool) (bytes : List ℕ) (base value : ℕ) (unsigned : Bool) → Numeral bytes base value → number_type base value suffix ≡ Some unsigned → numeral_word suffix bytes ≡ Some (number value unsigned)
numeral_found suffix bytes base value unsigned (decimal first others is zero_not digits base_is value_is) t =
    let e : base_of bytes ≡ (10, 0) = ap base_of is ∙ rw zero_not refl in
    rw e (word_found 10 suffix bytes value unsigned digits value_is (ap (λ z. number_type z value suffix) (sym base_is) ∙ t))
numeral_found suffix bytes base value unsigned (octal digits is each base_is value_is) t =
    let x = octal_no_x_begins digits each in
    let e : base_of bytes ≡ (8, 1) = ap base_of is ∙ rw x refl in
    let f : drop 1 bytes ≡ digits = ap (drop 1) is in
    rw (e, f) (word_found 8 suffix digits value unsigned each value_is (ap (λ z. number_type z value suffix) (sym base_is) ∙ t))
numeral_found suffix bytes base value unsigned (hexadecimal x digits is x_is some each base_is value_is) t =
    let e : base_of bytes ≡ (16, 2) = ap base_of is ∙ rw x_is refl in
    let f : drop 2 bytes ≡ digits = ap (drop 2) is in
    let g : nat_le (length bytes) 2 ≡ false = ap (λ z. nat_le (length z) 2) is ∙ two_and digits some in
    rw (e, f, g) (word_found 16 suffix digits value unsigned each value_is (ap (λ z. number_type z value suffix) (sym base_is) ∙ t))

-- what a word that is found stands for
pub record Found (suffix : Bool) (bytes : List ℕ) (word : Word) : Type 0 where
  base : ℕ
  value : ℕ
  unsigned : Bool
  numeral : Numeral bytes base value
  type : number_type base value suffix ≡ Some unsigned
  word_is : word ≡ number value unsigned

typed_is : (value : ℕ) (o : Option Bool) (word : Word) → typed value o ≡ Some word → (unsigned : Bool) × (o ≡ Some unsigned) × (word ≡ number value unsigned)
typed_is value None word e = absurd (cc)
typed_is value (Some u) word e = (u, refl, sym (some_is e))

number_in_is : (base : ℕ) (suffix : Bool) (o : Option ℕ) (word : Word) → number_in base suffix o ≡ Some word →
    (value : ℕ) × (o ≡ Some value) × ((unsigned : Bool) × (number_type base value suffix ≡ Some unsigned) × (word ≡ number value unsigned))
number_in_is base suffix None word e = absurd (cc)
number_in_is base suffix (Some value) word e = (value, refl, typed_is value (number_type base value suffix) word e)

long_enough : (digits : List ℕ) → nat_le (suc (suc (length digits))) 2 ≡ false → 1 ≤ length digits
long_enough digits h = grind (arith, nat_tests)

numeral_is : (suffix : Bool) (b : ℕ) (rest : List ℕ) (word : Word) → numeral_word suffix (b ∷ rest) ≡ Some word → Found suffix (b ∷ rest) word
numeral_is suffix b rest word e = zero_first (b == 48) refl e
  where
    in_base : (base : ℕ) (digits : List ℕ) → number_in base suffix (value_at base digits) ≡ Some word →
        ((value : ℕ) → Each (is_digit_in base) digits → value ≡ value_in base digits → Numeral (b ∷ rest) base value) → Found suffix (b ∷ rest) word
    in_base base digits f make =
        let x = number_in_is base suffix (value_at base digits) word f in
        let y = value_is base digits x.0 x.1 in
        record { base = base; value = x.0; unsigned = x.2.0; numeral = make x.0 y.0 y.1; type = x.2.1; word_is = x.2.2 }

    in_sixteen : b ≡ 48 → (r : List ℕ) → r ≡ rest → begins is_x r ≡ true → cond (nat_le (suc (length r)) 2) None (number_in 16 suffix (value_at 16 (drop 1 r))) ≡ Some word → Found suffix (b ∷ rest) word
    in_sixteen h [] i x f = absurd (cc)
    in_sixteen h (c ∷ digits) i x f = go (nat_le (suc (suc (length digits))) 2) refl f
      where
        go : (v : Bool) → nat_le (suc (suc (length digits))) 2 ≡ v → cond v None (number_in 16 suffix (value_at 16 digits)) ≡ Some word → Found suffix (b ∷ rest) word
        go true g k = absurd (cc)
        go false g k = in_base 16 digits k (λ value each value_is. hexadecimal c digits (let j : b ∷ rest ≡ 48 ∷ c ∷ digits = cc in j) x (long_enough digits g) each refl value_is)

    x_second : b ≡ 48 → (v : Bool) → begins is_x rest ≡ v →
        (let p : ℕ × ℕ = cond v (16, 2) (8, 1) in cond (p.0 == 16 && nat_le (suc (length rest)) 2) None (number_in p.0 suffix (value_at p.0 (drop p.1 (b ∷ rest))))) ≡ Some word → Found suffix (b ∷ rest) word
    x_second h true x f = in_sixteen h rest refl x f
    x_second h false x f = in_base 8 rest f (λ value each value_is. octal rest (ap (λ z. z ∷ rest) h) each refl value_is)

    zero_first : (v : Bool) → (b == 48) ≡ v →
        (let p : ℕ × ℕ = cond v (cond (begins is_x rest) (16, 2) (8, 1)) (10, 0) in cond (p.0 == 16 && nat_le (suc (length rest)) 2) None (number_in p.0 suffix (value_at p.0 (drop p.1 (b ∷ rest))))) ≡ Some word → Found suffix (b ∷ rest) word
    zero_first true h f = x_second (byte_test b 48 h) (begins is_x rest) refl f
    zero_first false h f = in_base 10 (b ∷ rest) f (λ value each value_is. decimal b rest refl h each refl value_is)

-- the last byte
pub last_each : (p : ℕ → Bool) (b : ℕ) (bs : List ℕ) → Each p (b ∷ bs) → p (get_or (b ∷ bs) (length (b ∷ bs) - 1) 0) ≡ true
last_each p b [] h = h.0
last_each p b (c ∷ bs) h =
    let e : length (b ∷ c ∷ bs) - 1 ≡ suc (length (c ∷ bs) - 1) = omega arith in
    rw e (last_each p c bs h.1)

last_of : (xs : List ℕ) (c : ℕ) → get_or (xs ++ c ∷ []) (length (xs ++ c ∷ []) - 1) 0 ≡ c
last_of [] c = refl
last_of (x ∷ []) c = refl
last_of (x ∷ y ∷ xs) c =
    let e : length (x ∷ y ∷ xs ++ c ∷ []) - 1 ≡ suc (length (y ∷ xs ++ c ∷ []) - 1) = omega arith in
    rw e (last_of (y ∷ xs) c)

front_of : (xs : List ℕ) (c : ℕ) → take (length (xs ++ c ∷ []) - 1) (xs ++ c ∷ []) ≡ xs
front_of [] c = refl
front_of (x ∷ []) c = refl
front_of (x ∷ y ∷ xs) c =
    let e : length (x ∷ y ∷ xs ++ c ∷ []) - 1 ≡ suc (length (y ∷ xs ++ c ∷ []) - 1) = omega arith in
    rw e (ap (λ z. x ∷ z) (front_of (y ∷ xs) c))

front_and_last : (b : ℕ) (bs : List ℕ) → b ∷ bs ≡ take (length (b ∷ bs) - 1) (b ∷ bs) ++ get_or (b ∷ bs) (length (b ∷ bs) - 1) 0 ∷ []
front_and_last b [] = refl
front_and_last b (c ∷ bs) =
    let e : length (b ∷ c ∷ bs) - 1 ≡ suc (length (c ∷ bs) - 1) = omega arith in
    rw e (ap (λ z. b ∷ z) (front_and_last c bs))

digit_no_suffix : (b : ℕ) → is_hexadecimal b ≡ true → is_suffix b ≡ false
digit_no_suffix b h = grind (arith, nat_tests)

decimal_hexadecimal : (b : ℕ) → is_decimal b ≡ true → is_hexadecimal b ≡ true
decimal_hexadecimal b h = rw h refl

octal_hexadecimal : (b : ℕ) → is_octal b ≡ true → is_hexadecimal b ≡ true
octal_hexadecimal b h = grind (arith, nat_tests)

last_no_suffix : (b : ℕ) (bs : List ℕ) → Each is_hexadecimal (b ∷ bs) → is_suffix (get_or (b ∷ bs) (length (b ∷ bs) - 1) 0) ≡ false
last_no_suffix b bs h = digit_no_suffix (get_or (b ∷ bs) (length (b ∷ bs) - 1) 0) (last_each is_hexadecimal b bs h)

last_digit : (bytes : List ℕ) (base value : ℕ) → Numeral bytes base value → is_suffix (get_or bytes (length bytes - 1) 0) ≡ false
last_digit bytes base value (decimal first others is zero_not digits base_is value_is) =
    let P : List ℕ → Type 0 = λ z. Each is_hexadecimal z in
    let h : Each is_hexadecimal (first ∷ others) = subst P is (each_mono is_decimal is_hexadecimal decimal_hexadecimal bytes digits) in
    rw is (last_no_suffix first others h)
last_digit bytes base value (octal digits is each base_is value_is) =
    let h : Each is_hexadecimal (48 ∷ digits) = (refl, each_mono is_octal is_hexadecimal octal_hexadecimal digits each) in
    rw is (last_no_suffix 48 digits h)
last_digit bytes base value (hexadecimal x [] is x_is some each base_is value_is) = absurd (omega arith)
last_digit bytes base value (hexadecimal x (d ∷ digits) is x_is some each base_is value_is) =
    let e : length (48 ∷ x ∷ d ∷ digits) - 1 ≡ suc (suc (length (d ∷ digits) - 1)) = omega arith in
    rw (is, e) (last_no_suffix d digits each)

-- a number is found
pub number_found : (bytes : List ℕ) (word : Word) → Number bytes word → number_word bytes ≡ Some word
number_found bytes word (unsuffixed base value unsigned numeral type word_is) =
    let e = last_digit bytes base value numeral in
    rw e (numeral_found false bytes base value unsigned numeral type ∙ ap Some (sym word_is))
number_found bytes word (suffixed digits suffix base value unsigned is suffix_is numeral type word_is) =
    let e : is_suffix (get_or bytes (length bytes - 1) 0) ≡ true = ap (λ z. is_suffix (get_or z (length z - 1) 0)) is ∙ ap is_suffix (last_of digits suffix) ∙ suffix_is in
    let f : take (length bytes - 1) bytes ≡ digits = ap (λ z. take (length z - 1) z) is ∙ front_of digits suffix in
    rw (e, f) (numeral_found true digits base value unsigned numeral type ∙ ap Some (sym word_is))

decimal_no_suffix : (b : ℕ) → is_decimal b ≡ true → is_suffix b ≡ false
decimal_no_suffix b h = grind (arith, nat_tests)

-- what is found is a number
pub number_is : (b : ℕ) (rest : List ℕ) (word : Word) → is_decimal b ≡ true → number_word (b ∷ rest) ≡ Some word → Number (b ∷ rest) word
number_is b rest word h e = go (is_suffix (get_or (b ∷ rest) (length (b ∷ rest) - 1) 0)) refl e
  where
    with_suffix : (front : List ℕ) → front ≡ take (length (b ∷ rest) - 1) (b ∷ rest) → is_suffix (get_or (b ∷ rest) (length (b ∷ rest) - 1) 0) ≡ true → numeral_word true front ≡ Some word → Number (b ∷ rest) word
    with_suffix [] f g k =
        let i : b ∷ rest ≡ get_or (b ∷ rest) (length (b ∷ rest) - 1) 0 ∷ [] = front_and_last b rest ∙ ap (λ z. z ++ get_or (b ∷ rest) (length (b ∷ rest) - 1) 0 ∷ []) (sym f) in
        let j : b ≡ get_or (b ∷ rest) (length (b ∷ rest) - 1) 0 = cc in
        let l : false ≡ true = sym (decimal_no_suffix b h) ∙ ap is_suffix j ∙ g in absurd (cc)
    with_suffix (c ∷ front) f g k =
        let x = numeral_is true c front word k in
        suffixed (c ∷ front) (get_or (b ∷ rest) (length (b ∷ rest) - 1) 0) x.base x.value x.unsigned
        (front_and_last b rest ∙ ap (λ z. z ++ get_or (b ∷ rest) (length (b ∷ rest) - 1) 0 ∷ []) (sym f)) g x.numeral x.type x.word_is

    go : (v : Bool) → is_suffix (get_or (b ∷ rest) (length (b ∷ rest) - 1) 0) ≡ v → cond v (numeral_word true (take (length (b ∷ rest) - 1) (b ∷ rest))) (numeral_word false (b ∷ rest)) ≡ Some word → Number (b ∷ rest) word
    go true f g = with_suffix (take (length (b ∷ rest) - 1) (b ∷ rest)) refl f g
    go false f g = let x = numeral_is false b rest word g in unsuffixed x.base x.value x.unsigned x.numeral x.type x.word_is

hexadecimal_in_name : (b : ℕ) → is_hexadecimal b ≡ true → in_name b ≡ true
hexadecimal_in_name b h = grind (arith, nat_tests)

x_in_name : (b : ℕ) → is_x b ≡ true → in_name b ≡ true
x_in_name b h = grind (arith, nat_tests)

suffix_in_name : (b : ℕ) → is_suffix b ≡ true → in_name b ≡ true
suffix_in_name b h = grind (arith, nat_tests)

-- a number begins with a digit, and has letters and digits alone
pub record Shape (bytes : List ℕ) : Type 0 where
  pub first : ℕ
  pub others : List ℕ
  pub is : bytes ≡ first ∷ others
  pub digit : is_decimal first ≡ true
  pub in_names : Each in_name others

numeral_shape : (bytes : List ℕ) (base value : ℕ) → Numeral bytes base value → Shape bytes
numeral_shape bytes base value (decimal first others is zero_not digits base_is value_is) =
    let P : List ℕ → Type 0 = λ z. Each is_decimal z in
    let h : Each is_decimal (first ∷ others) = subst P is digits in
    record { first = first; others = others; is = is; digit = h.0; in_names = each_mono is_decimal in_name (λ b i. hexadecimal_in_name b (decimal_hexadecimal b i)) others h.1 }
numeral_shape bytes base value (octal digits is each base_is value_is) =
    record { first = 48; others = digits; is = is; digit = refl; in_names = each_mono is_octal in_name (λ b i. hexadecimal_in_name b (octal_hexadecimal b i)) digits each }
numeral_shape bytes base value (hexadecimal x digits is x_is some each base_is value_is) =
    record { first = 48; others = x ∷ digits; is = is; digit = refl; in_names = (x_in_name x x_is, each_mono is_hexadecimal in_name hexadecimal_in_name digits each) }

pub number_shape : (bytes : List ℕ) (word : Word) → Number bytes word → Shape bytes
number_shape bytes word (unsuffixed base value unsigned numeral type word_is) = numeral_shape bytes base value numeral
number_shape bytes word (suffixed digits suffix base value unsigned is suffix_is numeral type word_is) =
    let s = numeral_shape digits base value numeral in
    record {
      first = s.first;
      others = s.others ++ suffix ∷ [];
      is = is ∙ ap (λ z. z ++ suffix ∷ []) s.is;
      digit = s.digit;
      in_names = each_append in_name s.others (suffix ∷ []) s.in_names (suffix_in_name suffix suffix_is, tt);
    }
