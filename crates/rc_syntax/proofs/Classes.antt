-- What a byte's class says of it, and the class that a byte of a kind has.
use Rattle.std.proofs.Common.{ℕ, ◌≡◌, Bool, true, false, cond, refl, arith}
use Rattle.std.proofs.lemmas.Bool.Decides.{nat_tests}
use Rattle.std.specs.Prelude.{◌==◌}
use Rattle.rc_syntax.specs.Bytes.{is_blank, is_letter, is_decimal}
use Rattle.rc_syntax.specs.reader.Look.{Class, blank, letter, digit, quote, double_quote, slash, hash, other, class_of}
use Rattle.rc_syntax.proofs.ByteLaws.{byte_test}

abbrev pub View : ℕ → Class → Type 0
View b blank = is_blank b ≡ true
View b letter = is_letter b ≡ true
View b digit = is_decimal b ≡ true
View b quote = b ≡ 39
View b double_quote = b ≡ 34
View b slash = b ≡ 47
View b hash = b ≡ 35
View b other = (b == 47) ≡ false

pub view : (b : ℕ) → View b (class_of b)
view b = blanks (is_blank b) refl
  where
    hashes : (b == 47) ≡ false → (v : Bool) → (b == 35) ≡ v → View b (cond v hash other)
    hashes h true e = byte_test b 35 e
    hashes h false e = h

    slashes : (v : Bool) → (b == 47) ≡ v → View b (cond v slash (cond (b == 35) hash other))
    slashes true e = byte_test b 47 e
    slashes false e = hashes e (b == 35) refl

    doubles : (v : Bool) → (b == 34) ≡ v → View b (cond v double_quote (cond (b == 47) slash (cond (b == 35) hash other)))
    doubles true e = byte_test b 34 e
    doubles false e = slashes (b == 47) refl

    quotes : (v : Bool) → (b == 39) ≡ v → View b (cond v quote (cond (b == 34) double_quote (cond (b == 47) slash (cond (b == 35) hash other))))
    quotes true e = byte_test b 39 e
    quotes false e = doubles (b == 34) refl

    digits : (v : Bool) → is_decimal b ≡ v → View b (cond v digit (cond (b == 39) quote (cond (b == 34) double_quote (cond (b == 47) slash (cond (b == 35) hash other)))))
    digits true e = e
    digits false e = quotes (b == 39) refl

    letters : (v : Bool) → is_letter b ≡ v → View b (cond v letter (cond (is_decimal b) digit (cond (b == 39) quote (cond (b == 34) double_quote (cond (b == 47) slash (cond (b == 35) hash other))))))
    letters true e = e
    letters false e = digits (is_decimal b) refl

    blanks : (v : Bool) → is_blank b ≡ v → View b (cond v blank (cond (is_letter b) letter (cond (is_decimal b) digit (cond (b == 39) quote (cond (b == 34) double_quote (cond (b == 47) slash (cond (b == 35) hash other)))))))
    blanks true e = e
    blanks false e = letters (is_letter b) refl

letter_no_blank : (b : ℕ) → is_letter b ≡ true → is_blank b ≡ false
letter_no_blank b h = grind (arith, nat_tests)

decimal_no_blank : (b : ℕ) → is_decimal b ≡ true → is_blank b ≡ false
decimal_no_blank b h = grind (arith, nat_tests)

decimal_no_letter : (b : ℕ) → is_decimal b ≡ true → is_letter b ≡ false
decimal_no_letter b h = grind (arith, nat_tests)

pub class_blank : (b : ℕ) → is_blank b ≡ true → class_of b ≡ blank
class_blank b h = rw h refl

pub class_letter : (b : ℕ) → is_letter b ≡ true → class_of b ≡ letter
class_letter b h = let e = letter_no_blank b h in rw (e, h) refl

pub class_digit : (b : ℕ) → is_decimal b ≡ true → class_of b ≡ digit
class_digit b h = let e = decimal_no_blank b h in let f = decimal_no_letter b h in rw (e, f, h) refl
