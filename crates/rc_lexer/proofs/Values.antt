-- The value of digits, read one after another.
use Rattle.std.proofs.Common.{ℕ, zero, suc, ◌≡◌, ◌<◌, ◌≤◌, ◌+◌, ◌*◌, List, [], ◌∷◌, length, take, drop, get_or, Some, None, Bool, true, false, ◌&&◌, refl, ap, sym, ◌∙◌, arith, take-append-drop}
use Rattle.std.proofs.lemmas.Bool.Decides.{nat_tests}
use Rattle.std.proofs.lemmas.List.Sums.{fold-append, fold_more}
use Rattle.std.proofs.lemmas.List.Folds.{list_all_at, list_all_more}
use Rattle.std.specs.Prelude.{fold, nat_le}
use Rattle.std.specs.List.{list_all}
use Rattle.rc_syntax.specs.Numerals.{digit_value, value_in}
use Rattle.rc_syntax.specs.reader.Look.{is_digit_in, value_at}

pub value_more : (base : ℕ) (digits : List ℕ) (i : ℕ) → i < length digits → value_in base (take (i + 1) digits) ≡ value_in base (take i digits) * base + digit_value (get_or digits i 0)
value_more base digits i h = fold_more (λ value b. value * base + digit_value b) 0 digits i 0 h

pub digits_more : (base : ℕ) (digits : List ℕ) (i : ℕ) → i < length digits → list_all (is_digit_in base) (take i digits) ≡ true → is_digit_in base (get_or digits i 0) ≡ true → list_all (is_digit_in base) (take (i + 1) digits) ≡ true
digits_more base digits i h e f = list_all_more (is_digit_in base) digits i 0 h ∙ rw (e, f) refl

pub no_digit : (base : ℕ) (digits : List ℕ) (i : ℕ) → i < length digits → is_digit_in base (get_or digits i 0) ≡ false → value_at base digits ≡ None
no_digit base digits i h e = let f = list_all_at (is_digit_in base) digits i 0 h e in rw f refl

grows : (base v d : ℕ) → 0 < base → v ≤ v * base + d
grows (suc base) v d h = let e : v * suc base ≡ v * base + v = omega arith in omega arith
grows zero v d h = absurd (omega arith)

fold_grows : (base v : ℕ) (ds : List ℕ) → 0 < base → v ≤ fold (λ value b. value * base + digit_value b) v ds
fold_grows base v [] h = omega arith
fold_grows base v (d ∷ ds) h = omega (arith, grows base v (digit_value d) h, fold_grows base (v * base + digit_value d) ds h)

front_less : (base : ℕ) (ds : List ℕ) (n : ℕ) → 0 < base → value_in base (take n ds) ≤ value_in base ds
front_less base ds n h =
    let e : value_in base ds ≡ fold (λ value b. value * base + digit_value b) (value_in base (take n ds)) (drop n ds) =
    ap (value_in base) (sym (take-append-drop n ds)) ∙ fold-append (λ value b. value * base + digit_value b) 0 (take n ds) (drop n ds) in
    omega (arith, e, fold_grows base (value_in base (take n ds)) (drop n ds) h)

above : (v most : ℕ) → most < v → nat_le v most ≡ false
above v most h = grind (arith, nat_tests)

and_not : (x : Bool) → (x && false) ≡ false
and_not true = refl
and_not false = refl

value_over : (base : ℕ) (digits : List ℕ) → 4294967295 < value_in base digits → value_at base digits ≡ None
value_over base digits h = let e = above (value_in base digits) 4294967295 h in rw (e, and_not (list_all (is_digit_in base) digits)) refl

pub too_large : (base : ℕ) (digits : List ℕ) (i : ℕ) → 0 < base → 4294967295 < value_in base (take (i + 1) digits) → value_at base digits ≡ None
too_large base digits i b h = value_over base digits (omega (arith, front_less base digits (i + 1) b))

at_most : (v most : ℕ) → v ≤ most → nat_le v most ≡ true
at_most v most h = grind (arith, nat_tests)

pub value_whole : (base : ℕ) (digits : List ℕ) → list_all (is_digit_in base) digits ≡ true → value_in base digits ≤ 4294967295 → value_at base digits ≡ Some (value_in base digits)
value_whole base digits e h = let f = at_most (value_in base digits) 4294967295 h in rw (e, f) refl
