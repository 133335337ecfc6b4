-- Hexadecimal escapes: one or two digits write a byte.
use Rattle.std.proofs.Common.{ℕ, suc, ◌≡◌, ◌≤◌, ◌+◌, List, [], ◌∷◌, length, take, Some, None, true, ◌||◌, refl, ap, sym, ◌∙◌, arith}
use Rattle.std.specs.Prelude.{◌==◌}
use Rattle.std.proofs.lemmas.Bool.Decides.{nat_tests}
use Rattle.std.specs.List.{prefix_len}
use Rattle.rc_syntax.specs.Bytes.{is_hexadecimal, Each}
use Rattle.rc_syntax.specs.Numerals.{digit_value, value_in}
use Rattle.rc_syntax.specs.reader.Look.{value_at, hexadecimal_at}
use Rattle.rc_syntax.proofs.ByteLaws.{all_of_each, front_length}
use Rattle.rc_syntax.proofs.LiteralLaws.{run}
use Rattle.rc_lexer.proofs.Values.{value_whole}

digit_fits : (b : ℕ) → is_hexadecimal b ≡ true → digit_value b ≤ 15
digit_fits b h = grind (arith, nat_tests)

two_digits : (ds : List ℕ) → Each is_hexadecimal ds → length ds ≤ 2 → value_in 16 ds ≤ 255
two_digits [] h l = omega arith
two_digits (a ∷ []) h l = omega (arith, digit_fits a h.0)
two_digits (a ∷ b ∷ []) h l = omega (arith, digit_fits a h.0, digit_fits b h.1.0)
two_digits (a ∷ b ∷ c ∷ ds) h l = absurd (omega arith)

pub hexadecimal_value : (bytes : List ℕ) → prefix_len is_hexadecimal (take 3 bytes) ≤ 2 →
    (value_at 16 (take (prefix_len is_hexadecimal (take 3 bytes)) bytes) ≡ Some (value_in 16 (take (prefix_len is_hexadecimal (take 3 bytes)) bytes))) ×
    (value_in 16 (take (prefix_len is_hexadecimal (take 3 bytes)) bytes) ≤ 255)
hexadecimal_value bytes h =
    let n = prefix_len is_hexadecimal (take 3 bytes) in
    let r = run is_hexadecimal 3 bytes in
    let l = two_digits (take n bytes) r.each (omega (arith, front_length n bytes r.fits)) in
    (value_whole 16 (take n bytes) (all_of_each is_hexadecimal (take n bytes) r.each) (omega (arith, l)), l)

one_or_two : (n : ℕ) → n ≤ 3 → (n ≡ 0 → ⊥) → (n ≡ 3 → ⊥) → (n == 1 || n == 2) ≡ true
one_or_two n h i j = let k : 1 ≤ n = omega (arith, i) in let l : n ≤ 2 = omega (arith, j) in grind (arith, nat_tests)

two_most : (n : ℕ) → n ≤ 3 → (n ≡ 3 → ⊥) → n ≤ 2
two_most n h j = omega (arith, j)

run_most : (bytes : List ℕ) → prefix_len is_hexadecimal (take 3 bytes) ≤ 3
run_most bytes = let r = run is_hexadecimal 3 bytes in r.most

pub hexadecimal_is : (bytes : List ℕ) (n value : ℕ) → n ≡ prefix_len is_hexadecimal (take 3 bytes) → (n ≡ 0 → ⊥) → (n ≡ 3 → ⊥) → value_at 16 (take n bytes) ≡ Some value →
    (value ≤ 255) × (hexadecimal_at (prefix_len is_hexadecimal (take 3 bytes)) bytes ≡ Some (n + 2, value))
hexadecimal_is bytes n value e i j f =
    let m = prefix_len is_hexadecimal (take 3 bytes) in
    let most = run_most bytes in
    let h = hexadecimal_value bytes (two_most m most (λ z. j (e ∙ z))) in
    let g : Some value ≡ Some (value_in 16 (take m bytes)) = sym f ∙ ap (λ z. value_at 16 (take z bytes)) e ∙ h.0 in
    let v : value ≡ value_in 16 (take m bytes) = cc in
    let o = one_or_two m most (λ z. i (e ∙ z)) (λ z. j (e ∙ z)) in
    let t : hexadecimal_at m bytes ≡ Some (suc (suc m), value_in 16 (take m bytes)) = rw o refl in
    let c : suc (suc m) ≡ n + 2 = omega arith in
    (omega (arith, h.1, v), t ∙ ap (λ z. Some (z, value_in 16 (take m bytes))) c ∙ ap (λ z. Some (n + 2, z)) (sym v))

pub hexadecimal_none : (bytes : List ℕ) (n : ℕ) → n ≡ prefix_len is_hexadecimal (take 3 bytes) → (n ≡ 3 → ⊥) → value_at 16 (take n bytes) ≡ None → ⊥
hexadecimal_none bytes n e j f =
    let m = prefix_len is_hexadecimal (take 3 bytes) in
    let h = hexadecimal_value bytes (two_most m (run_most bytes) (λ z. j (e ∙ z))) in
    let g : None ≡ Some (value_in 16 (take m bytes)) = sym f ∙ ap (λ z. value_at 16 (take z bytes)) e ∙ h.0 in
    cc
