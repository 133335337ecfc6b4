-- A label is read from its number.
use Rattle.std.proofs.Common.{◌≡◌, ◌≤◌, ℕ, zero, suc, Bool, true, false, List, [], ◌∷◌, length, refl, ap, ◌∙◌, arith}
use Rattle.rc_labels.specs.Labels.{Label, Numbering}
use Rattle.rc_labels.specs.Numberings.{double, half, is_odd, number_of_bits, bits_in, counted, count_in, behind_count, number_of, label_of_bits, label_in}

half_even : (k : ℕ) → half (double k) ≡ k
half_even zero = refl
half_even (suc k) = ap suc (half_even k)

half_odd : (k : ℕ) → half (suc (double k)) ≡ k
half_odd zero = refl
half_odd (suc k) = ap suc (half_odd k)

even_there : (k : ℕ) → is_odd (double k) ≡ false
even_there zero = refl
even_there (suc k) = even_there k

odd_there : (k : ℕ) → is_odd (suc (double k)) ≡ true
odd_there zero = refl
odd_there (suc k) = odd_there k

more_doubled : (k : ℕ) → k ≤ double k
more_doubled zero = omega arith
more_doubled (suc k) = let h = more_doubled k in omega (arith, h)

few_bits : (bits : List Bool) → length bits ≤ number_of_bits bits
few_bits [] = omega arith
few_bits (false ∷ bits) = let h = few_bits bits in let d = more_doubled (number_of_bits bits) in omega (arith, h, d)
few_bits (true ∷ bits) = let h = few_bits bits in let d = more_doubled (number_of_bits bits) in omega (arith, h, d)

bits_read : (bits : List Bool) (most : ℕ) → length bits ≤ most → bits_in most (number_of_bits bits) ≡ bits
bits_read [] zero le = refl
bits_read [] (suc most) le = refl
bits_read (bit ∷ bits) zero le = absurd (omega (arith, le))
bits_read (false ∷ bits) (suc most) le =
    ap (λ b. b ∷ bits_in most (half (double (number_of_bits bits)))) (even_there (number_of_bits bits)) ∙ ap (λ k. false ∷ bits_in most k) (half_even (number_of_bits bits)) ∙ ap (λ rest. false ∷ rest) (bits_read bits most (omega (arith, le)))
bits_read (true ∷ bits) (suc most) le =
    ap (λ b. b ∷ bits_in most (half (suc (double (number_of_bits bits))))) (odd_there (number_of_bits bits)) ∙ ap (λ k. true ∷ bits_in most k) (half_odd (number_of_bits bits)) ∙ ap (λ rest. true ∷ rest) (bits_read bits most (omega (arith, le)))

count_read : (count : ℕ) (bits : List Bool) → count_in (counted count bits) ≡ count
count_read zero bits = refl
count_read (suc count) bits = ap suc (count_read count bits)

behind_read : (count : ℕ) (bits : List Bool) → behind_count (counted count bits) ≡ bits
behind_read zero bits = refl
behind_read (suc count) bits = behind_read count bits

label_read : (l : Label) → label_of_bits (counted l.line (counted l.base l.marks)) ≡ l
label_read l =
    ap (λ line. record { line = line; base = count_in (behind_count (counted l.line (counted l.base l.marks))); marks = behind_count (behind_count (counted l.line (counted l.base l.marks))) }) (count_read l.line (counted l.base l.marks))
    ∙ ap (λ bits. record { line = l.line; base = count_in bits; marks = behind_count bits }) (behind_read l.line (counted l.base l.marks))
    ∙ ap (λ base. record { line = l.line; base = base; marks = behind_count (counted l.base l.marks) }) (count_read l.base l.marks)
    ∙ ap (λ marks. record { line = l.line; base = l.base; marks = marks }) (behind_read l.base l.marks)

pub read_there : (l : Label) → label_in (number_of l) ≡ l
read_there l = let bits = counted l.line (counted l.base l.marks) in ap label_of_bits (bits_read bits (number_of_bits bits) (few_bits bits)) ∙ label_read l

pub numbering : Numbering
numbering = record { number = number_of; label = label_in; read = read_there }
