-- A numbering of labels. A label is written as bits: its line and its base each as so many zeros and a one, and then its marks. Bits are
-- written as a number in the digits one and two, so that no two lists of bits have the same number.
use Rattle.std.specs.Prelude.{ℕ, zero, suc, Bool, true, false, List, [], ◌∷◌}
use Rattle.rc_labels.specs.Labels.{Label}

abbrev pub double : ℕ → ℕ
double zero = zero
double (suc k) = suc (suc (double k))

abbrev pub half : ℕ → ℕ
half zero = zero
half (suc zero) = zero
half (suc (suc k)) = suc (half k)

abbrev pub is_odd : ℕ → Bool
is_odd zero = false
is_odd (suc zero) = true
is_odd (suc (suc k)) = is_odd k

abbrev pub digit_before : Bool → (number : ℕ) → ℕ
digit_before false number = suc (double number)
digit_before true number = suc (suc (double number))

abbrev pub number_of_bits : List Bool → ℕ
number_of_bits [] = 0
number_of_bits (bit ∷ bits) = digit_before bit (number_of_bits bits)

-- so many bits at most
abbrev pub bits_in : (most number : ℕ) → List Bool
bits_in zero number = []
bits_in (suc most) zero = []
bits_in (suc most) (suc k) = is_odd k ∷ bits_in most (half k)

abbrev pub counted : (count : ℕ) → List Bool → List Bool
counted zero bits = true ∷ bits
counted (suc count) bits = false ∷ counted count bits

abbrev pub count_in : List Bool → ℕ
count_in [] = 0
count_in (true ∷ bits) = 0
count_in (false ∷ bits) = suc (count_in bits)

abbrev pub behind_count : List Bool → List Bool
behind_count [] = []
behind_count (true ∷ bits) = bits
behind_count (false ∷ bits) = behind_count bits

abbrev pub number_of : Label → ℕ
number_of l = number_of_bits (counted l.line (counted l.base l.marks))

abbrev pub label_of_bits : List Bool → Label
label_of_bits bits = record { line = count_in bits; base = count_in (behind_count bits); marks = behind_count (behind_count bits) }

abbrev pub label_in : (number : ℕ) → Label
label_in number = label_of_bits (bits_in number number)
