-- Bytes by what they can be part of (ISO C 5.2.1 and 6.4), and places of a text by the bytes before and behind them.
use Rattle.std.specs.Prelude.{ℕ, suc, List, [], ◌∷◌, Bool, true, false, not, ◌||◌, ◌&&◌, ◌==◌, ◌≡◌, ◌++◌, ◌⊎◌, nat_le, count_by}

-- a space, a tab, a line feed, a vertical tab, a form feed or a carriage return
abbrev pub is_blank : ℕ → Bool
is_blank b = (b == 32) || (nat_le 9 b && nat_le b 13)

abbrev pub is_margin : ℕ → Bool
is_margin b = (b == 32) || (b == 9)

abbrev pub is_letter : ℕ → Bool
is_letter b = (nat_le 97 b && nat_le b 122) || ((nat_le 65 b && nat_le b 90) || (b == 95))

abbrev pub is_decimal : ℕ → Bool
is_decimal b = nat_le 48 b && nat_le b 57

abbrev pub is_octal : ℕ → Bool
is_octal b = nat_le 48 b && nat_le b 55

abbrev pub is_hexadecimal : ℕ → Bool
is_hexadecimal b = is_decimal b || ((nat_le 97 b && nat_le b 102) || (nat_le 65 b && nat_le b 70))

-- of a name, or of a number
abbrev pub in_name : ℕ → Bool
in_name b = is_letter b || is_decimal b

abbrev pub in_line : ℕ → Bool
in_line b = not (b == 10)

abbrev pub Each : (ℕ → Bool) → List ℕ → Type 0
Each p [] = Unit {0}
Each p (b ∷ bytes) = (p b ≡ true) × Each p bytes

-- whether a byte that passes comes first
abbrev pub begins : (ℕ → Bool) → List ℕ → Bool
begins p [] = false
begins p (b ∷ bytes) = p b

-- the line of what stands behind these bytes of a text
abbrev pub line_behind : List ℕ → ℕ
line_behind before = suc (count_by (λ b. b == 10) before)

-- only spaces and tabs stand before, on the line
abbrev pub IsMargin : List ℕ → Type 0
IsMargin before = (margin : List ℕ) × Each is_margin margin × ((before ≡ margin) ⊎ ((earlier : List ℕ) × (before ≡ earlier ++ 10 ∷ margin)))
