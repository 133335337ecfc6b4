-- The tasks that digits choose.
use Rattle.std.specs.Prelude.{ℕ, ◌-◌, List, map}

abbrev pub choices_of : (digits : List ℕ) → List ℕ
choices_of digits = map (λ b. b - 48) digits
