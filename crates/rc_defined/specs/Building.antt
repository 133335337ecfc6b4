-- Where a struct is defined first.
use Rattle.std.specs.Prelude.{ℕ, Option, Some, None, Bool, false, nat_eq}

-- the name with this number is the next one after so many
abbrev pub is_first_at : Option ℕ → ℕ → Bool
is_first_at None count = false
is_first_at (Some number) count = nat_eq number count
