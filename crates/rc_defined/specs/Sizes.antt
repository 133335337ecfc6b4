-- The numbers of cells of structs, of which no more than the limit of a program's globals are told apart.
use Rattle.std.specs.Prelude.{◌≡◌, ◌≤◌, ◌+◌, ℕ, List, min, length, map, nat_lt}
use Rattle.rc_base.specs.Limits.{most_global_cells}
use Rattle.rc_core.specs.Programs.{Struct}
use Rattle.rc_core.specs.Layout.{Layout, layouts_of}

abbrev pub capped : ℕ → ℕ
capped n = min n (most_global_cells + 1)

abbrev pub HasSizes : List Struct → List ℕ → Type 0
HasSizes structs sizes = sizes ≡ map (λ (l : Layout). capped (length l)) (layouts_of structs)

-- a number tells another up to a limit: both are over it, or they are the same
abbrev pub SameUpTo : (limit : ℕ) → ℕ → ℕ → Type 0
SameUpTo limit a b = (nat_lt limit a ≡ nat_lt limit b) × (a ≤ limit → a ≡ b)
