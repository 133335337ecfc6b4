-- How points are counted in code.
use Rattle.std.specs.Prelude.{◌≡◌, ◌≤◌, ◌^◌, ℕ, List, Option, MatchOption}
use Rattle.rc_core.specs.Programs.{Struct}
use Rattle.rc_core.specs.Laid.{AreLaidOut, LaidStructs}

-- it is the number, and none just where the number is no `u32`
abbrev pub Counted : Option ℕ → ℕ → Type 0
Counted result n = MatchOption result (2 ^ 32 ≤ n) (λ r. r ≡ n)

-- they are the layouts of structs, whichever structs these are
pub record AreLayouts (layouts : LaidStructs) : Type 0 where
  pub structs : List Struct
  pub laid : AreLaidOut structs layouts
