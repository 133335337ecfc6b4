-- The first instruction of a function that doesn't pin what it has to.
use Rattle.std.specs.Prelude.{◌<◌, ℕ, length, Option, MatchOption}
use Rattle.rc_code.specs.declared.image.Parts.{Parts}
use Rattle.rc_code.specs.Running.{reading_of, function_at}
use Rattle.rc_sealed.specs.Pinned.{Pinned}

pub record IsFirstUnpinned (parts : Parts) (g at : ℕ) : Type 0 where
  pub inside : at < length (function_at (reading_of parts) g).code
  pub before : (k : ℕ) → k < at → Pinned (reading_of parts) g k
  pub fails : Pinned (reading_of parts) g at → ⊥

-- where none is found, each instruction pins what it has to
abbrev pub TellsUnpinned : Parts → (g : ℕ) → Option ℕ → Type 0
TellsUnpinned parts g found = MatchOption found ((at : ℕ) → at < length (function_at (reading_of parts) g).code → Pinned (reading_of parts) g at) (IsFirstUnpinned parts g)
