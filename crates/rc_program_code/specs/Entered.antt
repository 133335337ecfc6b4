-- Operands that are entered into a table, the first of which is the last in the end.
use Rattle.std.specs.Prelude.{◌≡◌, ℕ, Bool, false, ◌||◌, List, [], ◌∷◌, length, map, reverse, nat_lt}
use Rattle.std.specs.List.{AllByRecursion as Every}
use Rattle.rc_emission.specs.KeptOperands.{Kept, same_kept, place_in, entered}
use Rattle.rc_lines.specs.Keys.{HasKey}
use Rattle.rc_lines.specs.Keyed.{key_of}

-- one is among them
abbrev pub has : List Kept → Kept → Bool
has [] k = false
has (x ∷ xs) k = same_kept x k || has xs k

-- each stands there once
abbrev pub AreDistinct : List Kept → Type 0
AreDistinct [] = Unit {0}
AreDistinct (x ∷ xs) = (has xs x ≡ false) × AreDistinct xs

-- an operand has a key, and is then among those whose keys these are
pub record Entering (k : Kept) (before after : List (List ℕ)) (table table1 : List Kept) : Type 0 where
  pub own : HasKey k
  pub keys : Every HasKey table → before ≡ map key_of table → after ≡ map key_of table1
  pub all_own : Every HasKey table → Every HasKey table1
  pub once : Every HasKey table → before ≡ map key_of table → reverse table1 ≡ entered (nat_lt (place_in same_kept (reverse table) k) (length (reverse table))) k (reverse table)
