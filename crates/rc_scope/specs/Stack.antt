-- The entries of a stack, the innermost first, and what each name stands for.
use Rattle.std.specs.Prelude.{◌≡◌, ℕ, ◌<◌, List, [], ◌∷◌, Option, Some, None, map, length, nat_eq, slice_index_or, if◌then◌else◌}
use Rattle.rc_scope.specs.declared.entry.Entry.{Entry}

-- the name with a number
abbrev pub name_at : List (List ℕ) → ℕ → List ℕ
name_at names n = slice_index_or names n []

-- the entries as callers see them
abbrev pub shown : {T : Type 0} → List (List ℕ) → List (Entry T) → List (List ℕ × T)
shown names = map (λ e. (name_at names e.name, e.meaning))

-- what is kept for a name
abbrev pub slot_of : List (Option ℕ) → ℕ → Option ℕ
slot_of slots x = slice_index_or slots x None

-- the place of the innermost entry of a name
abbrev pub innermost : {T : Type 0} → List (Entry T) → ℕ → Option ℕ
innermost [] x = None
innermost (e ∷ rest) x = if nat_eq e.name x then Some (length rest) else innermost rest x

-- each entry has what its name stood for before it
abbrev pub AreLinked : {T : Type 0} → (names slots : ℕ) → List (Entry T) → Type 0
AreLinked names slots [] = Unit {0}
AreLinked names slots (e ∷ rest) = (e.name < names) × ((e.name < slots) × ((e.hidden ≡ innermost rest e.name) × AreLinked names slots rest))

pub record IsSound {T : Type 0} (names : List (List ℕ)) (slots : List (Option ℕ)) (entries : List (Entry T)) : Type 0 where
  pub linked : AreLinked (length names) (length slots) entries
  pub known : (x : ℕ) → slot_of slots x ≡ innermost entries x
