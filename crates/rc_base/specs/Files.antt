-- The files of a shelf in memory, as their names with their bytes.
use Rattle.std.specs.Prelude.{ℕ, suc, List, [], ◌∷◌, Option, Some, None, Vec, String, string_bytes, if◌then◌else◌}
use Rattle.std.specs.Option.{option_map}
use Rattle.std.specs.Str.{bytes_eq}
use Rattle.rc_base.specs.Memory.{Entry}

module _ {Y Z : Type 0} where
  abbrev pub entries : List (String Y × Vec ℕ Z) → List Entry
  entries [] = []
  entries (e ∷ es) = (record { name = string_bytes e.0; bytes = e.1.items }) ∷ entries es

-- where the name stands
abbrev pub place_of : List Entry → List ℕ → Option ℕ
place_of [] name = None
place_of (e ∷ es) name = if bytes_eq name e.name then Some 0 else option_map (λ i. suc i) (place_of es name)

-- the bytes in the place of what stands under the name, or behind all others
abbrev pub with_file : List Entry → List ℕ → List ℕ → List Entry
with_file [] name bytes = (record { name = name; bytes = bytes }) ∷ []
with_file (e ∷ es) name bytes = if bytes_eq name e.name then (record { name = e.name; bytes = bytes }) ∷ es else (e ∷ with_file es name bytes)
