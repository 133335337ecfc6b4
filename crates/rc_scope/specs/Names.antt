-- Names in the order in which they were first seen. The number of a name is its place there.
use Rattle.std.specs.Prelude.{◌≢◌, ◌≤◌, ℕ, List, [], ◌∷◌, ◌++◌, Option, Vec, length, map, position, is_some, unwrap_or, AllPairs, if◌then◌else◌}
use Rattle.std.specs.Str.{bytes_eq}

-- where the name stands
abbrev pub place_of : List (List ℕ) → List ℕ → Option ℕ
place_of names name = position (bytes_eq name) names

-- the number that the name has, or the next one where it has none
abbrev pub number_of : List (List ℕ) → List ℕ → ℕ
number_of names name = unwrap_or (place_of names name) (length names)

-- the names once this one is among them: where it is new, it stands behind all others
abbrev pub with_name : List (List ℕ) → List ℕ → List (List ℕ)
with_name names name = if is_some (place_of names name) then names else names ++ name ∷ []

-- no name stands there twice, and each number fits 32 bits
pub record IsNumbered (names : List (List ℕ)) : Type 0 where
  pub distinct : AllPairs (λ a b. a ≢ b) names
  pub few : length names ≤ 4294967295

-- the names that keys spell
abbrev pub names_of : {Z : Type 0} → List (Vec ℕ Z) → List (List ℕ)
names_of keys = map (λ k. k.items) keys
