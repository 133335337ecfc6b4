-- Where names stand first in a list that may have a name twice.
use Rattle.std.specs.Prelude.{◌≡◌, ◌≤◌, ℕ, List, Option, Some, None, length, slice_get}
use Rattle.rc_deletes.specs.Kinds.{place_of}

abbrev pub kept_at : List ℕ → Option ℕ → Option ℕ
kept_at places None = None
kept_at places (Some number) = slice_get places number

-- each name has the place where it stands first
pub record FindsFirst (names : List (List ℕ)) (places : List ℕ) (all : List (List ℕ)) : Type 0 where
  pub even : length names ≡ length places
  pub few : length names ≤ length all
  pub found : (name : List ℕ) → kept_at places (place_of names name) ≡ place_of all name
