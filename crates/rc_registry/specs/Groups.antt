-- Several regions at once: a child of one of them that isn't among them, and what is left without them.
use Rattle.std.specs.Prelude.{◌≡◌, ℕ, Bool, true, false, List, slice_index_or}
use Rattle.rc_store.specs.Sets.{is_in}
use Rattle.rc_registry.specs.Registries.{IsMember, Members, is_marked, parent_among}

-- no slot has a mark
abbrev pub AreClear : List Bool → Type 0
AreClear marks = (s : ℕ) → slice_index_or marks s false ≡ false

-- a live region that isn't in the set has a parent in it
abbrev pub HasChildOutside : Members → (set : List ℕ) → Type 0
HasChildOutside members set = (n : ℕ) × IsMember members n × (is_in set n ≡ false) × (is_in set (parent_among members n) ≡ true)

-- a live region without a mark has a parent in it
abbrev pub HasUnmarkedAmong : Members → (set : List ℕ) → List Bool → Type 0
HasUnmarkedAmong members set marks = (n : ℕ) × IsMember members n × (is_marked members marks n ≡ false) × (is_in set (parent_among members n) ≡ true)
