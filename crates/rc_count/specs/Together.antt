-- What the cells of several regions hold, as counts and regions have it.
use Rattle.std.specs.Prelude.{ℕ, List, sum_by}
use Rattle.rc_store.specs.Kept.{Regions}
use Rattle.rc_store.specs.Stores.{cells_in, objects_in, region_at}
use Rattle.rc_tally.specs.Tally.{held_refs}

-- the references to r that the cells of a set's regions count
abbrev pub all_held : Regions → (set : List ℕ) → (r : ℕ) → ℕ
all_held regions set r = sum_by (λ d. held_refs r d (objects_in regions d)) set

-- how many cells they have
abbrev pub cells_among : Regions → (set : List ℕ) → ℕ
cells_among regions set = sum_by (λ d. cells_in (region_at regions d)) set
