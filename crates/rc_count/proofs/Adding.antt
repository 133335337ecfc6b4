-- One region more of a set: what its cells hold is added.
use Rattle.std.proofs.Common.{◌≡◌, ◌<◌, ◌≤◌, ◌+◌, ◌⊎◌, inl, inr, ℕ, zero, suc, List, length, take, get_or, ap, arith}
use Rattle.std.proofs.lemmas.List.Sums.{sum_by_more, sum_by_more_le}
use Rattle.rc_store.specs.Kept.{Regions}
use Rattle.rc_store.specs.Stores.{cells_in, objects_in, region_at}
use Rattle.rc_tally.specs.Tally.{held_refs}
use Rattle.rc_count.specs.Together.{all_held, cells_among}

module _ (regions : Regions) (set : List ℕ) (at : ℕ) (inside : at < length set) where
  abbrev region : ℕ
  region = get_or set at 0

  pub held_more : (r : ℕ) → all_held regions (take (at + 1) set) r ≡ all_held regions (take at set) r + held_refs r (get_or set at 0) (objects_in regions (get_or set at 0))
  held_more r = sum_by_more (λ d. held_refs r d (objects_in regions d)) set at 0 inside

  pub held_within : (r : ℕ) → all_held regions (take at set) r + held_refs r (get_or set at 0) (objects_in regions (get_or set at 0)) ≤ all_held regions set r
  held_within r = sum_by_more_le (λ d. held_refs r d (objects_in regions d)) set at 0 inside

  pub cells_more : cells_among regions (take (at + 1) set) ≡ cells_among regions (take at set) + cells_in (region_at regions (get_or set at 0))
  cells_more = sum_by_more (λ d. cells_in (region_at regions d)) set at 0 inside

  pub cells_within : cells_among regions (take at set) + cells_in (region_at regions (get_or set at 0)) ≤ cells_among regions set
  cells_within = sum_by_more_le (λ d. cells_in (region_at regions d)) set at 0 inside

  -- the same, as regions that are equal have it
  module _ (now : Regions) (same : now ≡ regions) where
    pub held_now : (r : ℕ) → held_refs r (get_or set at 0) (objects_in now (get_or set at 0)) ≡ held_refs r (get_or set at 0) (objects_in regions (get_or set at 0))
    held_now r = ap (λ rs. held_refs r (get_or set at 0) (objects_in rs (get_or set at 0))) same

    pub cells_now : cells_in (region_at now (get_or set at 0)) ≡ cells_in (region_at regions (get_or set at 0))
    cells_now = ap (λ rs. cells_in (region_at rs (get_or set at 0))) same

-- where a sum of two is over 0, one is
pub either_over : (m n : ℕ) → 0 < m + n → (0 < m) ⊎ (0 < n)
either_over zero n some = inr (omega (arith, some))
either_over (suc m) n some = inl (omega arith)
