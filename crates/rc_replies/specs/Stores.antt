-- Stores that differ in nothing that a script can tell: neither in how many more pins have room nor in their order.
use Rattle.std.specs.Prelude.{◌≡◌, Bool, count_by}
use Rattle.rc_core.specs.Heap.{Value}
use Rattle.rc_store.specs.Kept.{KeptStore}

pub record IsSame (s t : KeptStore) : Type 0 where
  pub regions : t.regions ≡ s.regions
  pub pins : (test : Value → Bool) → count_by test t.pins ≡ count_by test s.pins
  pub region_limit : t.region_limit ≡ s.region_limit
  pub block_limit : t.block_limit ≡ s.block_limit
