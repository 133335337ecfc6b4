-- A heap keeps a store.
use Rattle.std.specs.Prelude.{◌≡◌, Bool, map, option_map, count_by}
use Rattle.rc_core.specs.Heap.{Value}
use Rattle.rc_core.specs.Store.{Store}
use Rattle.rc_store.specs.Kept.{KeptStore, kept_view}

-- its regions and limits are the store's, and so are its pins, in any order: each test holds of as many
pub record IsKept (kept : KeptStore) (store : Store) : Type 0 where
  pub regions : kept.regions ≡ map (option_map kept_view) store.regions
  pub pins : (test : Value → Bool) → count_by test kept.pins ≡ count_by test store.pins
  pub region_limit : kept.region_limit ≡ store.region_limit
  pub block_limit : kept.block_limit ≡ store.block_limit
