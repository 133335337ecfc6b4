use Rattle.std.proofs.Common.{◌≡◌, ◌<◌, ◌≤◌, ◌+◌, ℕ, IsTrue, take}
use Rattle.rc_store.specs.Stores.{live_in}
use Rattle.rc_space.specs.Spaces.{count_of}
use Rattle.rc_count.specs.Together.{all_held, cells_among}
use Rattle.rc_count.proofs.together.take_back_all.Given as goal

abbrev pub invariant-loop-region : goal.invariant-loop-region
invariant-loop-region g l = record {
  counts : (r : ℕ) → count_of l.space r + all_held l.fn.space.regions (take l.region-index l.set) r ≡ count_of l.fn.space r;
  targets : (r : ℕ) → 0 < all_held l.fn.space.regions (take l.region-index l.set) r → IsTrue (live_in l.fn.space.regions r);
  regions : l.space.regions ≡ l.fn.space.regions;
  cost : l.steps ≤ l.fn.steps + cells_among l.fn.space.regions (take l.region-index l.set);
  never_falls : l.fn.steps ≤ l.steps;
}
