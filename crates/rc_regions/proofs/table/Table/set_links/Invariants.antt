use Rattle.std.proofs.Common.{◌≡◌, ◌<◌, ◌≤◌, ◌-◌, ◌^◌, ℕ, suc, length, slice_index}
use Rattle.rc_regions.specs.Ascents.{ancestor}
use Rattle.rc_regions.specs.Columns.{columns_of, relinked}
use Rattle.rc_regions.specs.Ways.{NoneShorter}
use Rattle.rc_regions.proofs.table.Table.set_links.Given as goal

abbrev pub invariant-loop-reach : goal.invariant-loop-reach
invariant-loop-reach l = record {
  same : columns_of l.self ≡ relinked (columns_of l.fn.self) l.slot ((columns_of l.self).links l.slot);
  long : length ((columns_of l.self).links l.slot) ≡ 32;
  places : NoneShorter l.fn.self.ways l.self.ways;
  doubled : l.reach ≡ 2 ^ l.power;
  above : l.reach ≤ l.depth → l.above ≡ ancestor (columns_of l.fn.self).slots (2 ^ l.power - 1) l.parent;
  climbed : (j : ℕ) → j < l.power → slice_index ((columns_of l.self).links l.slot) j ≡ ancestor (columns_of l.fn.self).slots (2 ^ j - 1) l.parent;
}

abbrev pub decreases-loop-reach : goal.decreases-loop-reach
decreases-loop-reach l = suc l.depth - l.reach
