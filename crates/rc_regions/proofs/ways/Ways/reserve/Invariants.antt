use Rattle.std.proofs.Common.{◌≡◌, ◌<◌, ◌≤◌, ◌-◌, ◌^◌, ℕ, suc, [], length, slice_index_or}
use Rattle.rc_regions.specs.Columns.{links_in}
use Rattle.rc_regions.proofs.ways.Ways.reserve.Given as goal

abbrev pub invariant-loop-reach : goal.invariant-loop-reach
invariant-loop-reach l = record {
  doubled : l.reach ≡ 2 ^ l.power;
  places : (k : ℕ) → k < l.power → l.slots ≤ length (slice_index_or l.self k []);
  links : links_in l.self ≡ links_in l.fn.self;
}

abbrev pub decreases-loop-reach : goal.decreases-loop-reach
decreases-loop-reach l = suc l.depth - l.reach
