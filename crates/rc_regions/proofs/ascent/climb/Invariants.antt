use Rattle.std.proofs.Common.{◌≡◌, ◌≤◌, ◌+◌, ◌*◌, ◌^◌, count_ones}
use Rattle.rc_regions.specs.Ascents.{ancestor}
use Rattle.rc_regions.specs.Columns.{columns_of}
use Rattle.rc_regions.specs.Slots.{IsLive}
use Rattle.rc_regions.proofs.ascent.climb.Given as goal

abbrev pub invariant-loop-rest : goal.invariant-loop-rest
invariant-loop-rest g l = record {
  live : IsLive (columns_of l.table).slots l.slot;
  way : ancestor (columns_of l.table).slots (l.rest * 2 ^ l.power) l.slot ≡ ancestor (columns_of l.table).slots l.distance l.from;
  low : l.rest * 2 ^ l.power ≤ l.distance;
  deep : l.rest * 2 ^ l.power ≤ (columns_of l.table).depth l.slot;
  cost : l.steps + count_ones l.rest ≡ l.fn.steps + count_ones l.distance;
}

abbrev pub decreases-loop-rest : goal.decreases-loop-rest
decreases-loop-rest g l = l.rest
