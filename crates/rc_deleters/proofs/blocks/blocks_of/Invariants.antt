use Rattle.std.proofs.Common.{◌≡◌, ◌<◌, ◌++◌, ℕ, drop, length, get_or}
use Rattle.rc_deleters.specs.Calls.{as_numbered, image_stops, first_of}
use Rattle.rc_deleters.proofs.blocks.blocks_of.Given as goal

abbrev pub invariant-loop-number : goal.invariant-loop-number
invariant-loop-number l = record {
  stops : l.stops.items ++ image_stops as_numbered (drop l.number l.functions) ≡ image_stops as_numbered l.functions;
  long : length l.stops.items ≡ first_of l.functions l.number;
  count : length l.firsts.items ≡ l.number;
  firsts : (h : ℕ) → h < l.number → get_or l.firsts.items h 0 ≡ first_of l.functions h;
}
