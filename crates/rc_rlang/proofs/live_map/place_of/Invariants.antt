use Rattle.std.proofs.Common.{◌-◌}
use Rattle.rc_rlang.proofs.Searching.{Between}
use Rattle.rc_rlang.proofs.live_map.place_of.Given as goal

abbrev pub invariant-loop-high : goal.invariant-loop-high
invariant-loop-high l = Between l.lists l.point l.low l.high

abbrev pub decreases-loop-high : goal.decreases-loop-high
decreases-loop-high l = l.high - l.low
