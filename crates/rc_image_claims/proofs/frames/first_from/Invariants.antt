use Rattle.std.proofs.Common.{◌-◌}
use Rattle.rc_image_claims.proofs.Searching.{Between}
use Rattle.rc_image_claims.proofs.frames.first_from.Given as goal

abbrev pub invariant-loop-low : goal.invariant-loop-low
invariant-loop-low l = Between l.frames l.at l.low l.high

abbrev pub decreases-loop-low : goal.decreases-loop-low
decreases-loop-low l = l.high - l.low
