use Rattle.std.proofs.Common.{take}
use Rattle.rc_core.specs.Live.{at_end}
use Rattle.rc_frames.specs.LiveAt.{Agrees}
use Rattle.rc_frames.specs.LiveBehind.{frames_ways}
use Rattle.rc_frames.proofs.live.is_live.Given as goal

abbrev pub invariant-loop-frame : goal.invariant-loop-frame
invariant-loop-frame l = Agrees l.k l.x (frames_ways (take l.frame-index l.frames) at_end)
