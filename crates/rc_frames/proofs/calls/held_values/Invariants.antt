use Rattle.std.proofs.Common.{◌≡◌, map, take}
use Rattle.rc_core.specs.Execution.{held}
use Rattle.rc_frames.specs.Codes.{frames_of}
use Rattle.rc_frames.specs.Frames.{ways}
use Rattle.rc_values.specs.Values.{value_of}
use Rattle.rc_frames.proofs.calls.held_values.Given as goal

abbrev pub invariant-loop-local : goal.invariant-loop-local
invariant-loop-local l = l.held ≡ held (ways (frames_of l.frames)).next (map value_of (take l.local l.value-items))
