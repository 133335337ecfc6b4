use Rattle.std.proofs.Common.{◌≡◌, ◌≤◌, ◌++◌, length, take}
use Rattle.rc_frames.specs.Waiting.{waiting_over}
use Rattle.rc_frames.proofs.calls.append_waiting.Given as goal

abbrev pub invariant-loop-left : goal.invariant-loop-left
invariant-loop-left l = record {
  within : l.left ≤ length l.callers;
  so_far : l.all ++ waiting_over (take l.left l.callers) ≡ l.fn.all ++ waiting_over l.callers;
}

abbrev pub decreases-loop-left : goal.decreases-loop-left
decreases-loop-left l = l.left
