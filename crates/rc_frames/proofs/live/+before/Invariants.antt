use Rattle.std.proofs.Common.{◌≡◌, ◌≤◌, length, drop}
use Rattle.rc_core.specs.Shapes.{stmts_of}
use Rattle.rc_core.specs.Live.{Ways, before_all}
use Rattle.rc_frames.specs.LiveAt.{Agrees}
use Rattle.rc_frames.proofs.live.+before.Given as goal

abbrev pub invariant-before_all-loop-left : goal.invariant-before_all-loop-left
invariant-before_all-loop-left l = record {
  within : l.left ≤ length l.body;
  so_far : (k2 : Ways) → Agrees l.k l.x k2 → l.next ≡ before_all (stmts_of (drop l.left l.body)) k2 l.x;
}

abbrev pub decreases-before_all-loop-left : goal.decreases-before_all-loop-left
decreases-before_all-loop-left l = l.left
