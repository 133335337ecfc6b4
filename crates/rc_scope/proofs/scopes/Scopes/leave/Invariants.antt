use Rattle.std.proofs.Common.{◌≡◌, ◌≤◌, length, ◌-◌, drop}
use Rattle.rc_scope.proofs.scopes.Scopes.leave.Given as goal

abbrev pub invariant-loop-self : goal.invariant-loop-self
invariant-loop-self g l = record {
  fewer : length l.self ≤ length l.initial.self;
  left : l.self ≡ drop (length l.initial.self - length l.self) l.initial.self;
  deep : length l.initial.self - length l.self ≤ length l.initial.self - l.depth;
}

abbrev pub decreases-loop-self : goal.decreases-loop-self
decreases-loop-self g l = length l.self
