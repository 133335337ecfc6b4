use Rattle.std.proofs.Common.{◌≡◌, ◌≤◌, ℕ, length, ◌-◌, ◌+◌}
use Rattle.rc_scope.specs.Stack.{slot_of}
use Rattle.rc_scope.proofs.scopes.make_room.Given as goal

abbrev pub invariant-loop-slots : goal.invariant-loop-slots
invariant-loop-slots l = record {
  same : (x : ℕ) → slot_of l.slots.items x ≡ slot_of l.initial.slots.items x;
  grown : length l.initial.slots.items ≤ length l.slots.items;
}

abbrev pub decreases-loop-slots : goal.decreases-loop-slots
decreases-loop-slots l = l.number + 1 - length l.slots.items
