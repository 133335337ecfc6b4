use Rattle.std.proofs.Common.{◌≡◌, ◌+◌, ℕ, true, take}
use Rattle.rc_store.specs.Sets.{is_in}
use Rattle.rc_registry.specs.Registries.{IsMember, has_child}
use Rattle.rc_registry.proofs.Thinned.{IsSettled, IsThinned}
use Rattle.rc_registry.proofs.groups.remove_all.Given as goal

abbrev pub invariant-loop-member : goal.invariant-loop-member
invariant-loop-member l = record {
  thinned : IsThinned l.fn.registry l.set l.registry l.marks;
  settled : (n : ℕ) → is_in (take l.member-index l.set) n ≡ true → IsMember l.registry.members n → has_child l.registry.members n ≡ true;
}

abbrev pub invariant-up : goal.invariant-up
invariant-up l = record {
  thinned : IsThinned l.fn.registry l.set l.registry l.marks;
  settled : IsSettled (take (l.member-index + 1) l.set) l.region l.registry;
}

abbrev pub decreases-up : goal.decreases-up
decreases-up l = l.region
