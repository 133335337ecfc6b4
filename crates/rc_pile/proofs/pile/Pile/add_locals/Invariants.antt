use Rattle.std.proofs.Common.{◌≡◌, map, take}
use Rattle.rc_pile.specs.Words.{value_of}
use Rattle.rc_pile.specs.Stacks.{with_locals}
use Rattle.rc_pile.proofs.pile.Pile.add_locals.Given as goal

abbrev pub invariant-loop-local : goal.invariant-loop-local
invariant-loop-local l = l.self ≡ with_locals (map value_of (take l.local-index l.locals)) l.fn.self
