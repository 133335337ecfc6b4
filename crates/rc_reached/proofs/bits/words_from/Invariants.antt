use Rattle.std.proofs.Common.{◌+◌}
use Rattle.rc_reached.specs.Masks.{marks}
use Rattle.rc_reached.proofs.Rows.{Row}
use Rattle.rc_reached.proofs.bits.words_from.Given as goal

abbrev pub invariant-loop-at : goal.invariant-loop-at
invariant-loop-at l = Row (λ k. marks l.words (l.place + k)) l.at l.from.items
