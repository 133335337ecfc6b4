use Rattle.std.proofs.Common.{false}
use Rattle.rc_reached.proofs.Rows.{Row}
use Rattle.rc_reached.proofs.bits.no_marks.Given as goal

abbrev pub invariant-loop : goal.invariant-loop
invariant-loop l = Row (λ k. false) l.counter l.words.items
