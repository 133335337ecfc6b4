use Rattle.rc_reached.specs.Numbered.{AreNumbered}
use Rattle.rc_reached.proofs.numbered.numbers_if.Given as goal

abbrev pub invariant-loop-number : goal.invariant-loop-number
invariant-loop-number l = AreNumbered l.cells l.firsts l.numbers.items
