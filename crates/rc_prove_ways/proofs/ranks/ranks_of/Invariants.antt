use Rattle.rc_prove_ways.proofs.Counting.{Counted}
use Rattle.rc_prove_ways.proofs.ranks.ranks_of.Given as goal

abbrev pub invariant-loop-at : goal.invariant-loop-at
invariant-loop-at l = Counted l.targets l.at l.count l.ranks.items
