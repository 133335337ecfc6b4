use Rattle.rc_graph.specs.Heading.{Grew}
use Rattle.rc_graph.proofs.heads.mark_calls.Given as goal

abbrev pub invariant-loop-at : goal.invariant-loop-at
invariant-loop-at l = Grew l.fn.heads l.heads
