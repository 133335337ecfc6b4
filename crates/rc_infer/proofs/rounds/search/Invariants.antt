use Rattle.rc_rlang.specs.Shapes.{rlang_of}
use Rattle.rc_edges.specs.Inferred.{family_of}
use Rattle.rc_infer.specs.Covering.{Turning, facts_of}
use Rattle.rc_infer.proofs.rounds.search.Given as goal

abbrev pub invariant-rounds : goal.invariant-rounds
invariant-rounds l = Turning (rlang_of l.field.code.now) l.field.graphs.now (family_of l.facts)

abbrev pub decreases-rounds : goal.decreases-rounds
decreases-rounds l = facts_of (family_of l.facts)
