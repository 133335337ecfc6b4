use Rattle.rc_rlang.specs.Shapes.{rlang_of}
use Rattle.rc_edges.specs.Inferred.{family_of}
use Rattle.rc_infer.specs.Walking.{Swept}
use Rattle.rc_infer.proofs.turns.sweep.Given as goal

abbrev pub invariant-loop-turn : goal.invariant-loop-turn
invariant-loop-turn l = Swept (rlang_of l.field.code.now) l.field.graphs.now (family_of l.fn.facts) (family_of l.facts)
