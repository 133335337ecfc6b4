use Rattle.rc_rlang.specs.Shapes.{rlang_of}
use Rattle.rc_edges.specs.Inferred.{family_of}
use Rattle.rc_infer.specs.Starting.{Started}
use Rattle.rc_infer.proofs.start.full.Given as goal

abbrev pub invariant-loop-g : goal.invariant-loop-g
invariant-loop-g l = Started (rlang_of l.code) l.graphs l.g (family_of l.facts)
