use Rattle.rc_rlang.specs.Shapes.{rlang_of}
use Rattle.rc_edges.specs.Inferred.{family_of}
use Rattle.rc_infer.specs.Walking.{Rounded}
use Rattle.rc_infer.proofs.rounds.round.Given as goal

abbrev pub invariant-loop-function : goal.invariant-loop-function
invariant-loop-function l = Rounded (rlang_of l.field.code.now) l.field.graphs.now l.function (family_of l.fn.facts) (family_of l.facts) l.lost
