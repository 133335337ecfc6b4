use Rattle.std.proofs.Common.{◌≡◌, ◌≤◌, suc}
use Rattle.rc_rlang.specs.Shapes.{rlang_of}
use Rattle.rc_edges.specs.Families.{Family}
use Rattle.rc_edges.specs.Inferred.{family_of}
use Rattle.rc_infer.specs.Covering.{Covers}
use Rattle.rc_infer.specs.Walking.{Went}
use Rattle.rc_infer.proofs.walk.go.Given as goal

abbrev pub invariant-loop-point : goal.invariant-loop-point
invariant-loop-point l = record {
  over : l.from.point ≤ l.point;
  wide : l.work.variables ≡ suc l.graph.result;
  went : (all : Family) → Covers (rlang_of l.field.code.now) l.field.graphs.now (family_of l.fn.facts) all → Went (rlang_of l.field.code.now) l.field.graphs.now l.graph l.from.function l.from.point l.point (family_of l.fn.facts) (family_of l.facts) all l.work l.lost;
}
