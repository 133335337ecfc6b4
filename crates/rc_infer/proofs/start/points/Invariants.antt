use Rattle.std.proofs.Common.{◌≡◌, length}
use Rattle.rc_infer.specs.Starting.{AreWhole}
use Rattle.rc_infer.proofs.start.points.Given as goal

abbrev pub invariant-loop-at : goal.invariant-loop-at
invariant-loop-at l = record {
  long : length l.all.items ≡ l.at;
  whole : AreWhole l.graph l.graph.result l.all.items;
}
