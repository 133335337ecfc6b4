use Rattle.std.proofs.Common.{◌≡◌, ◌+◌, ◌++◌, drop, map}
use Rattle.rc_core.specs.Shapes.{ty_of}
use Rattle.rc_graph.specs.Nodes.{ranks_from}
use Rattle.rc_graph.proofs.Numbering.{regionals}
use Rattle.rc_graph.proofs.names.number.Given as goal

abbrev pub invariant-loop-ty : goal.invariant-loop-ty
invariant-loop-ty l = record {
  ranks : l.ranks.items ++ ranks_from l.count (map ty_of (drop l.ty-index l.locals)) ≡ ranks_from 0 (map ty_of l.locals);
  count : l.count + regionals (map ty_of (drop l.ty-index l.locals)) ≡ regionals (map ty_of l.locals);
}
