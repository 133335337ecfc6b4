use Rattle.std.proofs.Common.{◌≡◌, ◌++◌, drop, map}
use Rattle.rc_core.specs.Shapes.{ty_of}
use Rattle.rc_rlang.specs.RegionCode.{Routine}
use Rattle.rc_rlang.specs.RegionFlow.{entry_pairs}
use Rattle.rc_graph.specs.Nodes.{Numbers, entry_of}
use Rattle.rc_graph.proofs.graph.entries.Given as goal

abbrev pub invariant-loop-ty : goal.invariant-loop-ty
invariant-loop-ty l = (f : Routine) → Numbers f l.names → map entry_of l.all.items ++ entry_pairs f (map ty_of (drop l.ty-index l.parameters)) l.at ≡ entry_pairs f (map ty_of l.parameters) 0
