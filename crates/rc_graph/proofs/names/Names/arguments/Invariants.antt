use Rattle.std.proofs.Common.{◌≡◌, ◌++◌, drop, map}
use Rattle.rc_core.specs.Shapes.{ty_of}
use Rattle.rc_rlang.specs.RegionCode.{Routine}
use Rattle.rc_rlang.specs.RegionFlow.{regional_arguments}
use Rattle.rc_graph.specs.Nodes.{Numbers}
use Rattle.rc_graph.proofs.names.Names.arguments.Given as goal

abbrev pub invariant-loop-ty : goal.invariant-loop-ty
invariant-loop-ty l = (f : Routine) → Numbers f l.self → l.all.items ++ regional_arguments f (map ty_of (drop l.ty-index l.types)) l.at ≡ regional_arguments f (map ty_of l.types) l.height
