use Rattle.std.proofs.Common.{◌≡◌, map, take}
use Rattle.rc_numbering.specs.Names.{index_of}
use Rattle.rc_rlang.specs.Shapes.{index_of as code_index}
use Rattle.rc_tables.proofs.paths.indices.Given as goal

abbrev pub invariant-loop-index : goal.invariant-loop-index
invariant-loop-index l = l.indices.items ≡ map index_of (map code_index (take l.index-index l.of))
