use Rattle.std.proofs.Common.{◌≡◌, ◌++◌, flat_map, take}
use Rattle.std.specs.List.{AllByRecursion as Every}
use Rattle.rc_tables.specs.Keys.{index_key, IndexHasKey}
use Rattle.rc_tables.proofs.keys.add_index_keys.Given as goal

abbrev pub invariant-loop-index : goal.invariant-loop-index
invariant-loop-index l = record { key : l.out.items ≡ l.fn.out.items ++ flat_map index_key (take l.index-index l.indices); each : Every IndexHasKey (take l.index-index l.indices) }
