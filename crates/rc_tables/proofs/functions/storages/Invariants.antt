use Rattle.std.proofs.Common.{◌≡◌, map, take}
use Rattle.rc_core.specs.Shapes.{ty_of}
use Rattle.rc_numbering.specs.Numbered.{storage_of}
use Rattle.rc_tables.specs.Placed.{path_number, type_number}
use Rattle.rc_tables.proofs.functions.storages.Given as goal

abbrev pub invariant-loop-ty : goal.invariant-loop-ty
invariant-loop-ty l = l.storages.items ≡ map (storage_of (type_number l.numbers) (path_number l.numbers)) (map ty_of (take l.ty-index l.tys))
