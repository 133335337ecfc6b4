use Rattle.std.proofs.Common.{◌≡◌, map, take}
use Rattle.rc_core.specs.Shapes.{ty_of}
use Rattle.rc_emission.specs.KeptOperands.{same_type}
use Rattle.rc_numbering.specs.Names.{types_named}
use Rattle.rc_numbering.specs.Tables.{seen_behind}
use Rattle.rc_tables.specs.Kept.{all_types}
use Rattle.rc_tables.proofs.named_types.add_all_pointed.Given as goal

abbrev pub invariant-loop-ty : goal.invariant-loop-ty
invariant-loop-ty l = all_types l.types ≡ seen_behind same_type (all_types l.fn.types) (types_named (map ty_of (take l.ty-index l.tys)))
