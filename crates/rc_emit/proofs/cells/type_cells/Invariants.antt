use Rattle.std.proofs.Common.{◌≡◌, map, take}
use Rattle.rc_core.specs.Layout.{cells}
use Rattle.rc_core.specs.Shapes.{struct_of}
use Rattle.rc_tables.specs.Kept.{all_types, types_listed}
use Rattle.rc_emit.specs.Cells.{cells_with}
use Rattle.rc_emit.proofs.cells.type_cells.Given as goal

abbrev pub invariant-loop-ty : goal.invariant-loop-ty
invariant-loop-ty l = l.types.items ≡ map (cells_with l.numbers) (map (cells (map struct_of l.structs)) (all_types (types_listed (take l.ty-index l.named))))
