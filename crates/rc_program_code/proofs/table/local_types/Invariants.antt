use Rattle.std.proofs.Common.{◌≡◌, ◌++◌, map, take}
use Rattle.rc_core.specs.Shapes.{ty_of}
use Rattle.rc_lines.specs.Gathered.{all_kept}
use Rattle.rc_program_code.specs.Numbering.{wide_of}
use Rattle.rc_program_code.proofs.table.local_types.Given as goal

abbrev pub invariant-loop-ty : goal.invariant-loop-ty
invariant-loop-ty l = map ty_of l.types.items ≡ map ty_of (take l.ty-index l.own)

abbrev pub invariant-loop-operand : goal.invariant-loop-operand
invariant-loop-operand l = map ty_of l.types.items ≡ map ty_of l.own ++ map wide_of (all_kept (take l.operand-index l.kept))
