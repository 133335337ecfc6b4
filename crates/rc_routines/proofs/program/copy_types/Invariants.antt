use Rattle.std.proofs.Common.{◌≡◌, ◌++◌, drop, map}
use Rattle.rc_core.specs.Shapes.{ty_of}
use Rattle.rc_routines.proofs.program.copy_types.Given as goal

abbrev pub invariant-loop-ty : goal.invariant-loop-ty
invariant-loop-ty l = map ty_of l.copies.items ++ map ty_of (drop l.ty-index l.types) ≡ map ty_of l.types
