use Rattle.std.proofs.Common.{◌≡◌, ℕ, map}
use Rattle.rc_core.specs.Layout.{cells}
use Rattle.rc_core.specs.Shapes.{ty_of, struct_of}
use Rattle.rc_core.specs.Typing.{IsDefined}
use Rattle.rc_core.specs.WellTyped.{IsInside}
use Rattle.rc_core.proofs.LayoutLaws.{rank}
use Rattle.rc_core.proofs.cells.unwrapped.Given as goal

abbrev pub invariant-loop-ty : goal.invariant-loop-ty
invariant-loop-ty l =
    IsDefined (map struct_of l.structs) (ty_of l.ty)
    × (cells (map struct_of l.structs) (ty_of l.ty) ≡ cells (map struct_of l.structs) (ty_of l.fn.whole))
    × ((n : ℕ) → IsInside n (ty_of l.fn.whole) → IsInside n (ty_of l.ty))

abbrev pub decreases-loop-ty : goal.decreases-loop-ty
decreases-loop-ty l = rank (ty_of l.ty)
