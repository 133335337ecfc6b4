use Rattle.std.proofs.Common.{◌≡◌, ◌+◌, ◌*◌, drop, map}
use Rattle.std.specs.Prelude.{count_by}
use Rattle.rc_core.specs.Shapes.{ty_of}
use Rattle.rc_core.specs.Typing.{is_reference}
use Rattle.rc_elab.proofs.variables.locals.Given as goal

abbrev pub invariant-loop-ty : goal.invariant-loop-ty
invariant-loop-ty l =
    l.rest + l.each * count_by is_reference (map ty_of l.types) ≡ l.left + l.each * count_by is_reference (map ty_of (drop l.ty-index l.types))
