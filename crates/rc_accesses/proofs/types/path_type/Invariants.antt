use Rattle.std.proofs.Common.{◌≡◌, drop, map}
use Rattle.rc_core.specs.Shapes.{path_of, program_of, ty_of}
use Rattle.rc_translation.specs.Translation.{path_type}
use Rattle.rc_accesses.proofs.types.path_type.Given as goal

abbrev pub invariant-loop-step : goal.invariant-loop-step
invariant-loop-step l =
    path_type (program_of l.scope.parts.now) (map ty_of l.scope.locals.now) (path_of l.path) (ty_of l.ty) ≡ path_type (program_of l.scope.parts.now) (map ty_of l.scope.locals.now) (path_of (drop l.step-index l.path)) (ty_of l.inner)
