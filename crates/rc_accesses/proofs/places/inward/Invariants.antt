use Rattle.std.proofs.Common.{◌≡◌, drop, map, []}
use Rattle.std.specs.Prelude.{Option}
use Rattle.rc_core.specs.declared.ty.Signedness.{Signedness}
use Rattle.rc_core.specs.Shapes.{path_of, program_of, ty_of}
use Rattle.rc_core.specs.Types.{Ty}
use Rattle.rc_rlang.specs.Shapes.{index_of}
use Rattle.rc_translation.specs.Translation.{path_access}
use Rattle.rc_accesses.specs.Inner.{access_at}
use Rattle.rc_accesses.proofs.places.inward.Given as goal

abbrev pub invariant-loop-step : goal.invariant-loop-step
invariant-loop-step l =
    (element cell : Ty) (shift : Option Signedness) →
    path_access (program_of l.scope.parts.now) (map ty_of l.scope.locals.now) (path_of l.path) (access_at element cell shift 0 []) ≡ path_access (program_of l.scope.parts.now) (map ty_of l.scope.locals.now) (path_of (drop l.step-index l.path)) (access_at element cell shift l.offset (map index_of l.indices.items))
