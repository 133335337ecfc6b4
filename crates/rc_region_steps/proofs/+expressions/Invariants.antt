use Rattle.std.proofs.Common.{◌≡◌, ◌+◌, ◌*◌, ◌++◌, drop, map}
use Rattle.std.specs.Prelude.{max}
use Rattle.rc_core.specs.declared.expr.Expr.{size-Expr}
use Rattle.rc_core.specs.Shapes.{arguments_of, path_of, program_of, ty_of}
use Rattle.rc_rlang.specs.RegionCode.{both}
use Rattle.rc_rlang.specs.Shapes.{steps_of}
use Rattle.rc_translation.specs.Translation.{argument_types, arguments_code, path_code}
use Rattle.rc_region_steps.proofs.+expressions.Given as goal

-- a node is above its parts, and the walk over a part above the part

abbrev pub decreases-expressions::expression : goal.decreases-expressions::expression
decreases-expressions::expression l = 4 * goal.size-expressions::expression l

abbrev pub decreases-expressions::unary : goal.decreases-expressions::unary
decreases-expressions::unary l = 4 * goal.size-expressions::unary l + 1

abbrev pub decreases-expressions::convert : goal.decreases-expressions::convert
decreases-expressions::convert l = 4 * goal.size-expressions::convert l + 1

abbrev pub decreases-expressions::not_zero : goal.decreases-expressions::not_zero
decreases-expressions::not_zero l = 4 * goal.size-expressions::not_zero l + 1

abbrev pub decreases-expressions::truth : goal.decreases-expressions::truth
decreases-expressions::truth l = 4 * goal.size-expressions::truth l + 1

abbrev pub decreases-expressions::one_way : goal.decreases-expressions::one_way
decreases-expressions::one_way l = 4 * goal.size-expressions::one_way l + 1

abbrev pub decreases-expressions::is_null : goal.decreases-expressions::is_null
decreases-expressions::is_null l = 4 * goal.size-expressions::is_null l + 1

abbrev pub decreases-expressions::new_subregion : goal.decreases-expressions::new_subregion
decreases-expressions::new_subregion l = 4 * goal.size-expressions::new_subregion l + 1

abbrev pub decreases-expressions::region_of : goal.decreases-expressions::region_of
decreases-expressions::region_of l = 4 * goal.size-expressions::region_of l + 1

abbrev pub decreases-expressions::allocate : goal.decreases-expressions::allocate
decreases-expressions::allocate l = 4 * goal.size-expressions::allocate l + 1

abbrev pub decreases-expressions::putchar : goal.decreases-expressions::putchar
decreases-expressions::putchar l = 4 * goal.size-expressions::putchar l + 1

abbrev pub decreases-places::base : goal.decreases-places::base
decreases-places::base l = 4 * goal.size-places::base l + 1

abbrev pub decreases-places::index : goal.decreases-places::index
decreases-places::index l = 4 * goal.size-places::index l + 1

abbrev pub decreases-places::path : goal.decreases-places::path
decreases-places::path l = 4 * goal.size-places::path l + 1

abbrev pub decreases-expressions::arguments : goal.decreases-expressions::arguments
decreases-expressions::arguments l = 4 * goal.size-expressions::arguments l + 1

abbrev pub decreases-expressions::call : goal.decreases-expressions::call
decreases-expressions::call l = 4 * goal.size-expressions::call l + 2

abbrev pub decreases-places::place : goal.decreases-places::place
decreases-places::place l = 4 * goal.size-places::place l + 2

abbrev pub decreases-expressions::read : goal.decreases-expressions::read
decreases-expressions::read l = 4 * goal.size-expressions::read l + 3

abbrev pub decreases-expressions::step : goal.decreases-expressions::step
decreases-expressions::step l = 4 * max (size-Expr l.pointer.now) (size-Expr l.number.now) + 2

abbrev pub decreases-expressions::step_from : goal.decreases-expressions::step_from
decreases-expressions::step_from l = 4 * max (size-Expr l.number.now) (size-Expr l.pointer.now) + 2

abbrev pub decreases-expressions::binary : goal.decreases-expressions::binary
decreases-expressions::binary l = 4 * max (size-Expr l.left.now) (size-Expr l.right.now) + 2

abbrev pub decreases-expressions::and : goal.decreases-expressions::and
decreases-expressions::and l = 4 * max (size-Expr l.left.now) (size-Expr l.right.now) + 2

abbrev pub decreases-expressions::or : goal.decreases-expressions::or
decreases-expressions::or l = 4 * max (size-Expr l.left.now) (size-Expr l.right.now) + 2

abbrev pub decreases-expressions::same : goal.decreases-expressions::same
decreases-expressions::same l = 4 * max (size-Expr l.left.now) (size-Expr l.right.now) + 2

abbrev pub decreases-expressions::allocate_array : goal.decreases-expressions::allocate_array
decreases-expressions::allocate_array l = 4 * max (size-Expr l.region.now) (size-Expr l.number.now) + 2

abbrev pub decreases-expressions::choose : goal.decreases-expressions::choose
decreases-expressions::choose l = 4 * max (size-Expr l.test.now) (max (size-Expr l.yes.now) (size-Expr l.no.now)) + 2

abbrev pub invariant-expressions::arguments-loop-e : goal.invariant-expressions::arguments-loop-e
invariant-expressions::arguments-loop-e l =
    (both (steps_of (program_of l.scope.parts.now).structs l.initial.steps.items) (arguments_code (program_of l.scope.parts.now) (map ty_of l.scope.locals.now) (arguments_of l.given) (map ty_of l.parameters) l.temporary)
    ≡ both (steps_of (program_of l.scope.parts.now).structs l.steps.items) (arguments_code (program_of l.scope.parts.now) (map ty_of l.scope.locals.now) (arguments_of (drop l.e-index l.given)) (drop l.e-index (map ty_of l.parameters)) l.next))
    × (argument_types (program_of l.scope.parts.now) (map ty_of l.scope.locals.now) (arguments_of l.given) (map ty_of l.parameters)
    ≡ map ty_of l.types.items ++ argument_types (program_of l.scope.parts.now) (map ty_of l.scope.locals.now) (arguments_of (drop l.e-index l.given)) (drop l.e-index (map ty_of l.parameters)))
    × (l.place ≡ l.e-index)

abbrev pub invariant-places::path-loop-step : goal.invariant-places::path-loop-step
invariant-places::path-loop-step l =
    both (steps_of (program_of l.scope.parts.now).structs l.initial.steps.items) (path_code (program_of l.scope.parts.now) (map ty_of l.scope.locals.now) (path_of l.path) l.temporary)
    ≡ both (steps_of (program_of l.scope.parts.now).structs l.steps.items) (path_code (program_of l.scope.parts.now) (map ty_of l.scope.locals.now) (path_of (drop l.step-index l.path)) l.free)
