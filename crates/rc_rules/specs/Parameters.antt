-- What the parameters of a function take, in code and at a place.
use Rattle.std.specs.Prelude.{ℕ, List, Option, Some, None, map, slice_get}
use Rattle.rc_core.specs.Programs as p
use Rattle.rc_core.specs.Shapes.{ty_of}
use Rattle.rc_deletes.specs.Builtins.{Parameter, of_type, parameter_of}
use Rattle.rc_deletes.specs.Calls.{fitted_argument}
use Rattle.rc_deletes.specs.Values.{Typed}
use Rattle.rc_rules.specs.declared.calls.Parameters.{Parameters}
use Rattle.rc_rules.specs.declared.calls.Parameters.TheVariants as takes

abbrev pub parameters_of : Parameters → List Parameter
parameters_of (takes.Types types) = map (λ t. of_type (ty_of t)) types.now
parameters_of (takes.Builtin parameters) = map parameter_of parameters.now

abbrev pub fitted_by : Option Parameter → Typed → Option p.Expr
fitted_by None v = None
fitted_by (Some q) v = fitted_argument q v

abbrev pub fitted_at : List Parameter → ℕ → Typed → Option p.Expr
fitted_at parameters place v = fitted_by (slice_get parameters place) v
