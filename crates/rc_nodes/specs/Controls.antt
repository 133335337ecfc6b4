-- What the evaluator's controls stand for.
use Rattle.rc_core.specs.Shapes.{expr_of, stmt_of, path_of}
use Rattle.rc_nodes.specs.declared.control.Control.{Control as CodeControl}
use Rattle.rc_nodes.specs.declared.control.Control.TheVariants.{Evaluate as EvaluateControl, Execute, GoAlong, Gives, Aims, Goes, Breaks, Continues, Returns}
use Rattle.rc_values.specs.Values.{value_of}
use Rattle.rc_nodes.specs.Stepping.{Control, evaluating, executing, going_along, gives, aims, goes, breaks, continues, returns}

abbrev pub control_of : CodeControl → Control
control_of (EvaluateControl e) = evaluating (expr_of e.now)
control_of (Execute s) = executing (stmt_of s.now)
control_of (GoAlong t path) = going_along t (path_of path.now)
control_of (Gives v) = gives (value_of v)
control_of (Aims t) = aims t
control_of Goes = goes
control_of Breaks = breaks
control_of Continues = continues
control_of (Returns v) = returns (value_of v)
