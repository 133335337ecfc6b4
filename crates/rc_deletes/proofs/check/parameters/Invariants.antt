use Rattle.std.proofs.Common.{◌≡◌, drop, map}
use Rattle.rc_syntax.specs.Shape as tree
use Rattle.rc_deletes.specs.First.{clear}
use Rattle.rc_deletes.specs.Places as rule
use Rattle.rc_deletes.proofs.check.parameters.Given as goal

abbrev pub invariant-loop-param : goal.invariant-loop-param
invariant-loop-param l = clear (rule.params (map tree.param_of l.params)) ≡ clear (rule.params (map tree.param_of (drop l.param-index l.params)))
