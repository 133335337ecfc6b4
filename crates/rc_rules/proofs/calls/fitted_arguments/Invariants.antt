use Rattle.std.proofs.Common.{◌≡◌, ◌≤◌, length, drop, map}
use Rattle.std.specs.Vec.Iter.{into_iter_items}
use Rattle.rc_deletes.specs.Calls.{fitted_arguments}
use Rattle.rc_typed_values.specs.Shapes.{typed_of}
use Rattle.rc_rules.specs.Parameters.{parameters_of}
use Rattle.rc_rules.specs.Shapes.{code_of}
use Rattle.rc_rules.proofs.Arguments.{after}
use Rattle.rc_rules.proofs.calls.fitted_arguments.Given as goal

abbrev pub invariant-loop-v : goal.invariant-loop-v
invariant-loop-v l = record {
  within : l.place ≤ length (parameters_of l.parameters);
  same : fitted_arguments (parameters_of l.parameters) (map typed_of l.fn.values.items) ≡ after (map code_of l.codes.items) (fitted_arguments (drop l.place (parameters_of l.parameters)) (map typed_of (into_iter_items l.v-iterator)));
}
