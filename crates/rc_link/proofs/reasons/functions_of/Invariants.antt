use Rattle.std.proofs.Common.{◌≡◌, drop}
use Rattle.rc_deletes.specs.Items.{function_names, with_functions}
use Rattle.rc_linking.specs.Joined.{all_items}
use Rattle.rc_link.specs.Answers.{trees_of}
use Rattle.rc_link.proofs.reasons.functions_of.Given as goal

abbrev pub invariant-loop-unit : goal.invariant-loop-unit
invariant-loop-unit l = record { same : function_names (all_items (trees_of l.units)) ≡ with_functions l.names (all_items (trees_of (drop l.unit-index l.units))) }
