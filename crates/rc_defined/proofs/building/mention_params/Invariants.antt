use Rattle.std.proofs.Common.{◌≡◌, drop, map}
use Rattle.std.specs.Prelude.{flat_map}
use Rattle.rc_syntax.specs.Shape.{param_of}
use Rattle.rc_deletes.specs.Items.{named_in, with_all}
use Rattle.rc_defined.proofs.building.mention_params.Given as goal

abbrev pub invariant-loop-param : goal.invariant-loop-param
invariant-loop-param l = record { same : with_all l.initial.names (flat_map (λ q. named_in q.type_name) (map param_of l.params)) ≡ with_all l.names (flat_map (λ q. named_in q.type_name) (map param_of (drop l.param-index l.params))) }
