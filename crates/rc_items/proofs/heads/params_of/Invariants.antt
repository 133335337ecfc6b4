use Rattle.std.proofs.Common.{◌≡◌, drop, map}
use Rattle.rc_syntax.specs.Shape.{param_of}
use Rattle.rc_deletes.specs.Items.{params_rule, with_params}
use Rattle.rc_defined.specs.Contexts.{context_of}
use Rattle.rc_bodies.specs.Here.{here_of}
use Rattle.rc_items.proofs.heads.params_of.Given as goal

abbrev pub invariant-loop-q : goal.invariant-loop-q
invariant-loop-q l = record {
  same : params_rule (context_of l.context) l.has_body (here_of l.initial.here) (map param_of l.qs) ≡ params_rule (context_of l.context) l.has_body (here_of l.here) (map param_of (drop l.q-index l.qs));
  moved : with_params (context_of l.context) (here_of l.initial.here) (map param_of l.qs) ≡ with_params (context_of l.context) (here_of l.here) (map param_of (drop l.q-index l.qs));
}
