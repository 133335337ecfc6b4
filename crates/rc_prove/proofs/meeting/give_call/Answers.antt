use Rattle.std.proofs.Common.{sym, ap, subst}
use Rattle.rc_graph.specs.Nodes.{effect_of}
use Rattle.rc_edges.specs.Boundaries.{Callable}
use Rattle.rc_prove.proofs.meeting.give_call.Goals as goal

pub give_arguments-requires : goal.give_arguments-requires
give_arguments-requires c = subst (λ xs. Callable c.in-Called.function xs c.args.work.now.variables c.args.entries.now) (sym c.as_slice.ensures.value) (c.requires c.in-Called.result c.in-Called.function c.in-Called.arguments.items (ap effect_of c.in-Called.is))
