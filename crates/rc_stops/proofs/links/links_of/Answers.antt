use Rattle.std.proofs.Common.{◌∙◌}
use Rattle.rc_stops.proofs.Linked.{links_start}
use Rattle.rc_stops.proofs.links.links_of.Goals as goal

pub link_all-requires-clause-links : goal.link_all-requires-clause-links
link_all-requires-clause-links c = links_start c.args.stops.now c.deref_mut.result.now c.deref_mut-2.result.now (c.deref_mut.ensures.value ∙ c.in_ok-first.ensures)
