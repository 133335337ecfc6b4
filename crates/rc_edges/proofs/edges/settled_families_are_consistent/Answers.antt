use Rattle.rc_edges.proofs.Settling.{settled_consistent, search_keeps}
use Rattle.rc_edges.proofs.edges.settled_families_are_consistent.Goals as goal

pub returns-clause-consistent : goal.returns-clause-consistent
returns-clause-consistent c = settled_consistent

pub returns-clause-kept : goal.returns-clause-kept
returns-clause-kept c = search_keeps
