use Rattle.rc_edges.proofs.Carrying.{edges_allow, fewer_derive}
use Rattle.rc_edges.proofs.edges.edges_carry_what_effects_allow.Goals as goal

pub returns-clause-edges : goal.returns-clause-edges
returns-clause-edges c = edges_allow

pub returns-clause-fewer : goal.returns-clause-fewer
returns-clause-fewer c = fewer_derive
