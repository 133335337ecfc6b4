use Rattle.rc_source_lists.proofs.Listed.{Paths}
use Rattle.rc_held_lists.proofs.Held.{held_are_listed, held_are_live}
use Rattle.rc_held_lists.proofs.held_are_listed.Goals as goal

paths : goal.After-liveness_is_a_path → Paths
paths c =
    let e = c.liveness_is_a_path.ensures in
    record { end = e.end; one = e.one; all = e.all; in_while = e.in_while; in_do = e.in_do; in_for = e.in_for; between_rounds = e.between_rounds; behind_if = e.behind_if; behind_while = e.behind_while; behind_do = e.behind_do; behind_for = e.behind_for }

pub returns-clause-listed : goal.returns-clause-listed
returns-clause-listed c = held_are_listed

pub returns-clause-source : goal.returns-clause-source
returns-clause-source c = held_are_live (paths c)
