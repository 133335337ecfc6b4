use Rattle.rc_source_lists.proofs.Listed.{Paths, lists_are_source_paths, nodes_have_their_lists}
use Rattle.rc_source_lists.proofs.Items.{items_have_their_lists}
use Rattle.rc_source_lists.proofs.lists_are_source_paths.Goals as goal

paths : goal.After-liveness_is_a_path → Paths
paths c =
    let e = c.liveness_is_a_path.ensures in
    record { end = e.end; one = e.one; all = e.all; in_while = e.in_while; in_do = e.in_do; in_for = e.in_for; between_rounds = e.between_rounds; behind_if = e.behind_if; behind_while = e.behind_while; behind_do = e.behind_do; behind_for = e.behind_for }

pub returns-clause-lists : goal.returns-clause-lists
returns-clause-lists c = lists_are_source_paths (paths c)

pub returns-clause-map : goal.returns-clause-map
returns-clause-map c = nodes_have_their_lists (paths c)

pub returns-clause-items : goal.returns-clause-items
returns-clause-items c = items_have_their_lists (paths c)
