use Rattle.std.proofs.Common.{refl}
use Rattle.rc_source_lists.proofs.node_rows_compute.Goals as goal

pub returns : goal.returns
returns c = record { deletion = refl; second = refl; assigned = refl; returned = refl; quiet = refl; condition_of_if = refl; condition_of_while = refl; in_while = refl; condition_of_do = refl; parts_of_for = refl }
