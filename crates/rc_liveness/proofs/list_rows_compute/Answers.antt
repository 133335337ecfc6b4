use Rattle.std.proofs.Common.{refl}
use Rattle.rc_liveness.proofs.list_rows_compute.Goals as goal

pub returns : goal.returns
returns c = record { argument = refl; behind = refl; other_way = refl; assigned = refl; next_round = refl; do_round = refl }
