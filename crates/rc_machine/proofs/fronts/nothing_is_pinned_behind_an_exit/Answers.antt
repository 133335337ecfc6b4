use Rattle.rc_machine.proofs.Come.{exits_unpinned}
use Rattle.rc_machine.proofs.fronts.nothing_is_pinned_behind_an_exit.Goals as goal

pub returns : goal.returns
returns c = exits_unpinned
