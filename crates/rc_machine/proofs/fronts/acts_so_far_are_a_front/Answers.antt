use Rattle.rc_machine.proofs.Come.{has_fronts}
use Rattle.rc_machine.proofs.fronts.acts_so_far_are_a_front.Goals as goal

pub returns : goal.returns
returns c = has_fronts
