use Rattle.rc_outcomes.proofs.Linked.{linked_never}
use Rattle.rc_outcomes.proofs.laws.a_linked_program_never_touches_deleted.Goals as goal

pub returns : goal.returns
returns c = linked_never
