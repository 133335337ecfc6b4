use Rattle.rc_linked_texts.proofs.Ranges.{linked_well_typed}
use Rattle.rc_linked_texts.proofs.laws.linked_programs_are_well_typed.Goals as goal

pub returns : goal.returns
returns c = linked_well_typed
