use Rattle.rc_emission.proofs.SourceTurns.{source_turns}
use Rattle.rc_emission.proofs.turns_of_the_source_are_counted.Goals as goal

pub returns : goal.returns
returns c = source_turns
