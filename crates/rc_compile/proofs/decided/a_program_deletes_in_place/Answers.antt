use Rattle.rc_compile.proofs.InPlace.{accepted_in_place}
use Rattle.rc_compile.proofs.decided.a_program_deletes_in_place.Goals as goal

pub returns : goal.returns
returns c = accepted_in_place
