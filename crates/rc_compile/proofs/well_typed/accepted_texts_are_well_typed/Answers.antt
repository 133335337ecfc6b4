use Rattle.rc_compile.proofs.Texts.{well_typed}
use Rattle.rc_compile.proofs.well_typed.accepted_texts_are_well_typed.Goals as goal

pub returns : goal.returns
returns c = well_typed
