use Rattle.rc_unchecked.proofs.Compiled.{has_one_image}
use Rattle.rc_unchecked.proofs.a_program_is_compiled_to_one_image.Goals as goal

pub returns : goal.returns
returns c program well bounds = has_one_image program well bounds
