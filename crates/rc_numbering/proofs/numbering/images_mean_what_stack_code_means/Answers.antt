use Rattle.rc_numbering.proofs.Programs.{image_same}
use Rattle.rc_numbering.proofs.numbering.images_mean_what_stack_code_means.Goals as goal

pub returns : goal.returns
returns g c does waiting r plain waits numberable = image_same does plain waiting waits r numberable
