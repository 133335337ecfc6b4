use Rattle.rc_translation.proofs.RulesTheorem.{fits_together}
use Rattle.rc_translation.proofs.rules.region_code_fits_together.Goals as goal

pub returns : goal.returns
returns c program well bounds = fits_together program well bounds
