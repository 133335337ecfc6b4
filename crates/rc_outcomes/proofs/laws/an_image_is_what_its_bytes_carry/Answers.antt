use Rattle.rc_outcomes.proofs.CarriedImages.{carried_image, image_carried}
use Rattle.rc_outcomes.proofs.laws.an_image_is_what_its_bytes_carry.Goals as goal

pub returns-clause-read : goal.returns-clause-read
returns-clause-read c = image_carried

pub returns-clause-carried : goal.returns-clause-carried
returns-clause-carried c = carried_image
