use Rattle.rc_worlds.proofs.Carried.{carried}
use Rattle.rc_worlds.proofs.translated_images_are_carried.Goals as goal

pub returns : goal.returns
returns c = carried
