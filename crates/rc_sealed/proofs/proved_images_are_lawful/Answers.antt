use Rattle.rc_sealed.proofs.Whole.{faithful, never_stale, means}
use Rattle.rc_sealed.proofs.proved_images_are_lawful.Goals as goal

pub returns : goal.returns
returns c = λ parts fields rules proofs all. record { faithful = faithful parts fields rules proofs all; never = never_stale parts fields rules proofs all; cleared = means parts fields rules proofs all }
