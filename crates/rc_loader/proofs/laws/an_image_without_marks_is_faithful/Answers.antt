use Rattle.std.proofs.Common.{true, false}
use Rattle.rc_loader.proofs.Marks.{fields_fit, stays_sound, faithful}
use Rattle.rc_loader.proofs.laws.an_image_without_marks_is_faithful.Goals as goal

pub returns-clause-fields : goal.returns-clause-fields
returns-clause-fields c = fields_fit

pub returns-clause-sound : goal.returns-clause-sound
returns-clause-sound c = stays_sound true

pub returns-clause-bare : goal.returns-clause-bare
returns-clause-bare c = stays_sound false

pub returns-clause-faithful : goal.returns-clause-faithful
returns-clause-faithful c = faithful
