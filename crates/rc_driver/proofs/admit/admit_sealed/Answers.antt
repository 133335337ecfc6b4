use Rattle.std.proofs.Common.{Some}
use Rattle.rc_driver.proofs.Admissions.{is_sound, not_sound}
use Rattle.rc_driver.proofs.admit.admit_sealed.Goals as goal
use Rattle.rc_outcomes.specs.Images.{carrying}

pub admit_proven-requires-clause-sound : goal.admit_proven-requires-clause-sound
admit_proven-requires-clause-sound c = is_sound c.args.image c.sound_code.result c.in-Ok.field-0 c.in-Ok.is c.sound_code.ensures

pub returns-in-Err : goal.returns-in-Err
returns-in-Err c = not_sound (carrying c.args.image (Some c.args.proofs.now)) c.sound_code.result c.in-Err.reason c.in-Err.is c.sound_code.ensures
