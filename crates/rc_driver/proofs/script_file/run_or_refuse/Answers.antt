use Rattle.std.proofs.Common.{arith, refl}
use Rattle.rc_driver.specs.Scripting.{ran, too_long}
use Rattle.rc_driver.proofs.script_file.run_or_refuse.Goals as goal

pub returns-then-text : goal.returns-then-text
returns-then-text g c = too_long (omega arith) refl refl

pub returns : goal.returns
returns g c = ran c.run_text.result (omega arith) c.run_text.ensures
