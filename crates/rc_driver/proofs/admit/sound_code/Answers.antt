use Rattle.std.proofs.Common.{Err, subst, sym}
use Rattle.rc_driver.specs.Admitting.{IsSoundOr, keeps}
use Rattle.rc_driver.specs.declared.admit.NotRun.{NotRun}
use Rattle.rc_driver.proofs.Admissions.{unsound_so}
use Rattle.rc_driver.proofs.admit.sound_code.Goals as goal

pub returns-in-Ok : goal.returns-in-Ok
returns-in-Ok c = keeps c.in-Ok.field-0 c.in-Ok.ensures.sound

pub returns-in-Err : goal.returns-in-Err
returns-in-Err c = subst (λ (reason : NotRun). IsSoundOr {T = Unit {0}} c.args.image.now (Err reason)) (sym c.unsound.ensures) (unsound_so c.args.image.now c.in-Err.fault c.in-Err.ensures.fault)
