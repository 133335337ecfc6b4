use Rattle.std.proofs.Common.{Err, subst, sym}
use Rattle.rc_driver.specs.Admitting.{Admitted}
use Rattle.rc_driver.specs.declared.admit.NotRun.{NotRun}
use Rattle.rc_driver.proofs.Admissions.{bare_so, broken_so}
use Rattle.rc_driver.proofs.admit.admit_bare.Goals as goal
use Rattle.rc_outcomes.specs.Images.{alone}

pub returns-in-Ok : goal.returns-in-Ok
returns-in-Ok c = bare_so c.args.image c.in-Ok.code c.in-Ok.ensures.sound c.in-Ok.ensures.unmarked

pub returns-in-Err : goal.returns-in-Err
returns-in-Err c = subst (λ (reason : NotRun). Admitted (alone c.args.image) (Err reason)) (sym c.unsound.ensures) (broken_so c.args.image c.in-Err.fault c.in-Err.ensures.fault)
