use Rattle.std.proofs.Common.{Err, Some, refl, subst, sym}
use Rattle.rc_driver.specs.Admitting.{Admitted}
use Rattle.rc_driver.specs.declared.admit.NotRun.{NotRun}
use Rattle.rc_driver.proofs.Admissions.{proven_so, unproven_so}
use Rattle.rc_driver.proofs.admit.admit_proven.Goals as goal
use Rattle.rc_outcomes.specs.Images.{carrying}

pub returns-in-Ok : goal.returns-in-Ok
returns-in-Ok c =
    let accepted = c.in-Ok.ensures.accepted in
    proven_so (carrying c.args.image (Some c.args.proofs.now)) c.args.proofs.now c.in-Ok.code refl c.requires.sound accepted.0 accepted.1.0 accepted.1.1

pub returns-in-Err : goal.returns-in-Err
returns-in-Err c =
    subst (λ (reason : NotRun). Admitted (carrying c.args.image (Some c.args.proofs.now)) (Err reason)) (sym c.unproven.ensures)
    (unproven_so (carrying c.args.image (Some c.args.proofs.now)) c.args.proofs.now c.in-Err.fault refl c.requires.sound c.in-Err.ensures.refused)
