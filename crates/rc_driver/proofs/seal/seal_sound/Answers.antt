use Rattle.std.proofs.Common.{◌∙◌, Result, ap, subst, sym}
use Rattle.rc_answers.specs.declared.answer.Done.{Done}
use Rattle.rc_answers.specs.declared.answer.Fault.{Fault}
use Rattle.rc_driver.specs.Sealing.{Sealed, not_sealed}
use Rattle.rc_driver.proofs.Admissions.{made_so, unsealable_so}
use Rattle.rc_driver.proofs.seal.seal_sound.Goals as goal

pub store_sealed-requires : goal.store_sealed-requires
store_sealed-requires g c = c.in-Ok.ensures.proved.fits

pub returns-in-Ok : goal.returns-in-Ok
returns-in-Ok g c = made_so c.args.image c.args.to.now (g.F.Shelf.state c.args.files.now) c.in-Ok.sealed c.in-Ok.proofs (g.F.Shelf.state c.store_sealed.new.files) c.store_sealed.result c.requires c.in-Ok.ensures.proved c.store_sealed.ensures

pub returns-in-Err : goal.returns-in-Err
returns-in-Err g c =
    let files = g.F.Shelf.state c.args.files.now in
    subst (λ (result : Result Done Fault). Sealed c.args.image c.args.to.now files files result) (sym (c.not_sealed.ensures ∙ ap not_sealed c.unproven.ensures))
    (unsealable_so c.args.image c.args.to.now files c.in-Err.fault c.requires c.in-Err.ensures.refused)
