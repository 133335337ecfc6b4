use Rattle.std.proofs.Common.{Result, subst, sym}
use Rattle.rc_answers.specs.declared.answer.Done.{Done}
use Rattle.rc_answers.specs.declared.answer.Fault.{Fault}
use Rattle.rc_driver.specs.Sealing.{Sealed}
use Rattle.rc_driver.proofs.Admissions.{is_sound, unsound_sealed}
use Rattle.rc_driver.proofs.seal.seal.Goals as goal

pub seal_sound-requires : goal.seal_sound-requires
seal_sound-requires g c = is_sound c.args.image c.sound_code.result c.in-Ok.field-0 c.in-Ok.is c.sound_code.ensures

pub returns-in-Err : goal.returns-in-Err
returns-in-Err g c =
    let files = g.F.Shelf.state c.args.files.now in
    subst (λ (result : Result Done Fault). Sealed c.args.image c.args.to.now files files result) (sym c.not_sealed.ensures)
    (unsound_sealed c.args.image c.args.to.now files c.sound_code.result c.in-Err.reason c.in-Err.is c.sound_code.ensures)
