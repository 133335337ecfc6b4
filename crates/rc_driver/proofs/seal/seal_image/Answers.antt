use Rattle.std.proofs.Common.{◌∙◌, Err, Ok, ap, subst, sym}
use Rattle.rc_answers.specs.declared.answer.Done.TheVariants.{ImageRefused}
use Rattle.rc_answers.specs.declared.answer.Fault.{Fault}
use Rattle.rc_answers.specs.declared.image_refusal.ImageRefusal.{ImageRefusal}
use Rattle.rc_files.specs.Loading.{LoadedImage, as_read}
use Rattle.rc_files.proofs.ImageFiles.{failed, refused}
use Rattle.rc_outcomes.specs.Outcome.{Seals}
use Rattle.rc_outcomes.specs.Outside.{outside}
use Rattle.rc_outcomes.specs.Performing.{Performs}
use Rattle.rc_driver.proofs.Sealings.{sealed_so}
use Rattle.rc_driver.proofs.seal.seal_image.Goals as goal

pub returns-in-Ok : goal.returns-in-Ok
returns-in-Ok g c = λ request input out err heap row.
    sealed_so request c.args.from.now c.args.to.now row (outside (g.F.Shelf.state c.args.files.now) input out err heap) (g.F.Shelf.state c.load_image.new.files) (as_read c.in-Ok.carried) c.in-Ok.ensures.loaded (g.F.Shelf.state c.seal.new.files) c.seal.result c.seal.ensures

pub returns-in-Err-Refused : goal.returns-in-Err-Refused
returns-in-Err-Refused g c = λ request input out err heap row.
    subst (λ (refusal : ImageRefusal). Performs request (outside (g.F.Shelf.state c.args.files.now) input out err heap) (outside (g.F.Shelf.state c.load_image.new.files) input out err heap) (Ok (ImageRefused refusal))) (sym c.in-Err-Refused.refusal-is)
    (refused request c.args.from.now (Seals c.args.to.now) row.makes (outside (g.F.Shelf.state c.args.files.now) input out err heap) (g.F.Shelf.state c.load_image.new.files) c.in-Err-Refused.refusal
    (subst (LoadedImage c.args.from.now (g.F.Shelf.state c.args.files.now) (g.F.Shelf.state c.load_image.new.files)) (c.in-Err-Refused.is ∙ ap Err c.in-Err-Refused.field-0-is) c.load_image.ensures.loaded))

pub returns-in-Err-Failed : goal.returns-in-Err-Failed
returns-in-Err-Failed g c = λ request input out err heap row.
    subst (λ (fault : Fault). Performs request (outside (g.F.Shelf.state c.args.files.now) input out err heap) (outside (g.F.Shelf.state c.load_image.new.files) input out err heap) (Err fault)) (sym c.in-Err-Failed.fault-is)
    (failed request c.args.from.now (Seals c.args.to.now) row.makes (outside (g.F.Shelf.state c.args.files.now) input out err heap) (g.F.Shelf.state c.load_image.new.files) c.in-Err-Failed.fault
    (subst (LoadedImage c.args.from.now (g.F.Shelf.state c.args.files.now) (g.F.Shelf.state c.load_image.new.files)) (c.in-Err-Failed.is ∙ ap Err c.in-Err-Failed.field-0-is) c.load_image.ensures.loaded))
