use Rattle.std.proofs.Common.{◌∙◌, Err, Ok, ap, subst, sym}
use Rattle.rc_files.specs.Loading.{LoadedImage}
use Rattle.rc_outcomes.specs.Outcome.{Upgrades}
use Rattle.rc_outcomes.specs.Outside.{outside}
use Rattle.rc_outcomes.specs.Performing.{Performs}
use Rattle.rc_answers.specs.declared.answer.Done.TheVariants.{ImageRefused}
use Rattle.rc_answers.specs.declared.answer.Fault.{Fault}
use Rattle.rc_answers.specs.declared.image_refusal.ImageRefusal.{ImageRefusal}
use Rattle.rc_files.proofs.ImageFiles.{failed, refused, upgraded}
use Rattle.rc_files.proofs.upgrade.upgrade_image.Goals as goal

pub returns-in-Ok : goal.returns-in-Ok
returns-in-Ok g c = λ request input out err heap row.
    upgraded request c.args.from.now c.args.to.now (outside (g.F.Shelf.state c.args.files.now) input out err heap) (g.F.Shelf.state c.load_image.new.files) (g.F.Shelf.state c.store_image.new.files) c.in-Ok.carried c.store_image.result row c.in-Ok.ensures.loaded c.store_image.ensures

pub returns-in-Err-Refused : goal.returns-in-Err-Refused
returns-in-Err-Refused g c = λ request input out err heap row.
    subst (λ (refusal : ImageRefusal). Performs request (outside (g.F.Shelf.state c.args.files.now) input out err heap) (outside (g.F.Shelf.state c.load_image.new.files) input out err heap) (Ok (ImageRefused refusal))) (sym c.in-Err-Refused.refusal-is)
    (refused request c.args.from.now (Upgrades c.args.to.now) row.makes (outside (g.F.Shelf.state c.args.files.now) input out err heap) (g.F.Shelf.state c.load_image.new.files) c.in-Err-Refused.refusal
    (subst (LoadedImage c.args.from.now (g.F.Shelf.state c.args.files.now) (g.F.Shelf.state c.load_image.new.files)) (c.in-Err-Refused.is ∙ ap Err c.in-Err-Refused.field-0-is) c.load_image.ensures.loaded))

pub returns-in-Err-Failed : goal.returns-in-Err-Failed
returns-in-Err-Failed g c = λ request input out err heap row.
    subst (λ (fault : Fault). Performs request (outside (g.F.Shelf.state c.args.files.now) input out err heap) (outside (g.F.Shelf.state c.load_image.new.files) input out err heap) (Err fault)) (sym c.in-Err-Failed.fault-is)
    (failed request c.args.from.now (Upgrades c.args.to.now) row.makes (outside (g.F.Shelf.state c.args.files.now) input out err heap) (g.F.Shelf.state c.load_image.new.files) c.in-Err-Failed.fault
    (subst (LoadedImage c.args.from.now (g.F.Shelf.state c.args.files.now) (g.F.Shelf.state c.load_image.new.files)) (c.in-Err-Failed.is ∙ ap Err c.in-Err-Failed.field-0-is) c.load_image.ensures.loaded))
