use Rattle.std.proofs.Common.{◌∙◌, Err, Ok, ap, subst, sym}
use Rattle.rc_files.specs.Loading.{LoadedImage}
use Rattle.rc_outcomes.specs.Outcome.{Lists}
use Rattle.rc_outcomes.specs.Outside.{outside}
use Rattle.rc_outcomes.specs.Performing.{Performs}
use Rattle.rc_answers.specs.declared.answer.Done.TheVariants.{ImageRefused}
use Rattle.rc_answers.specs.declared.answer.Fault.{Fault}
use Rattle.rc_answers.specs.declared.image_refusal.ImageRefusal.{ImageRefusal}
use Rattle.rc_files.proofs.ImageFiles.{failed, listed, refused}
use Rattle.rc_files.proofs.list.list_image.Goals as goal

pub returns-in-Ok : goal.returns-in-Ok
returns-in-Ok g c = λ request input err heap row.
    listed request c.args.name.now (outside (g.F.Shelf.state c.args.files.now) input (g.O.Sink.state c.args.out.now) err heap) (g.F.Shelf.state c.load_image.new.files) (g.O.Sink.state c.report_image.new.out) c.in-Ok.carried c.report_image.result row c.in-Ok.ensures.loaded c.report_image.ensures

pub returns-in-Err-Refused : goal.returns-in-Err-Refused
returns-in-Err-Refused g c = λ request input err heap row.
    subst (λ (refusal : ImageRefusal). Performs request (outside (g.F.Shelf.state c.args.files.now) input (g.O.Sink.state c.args.out.now) err heap) (outside (g.F.Shelf.state c.load_image.new.files) input (g.O.Sink.state c.args.out.now) err heap) (Ok (ImageRefused refusal))) (sym c.in-Err-Refused.refusal-is)
    (refused request c.args.name.now Lists row.makes (outside (g.F.Shelf.state c.args.files.now) input (g.O.Sink.state c.args.out.now) err heap) (g.F.Shelf.state c.load_image.new.files) c.in-Err-Refused.refusal
    (subst (LoadedImage c.args.name.now (g.F.Shelf.state c.args.files.now) (g.F.Shelf.state c.load_image.new.files)) (c.in-Err-Refused.is ∙ ap Err c.in-Err-Refused.field-0-is) c.load_image.ensures.loaded))

pub returns-in-Err-Failed : goal.returns-in-Err-Failed
returns-in-Err-Failed g c = λ request input err heap row.
    subst (λ (fault : Fault). Performs request (outside (g.F.Shelf.state c.args.files.now) input (g.O.Sink.state c.args.out.now) err heap) (outside (g.F.Shelf.state c.load_image.new.files) input (g.O.Sink.state c.args.out.now) err heap) (Err fault)) (sym c.in-Err-Failed.fault-is)
    (failed request c.args.name.now Lists row.makes (outside (g.F.Shelf.state c.args.files.now) input (g.O.Sink.state c.args.out.now) err heap) (g.F.Shelf.state c.load_image.new.files) c.in-Err-Failed.fault
    (subst (LoadedImage c.args.name.now (g.F.Shelf.state c.args.files.now) (g.F.Shelf.state c.load_image.new.files)) (c.in-Err-Failed.is ∙ ap Err c.in-Err-Failed.field-0-is) c.load_image.ensures.loaded))
