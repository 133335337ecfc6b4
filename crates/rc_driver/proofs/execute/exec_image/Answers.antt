use Rattle.std.proofs.Common.{◌∙◌, Err, Ok, ap, subst, sym}
use Rattle.rc_answers.specs.declared.answer.Done.TheVariants.{ImageRefused}
use Rattle.rc_answers.specs.declared.answer.Fault.{Fault}
use Rattle.rc_answers.specs.declared.image_refusal.ImageRefusal.{ImageRefusal}
use Rattle.rc_files.specs.Loading.{LoadedImage, as_read}
use Rattle.rc_files.proofs.ImageFiles.{failed, refused}
use Rattle.rc_outcomes.specs.Outcome.{Executes}
use Rattle.rc_outcomes.specs.Outside.{outside}
use Rattle.rc_outcomes.specs.Performing.{Performs}
use Rattle.rc_driver.proofs.Executions.{executed}
use Rattle.rc_driver.proofs.execute.exec_image.Goals as goal

pub returns-in-Ok : goal.returns-in-Ok
returns-in-Ok g c = λ request err row.
    executed request c.args.name.now c.args.limits row (outside (g.F.Shelf.state c.args.files.now) (g.S.Source.state c.args.input.now) (g.O.Sink.state c.args.out.now) err (g.H.Heap.store c.args.heap.now)) (g.F.Shelf.state c.load_image.new.files) (as_read c.in-Ok.carried) c.in-Ok.ensures.loaded (g.S.Source.state c.execute.new.input) (g.O.Sink.state c.execute.new.out) (g.H.Heap.store c.execute.new.heap) c.execute.result c.execute.ensures

pub returns-in-Err-Refused : goal.returns-in-Err-Refused
returns-in-Err-Refused g c = λ request err row.
    let input = g.S.Source.state c.args.input.now in
    let out = g.O.Sink.state c.args.out.now in
    let heap = g.H.Heap.store c.args.heap.now in
    subst (λ (refusal : ImageRefusal). Performs request (outside (g.F.Shelf.state c.args.files.now) input out err heap) (outside (g.F.Shelf.state c.load_image.new.files) input out err heap) (Ok (ImageRefused refusal))) (sym c.in-Err-Refused.refusal-is)
    (refused request c.args.name.now (Executes c.args.limits) row.makes (outside (g.F.Shelf.state c.args.files.now) input out err heap) (g.F.Shelf.state c.load_image.new.files) c.in-Err-Refused.refusal
    (subst (LoadedImage c.args.name.now (g.F.Shelf.state c.args.files.now) (g.F.Shelf.state c.load_image.new.files)) (c.in-Err-Refused.is ∙ ap Err c.in-Err-Refused.field-0-is) c.load_image.ensures.loaded))

pub returns-in-Err-Failed : goal.returns-in-Err-Failed
returns-in-Err-Failed g c = λ request err row.
    let input = g.S.Source.state c.args.input.now in
    let out = g.O.Sink.state c.args.out.now in
    let heap = g.H.Heap.store c.args.heap.now in
    subst (λ (fault : Fault). Performs request (outside (g.F.Shelf.state c.args.files.now) input out err heap) (outside (g.F.Shelf.state c.load_image.new.files) input out err heap) (Err fault)) (sym c.in-Err-Failed.fault-is)
    (failed request c.args.name.now (Executes c.args.limits) row.makes (outside (g.F.Shelf.state c.args.files.now) input out err heap) (g.F.Shelf.state c.load_image.new.files) c.in-Err-Failed.fault
    (subst (LoadedImage c.args.name.now (g.F.Shelf.state c.args.files.now) (g.F.Shelf.state c.load_image.new.files)) (c.in-Err-Failed.is ∙ ap Err c.in-Err-Failed.field-0-is) c.load_image.ensures.loaded))
