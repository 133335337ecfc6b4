use Rattle.std.proofs.Common.{◌∙◌, Err, Ok, ap, subst, sym}
use Rattle.rc_answers.specs.declared.answer.Done.TheVariants.{ImageRefused}
use Rattle.rc_answers.specs.declared.image_refusal.ImageRefusal.{ImageRefusal}
use Rattle.rc_files.specs.Loading.{as_read}
use Rattle.rc_driver.specs.Admitting.{Admitted}
use Rattle.rc_driver.specs.Executing.{Executed, no_memory, ran, refused}
use Rattle.rc_driver.proofs.Executions.{nothing_called}
use Rattle.rc_driver.proofs.execute.execute.Goals as goal

pub returns-in-Ok : goal.returns-in-Ok
returns-in-Ok g c = ran c.in-Ok.code c.run_loaded.result c.in-Ok.ensures c.run_loaded.ensures

pub returns-in-Err-Refused : goal.returns-in-Err-Refused
returns-in-Err-Refused g c =
    let input = g.S.Source.state c.args.input.now in
    let out = g.O.Sink.state c.args.out.now in
    let heap = g.H.Heap.store c.args.heap.now in
    subst (λ (refusal : ImageRefusal). Executed (as_read c.args.carried) c.args.limits.now input input out out heap heap (Ok (ImageRefused refusal))) (sym c.in-Err-Refused.refusal-is)
    (refused c.in-Err-Refused.refusal (subst (Admitted (as_read c.args.carried)) (c.in-Err-Refused.is ∙ ap Err c.in-Err-Refused.field-0-is) c.admit.ensures) (nothing_called input out heap))

pub returns-in-Err-Memory : goal.returns-in-Err-Memory
returns-in-Err-Memory g c = no_memory (nothing_called (g.S.Source.state c.args.input.now) (g.O.Sink.state c.args.out.now) (g.H.Heap.store c.args.heap.now))
