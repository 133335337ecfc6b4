use Rattle.std.proofs.Common.{◌∙◌, ℕ, List, Err, ap, subst, sym}
use Rattle.rc_answers.specs.declared.answer.Fault.{Fault}
use Rattle.rc_outcomes.specs.Outside.{outside}
use Rattle.rc_outcomes.specs.Performing.{Performs}
use Rattle.rc_files.specs.Texts.{LoadedText}
use Rattle.rc_driver.specs.Tasking.{RanTasks}
use Rattle.rc_driver.proofs.TasksRan.{tasks_failed, tasks_ran, tasks_too_long}
use Rattle.rc_driver.proofs.tasks.run_tasks.Goals as goal

pub returns-in-Ok : goal.returns-in-Ok
returns-in-Ok g c = λ request err row.
    tasks_ran request c.args.name.now c.args.choices.now c.args.limits row (outside (g.F.Shelf.state c.args.files.now) (g.S.Source.state c.args.input.now) (g.O.Sink.state c.args.out.now) err (g.H.Heap.store c.args.heap.now)) (g.F.Shelf.state c.load_text.new.files) c.in-Ok.text c.in-Ok.ensures c.requires.choices
    (g.S.Source.state c.run_task_text.new.input) (g.O.Sink.state c.run_task_text.new.out) (g.H.Heap.store c.run_task_text.new.heap) c.run_task_text.result
    (subst (λ (text : List ℕ). RanTasks c.args.choices.now text c.args.limits (g.S.Source.state c.args.input.now) (g.S.Source.state c.run_task_text.new.input) (g.O.Sink.state c.args.out.now) (g.O.Sink.state c.run_task_text.new.out) (g.H.Heap.store c.args.heap.now) (g.H.Heap.store c.run_task_text.new.heap) c.run_task_text.result) c.as_slice.ensures c.run_task_text.ensures)

pub returns-in-Err-TooLong : goal.returns-in-Err-TooLong
returns-in-Err-TooLong g c = λ request err row.
    tasks_too_long request c.args.name.now c.args.choices.now c.args.limits row (outside (g.F.Shelf.state c.args.files.now) (g.S.Source.state c.args.input.now) (g.O.Sink.state c.args.out.now) err (g.H.Heap.store c.args.heap.now)) (g.F.Shelf.state c.load_text.new.files)
    (subst (LoadedText c.args.name.now (g.F.Shelf.state c.args.files.now) (g.F.Shelf.state c.load_text.new.files)) (c.in-Err-TooLong.is ∙ ap Err c.in-Err-TooLong.field-0-is) c.load_text.ensures)

pub returns-in-Err-Failed : goal.returns-in-Err-Failed
returns-in-Err-Failed g c = λ request err row.
    subst (λ (fault : Fault). Performs request (outside (g.F.Shelf.state c.args.files.now) (g.S.Source.state c.args.input.now) (g.O.Sink.state c.args.out.now) err (g.H.Heap.store c.args.heap.now)) (outside (g.F.Shelf.state c.load_text.new.files) (g.S.Source.state c.args.input.now) (g.O.Sink.state c.args.out.now) err (g.H.Heap.store c.args.heap.now)) (Err fault)) (sym c.in-Err-Failed.fault-is)
    (tasks_failed request c.args.name.now c.args.choices.now c.args.limits row (outside (g.F.Shelf.state c.args.files.now) (g.S.Source.state c.args.input.now) (g.O.Sink.state c.args.out.now) err (g.H.Heap.store c.args.heap.now)) (g.F.Shelf.state c.load_text.new.files) c.in-Err-Failed.fault
    (subst (LoadedText c.args.name.now (g.F.Shelf.state c.args.files.now) (g.F.Shelf.state c.load_text.new.files)) (c.in-Err-Failed.is ∙ ap Err c.in-Err-Failed.field-0-is) c.load_text.ensures))
