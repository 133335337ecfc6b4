use Rattle.std.proofs.Common.{◌≤◌, ◌∙◌, map, Ok, Option, Some, ap, subst, sym}
use Rattle.std.specs.Prelude.{string_bytes}
use Rattle.std.proofs.lemmas.List.{length-map}
use Rattle.rc_requests.specs.Asking.{asks, bytes_of}
use Rattle.rc_requests.proofs.Asked.{asked_choices, asked_files}
use Rattle.rc_outcomes.specs.Outside.{outside}
use Rattle.rc_outcomes.specs.Performing.{Performs}
use Rattle.rc_requests.specs.Request.{Request, Run, Slow, Compile, Exec, Listing, Upgrade, Script, Checks, Soak, Tasks, Link, Seal}
use Rattle.rc_requests.specs.declared.request.Request.{Request as Asked}
use Rattle.rc_answers.specs.declared.answer.Done.TheVariants.{Usage}
use Rattle.rc_driver.proofs.EvaluationRows.{slow_row}
use Rattle.rc_driver.proofs.ProgramRows.{compile_row, link_row, run_row, tasks_row}
use Rattle.rc_driver.proofs.Executions.{exec_row}
use Rattle.rc_driver.proofs.Sealings.{seal_row}
use Rattle.rc_files.proofs.ImageFiles.{list_row, upgrade_row}
use Rattle.rc_driver.proofs.ScriptRows.{script_row}
use Rattle.rc_driver.proofs.InspectionRows.{checks_row}
use Rattle.rc_driver.proofs.SoakRows.{soak_row}
use Rattle.rc_outcomes.proofs.Ways.{asks_usage}
use Rattle.rc_driver.proofs.program.perform.Goals as goal

pub returns-in-Some-Run : goal.returns-in-Some-Run
returns-in-Some-Run g c = λ err. subst (λ (request : Option Request). Performs request (outside (g.F.Shelf.state c.args.files.now) (g.S.Source.state c.args.input.now) (g.O.Sink.state c.args.out.now) err (g.H.Heap.store c.args.heap.now)) (outside (g.F.Shelf.state c.run_file.new.files) (g.S.Source.state c.run_file.new.input) (g.O.Sink.state c.run_file.new.out) err (g.H.Heap.store c.run_file.new.heap)) c.run_file.result)
    (ap (λ (r : Asked). Some (asks r)) (sym c.in-Some-Run.field-0-is) ∙ c.in-Some-Run.ensures)
    (c.run_file.ensures (Some (Run c.in-Some-Run.file.now c.in-Some-Run.limits)) err (run_row c.in-Some-Run.file.now c.in-Some-Run.limits))

pub returns-in-Some-Slow : goal.returns-in-Some-Slow
returns-in-Some-Slow g c = λ err. subst (λ (request : Option Request). Performs request (outside (g.F.Shelf.state c.args.files.now) (g.S.Source.state c.args.input.now) (g.O.Sink.state c.args.out.now) err (g.H.Heap.store c.args.heap.now)) (outside (g.F.Shelf.state c.evaluate_file.new.files) (g.S.Source.state c.evaluate_file.new.input) (g.O.Sink.state c.evaluate_file.new.out) err (g.H.Heap.store c.args.heap.now)) c.evaluate_file.result)
    (ap (λ (r : Asked). Some (asks r)) (sym c.in-Some-Slow.field-0-is) ∙ c.in-Some-Slow.ensures)
    (c.evaluate_file.ensures (Some (Slow c.in-Some-Slow.file.now c.in-Some-Slow.limits)) err (g.H.Heap.store c.args.heap.now) (slow_row c.in-Some-Slow.file.now c.in-Some-Slow.limits))

pub returns-in-Some-Compile : goal.returns-in-Some-Compile
returns-in-Some-Compile g c = λ err. subst (λ (request : Option Request). Performs request (outside (g.F.Shelf.state c.args.files.now) (g.S.Source.state c.args.input.now) (g.O.Sink.state c.args.out.now) err (g.H.Heap.store c.args.heap.now)) (outside (g.F.Shelf.state c.compile_file.new.files) (g.S.Source.state c.args.input.now) (g.O.Sink.state c.args.out.now) err (g.H.Heap.store c.args.heap.now)) c.compile_file.result)
    (ap (λ (r : Asked). Some (asks r)) (sym c.in-Some-Compile.field-0-is) ∙ c.in-Some-Compile.ensures)
    (c.compile_file.ensures (Some (Compile c.in-Some-Compile.from.now c.in-Some-Compile.to.now)) (g.S.Source.state c.args.input.now) (g.O.Sink.state c.args.out.now) err (g.H.Heap.store c.args.heap.now) (compile_row c.in-Some-Compile.from.now c.in-Some-Compile.to.now))

pub returns-in-Some-Exec : goal.returns-in-Some-Exec
returns-in-Some-Exec g c = λ err. subst (λ (request : Option Request). Performs request (outside (g.F.Shelf.state c.args.files.now) (g.S.Source.state c.args.input.now) (g.O.Sink.state c.args.out.now) err (g.H.Heap.store c.args.heap.now)) (outside (g.F.Shelf.state c.exec_image.new.files) (g.S.Source.state c.exec_image.new.input) (g.O.Sink.state c.exec_image.new.out) err (g.H.Heap.store c.exec_image.new.heap)) c.exec_image.result)
    (ap (λ (r : Asked). Some (asks r)) (sym c.in-Some-Exec.field-0-is) ∙ c.in-Some-Exec.ensures)
    (c.exec_image.ensures (Some (Exec c.in-Some-Exec.file.now c.in-Some-Exec.limits)) err (exec_row c.in-Some-Exec.file.now c.in-Some-Exec.limits))

pub returns-in-Some-Listing : goal.returns-in-Some-Listing
returns-in-Some-Listing g c = λ err. subst (λ (request : Option Request). Performs request (outside (g.F.Shelf.state c.args.files.now) (g.S.Source.state c.args.input.now) (g.O.Sink.state c.args.out.now) err (g.H.Heap.store c.args.heap.now)) (outside (g.F.Shelf.state c.list_image.new.files) (g.S.Source.state c.args.input.now) (g.O.Sink.state c.list_image.new.out) err (g.H.Heap.store c.args.heap.now)) c.list_image.result)
    (ap (λ (r : Asked). Some (asks r)) (sym c.in-Some-Listing.field-0-is) ∙ c.in-Some-Listing.ensures)
    (c.list_image.ensures (Some (Listing c.in-Some-Listing.file.now)) (g.S.Source.state c.args.input.now) err (g.H.Heap.store c.args.heap.now) (list_row c.in-Some-Listing.file.now))

pub returns-in-Some-Upgrade : goal.returns-in-Some-Upgrade
returns-in-Some-Upgrade g c = λ err. subst (λ (request : Option Request). Performs request (outside (g.F.Shelf.state c.args.files.now) (g.S.Source.state c.args.input.now) (g.O.Sink.state c.args.out.now) err (g.H.Heap.store c.args.heap.now)) (outside (g.F.Shelf.state c.upgrade_image.new.files) (g.S.Source.state c.args.input.now) (g.O.Sink.state c.args.out.now) err (g.H.Heap.store c.args.heap.now)) c.upgrade_image.result)
    (ap (λ (r : Asked). Some (asks r)) (sym c.in-Some-Upgrade.field-0-is) ∙ c.in-Some-Upgrade.ensures)
    (c.upgrade_image.ensures (Some (Upgrade c.in-Some-Upgrade.from.now c.in-Some-Upgrade.to.now)) (g.S.Source.state c.args.input.now) (g.O.Sink.state c.args.out.now) err (g.H.Heap.store c.args.heap.now) (upgrade_row c.in-Some-Upgrade.from.now c.in-Some-Upgrade.to.now))

pub returns-in-Some-Script : goal.returns-in-Some-Script
returns-in-Some-Script g c = λ err. subst (λ (request : Option Request). Performs request (outside (g.F.Shelf.state c.args.files.now) (g.S.Source.state c.args.input.now) (g.O.Sink.state c.args.out.now) err (g.H.Heap.store c.args.heap.now)) (outside (g.F.Shelf.state c.run_script.new.files) (g.S.Source.state c.args.input.now) (g.O.Sink.state c.run_script.new.out) err (g.H.Heap.store c.run_script.new.heap)) c.run_script.result)
    (ap (λ (r : Asked). Some (asks r)) (sym c.in-Some-Script.field-0-is) ∙ c.in-Some-Script.ensures)
    (c.run_script.ensures (Some (Script c.in-Some-Script.file.now c.in-Some-Script.limits)) (g.S.Source.state c.args.input.now) err (script_row c.in-Some-Script.file.now c.in-Some-Script.limits))

pub returns-in-Some-Checks : goal.returns-in-Some-Checks
returns-in-Some-Checks g c = λ err. subst (λ (request : Option Request). Performs request (outside (g.F.Shelf.state c.args.files.now) (g.S.Source.state c.args.input.now) (g.O.Sink.state c.args.out.now) err (g.H.Heap.store c.args.heap.now)) (outside (g.F.Shelf.state c.check_file.new.files) (g.S.Source.state c.args.input.now) (g.O.Sink.state c.check_file.new.out) err (g.H.Heap.store c.args.heap.now)) c.check_file.result)
    (ap (λ (r : Asked). Some (asks r)) (sym c.in-Some-Checks.field-0-is) ∙ c.in-Some-Checks.ensures)
    (c.check_file.ensures (Some (Checks c.in-Some-Checks.file.now)) (g.S.Source.state c.args.input.now) err (g.H.Heap.store c.args.heap.now) (checks_row c.in-Some-Checks.file.now))

pub returns-in-Some-Soak : goal.returns-in-Some-Soak
returns-in-Some-Soak g c = λ err. subst (λ (request : Option Request). Performs request (outside (g.F.Shelf.state c.args.files.now) (g.S.Source.state c.args.input.now) (g.O.Sink.state c.args.out.now) err (g.H.Heap.store c.args.heap.now)) (outside (g.F.Shelf.state c.args.files.now) (g.S.Source.state c.args.input.now) (g.O.Sink.state c.soak_number.new.out) err (g.H.Heap.store c.soak_number.new.heap)) c.soak_number.result)
    (ap (λ (r : Asked). Some (asks r)) (sym c.in-Some-Soak.field-0-is) ∙ c.in-Some-Soak.ensures)
    (c.soak_number.ensures (Some (Soak c.in-Some-Soak.number)) (g.F.Shelf.state c.args.files.now) (g.S.Source.state c.args.input.now) err (soak_row c.in-Some-Soak.number))

pub run_tasks-requires-clause-choices : goal.run_tasks-requires-clause-choices
run_tasks-requires-clause-choices g c =
    asked_choices (map string_bytes c.args.words.now) c.in-Some-Tasks.file.now c.in-Some-Tasks.choices.now c.in-Some-Tasks.limits
    (sym (ap (λ (r : Asked). Some (asks r)) (sym c.in-Some-Tasks.field-0-is) ∙ c.in-Some-Tasks.ensures))

pub returns-in-Some-Tasks : goal.returns-in-Some-Tasks
returns-in-Some-Tasks g c = λ err. subst (λ (request : Option Request). Performs request (outside (g.F.Shelf.state c.args.files.now) (g.S.Source.state c.args.input.now) (g.O.Sink.state c.args.out.now) err (g.H.Heap.store c.args.heap.now)) (outside (g.F.Shelf.state c.run_tasks.new.files) (g.S.Source.state c.run_tasks.new.input) (g.O.Sink.state c.run_tasks.new.out) err (g.H.Heap.store c.run_tasks.new.heap)) c.run_tasks.result)
    (ap (λ (r : Asked). Some (asks r)) (sym c.in-Some-Tasks.field-0-is) ∙ c.in-Some-Tasks.ensures)
    (c.run_tasks.ensures (Some (Tasks c.in-Some-Tasks.file.now c.in-Some-Tasks.choices.now c.in-Some-Tasks.limits)) err (tasks_row c.in-Some-Tasks.file.now c.in-Some-Tasks.choices.now c.in-Some-Tasks.limits))

pub link_files-requires : goal.link_files-requires
link_files-requires g c =
    subst (λ n. n ≤ 16) (length-map c.in-Some-Link.names.now string_bytes)
    (asked_files (map string_bytes c.args.words.now) c.in-Some-Link.to.now (bytes_of c.in-Some-Link.names.now)
    (sym (ap (λ (r : Asked). Some (asks r)) (sym c.in-Some-Link.field-0-is) ∙ c.in-Some-Link.ensures))).1

pub returns-in-Some-Link : goal.returns-in-Some-Link
returns-in-Some-Link g c = λ err. subst (λ (request : Option Request). Performs request (outside (g.F.Shelf.state c.args.files.now) (g.S.Source.state c.args.input.now) (g.O.Sink.state c.args.out.now) err (g.H.Heap.store c.args.heap.now)) (outside (g.F.Shelf.state c.link_files.new.files) (g.S.Source.state c.args.input.now) (g.O.Sink.state c.args.out.now) err (g.H.Heap.store c.args.heap.now)) c.link_files.result)
    (ap (λ (r : Asked). Some (asks r)) (sym c.in-Some-Link.field-0-is) ∙ c.in-Some-Link.ensures)
    (c.link_files.ensures (Some (Link c.in-Some-Link.to.now (bytes_of c.in-Some-Link.names.now))) (g.S.Source.state c.args.input.now) (g.O.Sink.state c.args.out.now) err (g.H.Heap.store c.args.heap.now) (link_row c.in-Some-Link.to.now (bytes_of c.in-Some-Link.names.now)))

pub returns-in-Some-Seal : goal.returns-in-Some-Seal
returns-in-Some-Seal g c = λ err. subst (λ (request : Option Request). Performs request (outside (g.F.Shelf.state c.args.files.now) (g.S.Source.state c.args.input.now) (g.O.Sink.state c.args.out.now) err (g.H.Heap.store c.args.heap.now)) (outside (g.F.Shelf.state c.seal_image.new.files) (g.S.Source.state c.args.input.now) (g.O.Sink.state c.args.out.now) err (g.H.Heap.store c.args.heap.now)) c.seal_image.result)
    (ap (λ (r : Asked). Some (asks r)) (sym c.in-Some-Seal.field-0-is) ∙ c.in-Some-Seal.ensures)
    (c.seal_image.ensures (Some (Seal c.in-Some-Seal.from.now c.in-Some-Seal.to.now)) (g.S.Source.state c.args.input.now) (g.O.Sink.state c.args.out.now) err (g.H.Heap.store c.args.heap.now) (seal_row c.in-Some-Seal.from.now c.in-Some-Seal.to.now))

pub returns-in-None : goal.returns-in-None
returns-in-None g c = λ err. subst (λ (request : Option Request). Performs request (outside (g.F.Shelf.state c.args.files.now) (g.S.Source.state c.args.input.now) (g.O.Sink.state c.args.out.now) err (g.H.Heap.store c.args.heap.now)) (outside (g.F.Shelf.state c.args.files.now) (g.S.Source.state c.args.input.now) (g.O.Sink.state c.args.out.now) err (g.H.Heap.store c.args.heap.now)) (Ok Usage)) c.in-None.ensures (asks_usage (outside (g.F.Shelf.state c.args.files.now) (g.S.Source.state c.args.input.now) (g.O.Sink.state c.args.out.now) err (g.H.Heap.store c.args.heap.now)))
