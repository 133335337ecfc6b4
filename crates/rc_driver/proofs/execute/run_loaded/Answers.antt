use Rattle.std.proofs.Common.{Result, subst}
use Rattle.rc_base.specs.declared.ends.RunFault.{RunFault}
use Rattle.rc_answers.specs.declared.answer.Done.{Done}
use Rattle.rc_outcomes.specs.Runs.{FlushedBehind}
use Rattle.rc_outcomes.proofs.Flushing.{flushed_run}
use Rattle.rc_outcomes.specs.Outcome.{comes_of}
use Rattle.rc_driver.specs.Executing.{TellsBytes, as_done}
use Rattle.rc_driver.proofs.MachineRuns.{machine_ran}
use Rattle.rc_driver.proofs.execute.run_loaded.Goals as goal

pub returns : goal.returns
returns g c =
    let input = g.S.Source.state c.args.input.now in
    let input' = g.S.Source.state c.run-ended.new.input in
    let a = g.O.Sink.state c.args.out.now in
    let b = g.O.Sink.state c.run-ended.new.out in
    let end = g.O.Sink.state c.flush_behind.new.out in
    let heap = g.H.Heap.store c.run-ended.new.heap in
    flushed_run (TellsBytes input) (comes_of c.args.code.now c.args.limits.now) input input' a b end heap (as_done c.run-ended.result) c.flush_behind.result
    (machine_ran c.args.code.now c.args.limits.now input input' a b heap c.run-ended.result c.run-ended.ensures)
    (subst (λ (r : Result Done RunFault). FlushedBehind b end r c.flush_behind.result) c.as_done.ensures c.flush_behind.ensures)
