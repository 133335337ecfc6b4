use Rattle.std.proofs.Common.{Result, subst}
use Rattle.rc_base.specs.declared.ends.RunFault.{RunFault}
use Rattle.rc_answers.specs.declared.answer.Done.{Done}
use Rattle.rc_outcomes.specs.Runs.{FlushedBehind}
use Rattle.rc_driver.proofs.Flushed.{flushed_script, with_limits}
use Rattle.rc_driver.proofs.script_file.run_text.Goals as goal

pub returns : goal.returns
returns g c =
    let a = g.O.Sink.state c.args.out.now in
    let b = g.O.Sink.state c.script-ended.new.out in
    let end = g.O.Sink.state c.flush_behind.new.out in
    let heap = g.H.Heap.store c.script-ended.new.heap in
    flushed_script c.args.text.now c.args.limits.now a b end heap c.script-ended.result c.flush_behind.result
    (with_limits c.args.text.now c.args.limits.now (g.H.Heap.store c.args.heap.now) (g.H.Heap.store c.limit.new.self) a b heap c.script-ended.result c.limit.ensures (record { put = c.script-ended.ensures.text; left = c.script-ended.ensures.heap }))
    (subst (λ (r : Result Done RunFault). FlushedBehind b end r c.flush_behind.result) c.as_done.ensures c.flush_behind.ensures)
