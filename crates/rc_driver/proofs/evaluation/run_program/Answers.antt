use Rattle.std.proofs.Common.{Result, IsTrue, subst}
use Rattle.rc_base.specs.declared.ends.RunFault.{RunFault}
use Rattle.rc_core.specs.Shapes.{program_of}
use Rattle.rc_answers.specs.declared.answer.Done.{Done}
use Rattle.rc_outcomes.specs.Runs.{FlushedBehind}
use Rattle.rc_outcomes.proofs.Flushing.{flushed_run}
use Rattle.rc_outcomes.specs.Outcome.{unsaid}
use Rattle.rc_files.specs.Programs.{comes_of}
use Rattle.rc_driver.specs.Evaluating.{as_done}
use Rattle.rc_driver.proofs.RunLaws.{done_ends, evaluated, flushed_ends}
use Rattle.rc_driver.proofs.evaluation.run_program.Goals as goal

pub returns : goal.returns
returns g c =
    let program = program_of c.args.program.now in
    let input = g.S.Source.state c.args.input.now in
    let input' = g.S.Source.state c.evaluate-ended.new.input in
    let a = g.O.Sink.state c.args.out.now in
    let b = g.O.Sink.state c.evaluate-ended.new.out in
    let end = g.O.Sink.state c.flush_behind.new.out in
    let flushed = subst (λ (r : Result Done RunFault). FlushedBehind b end r c.flush_behind.result) c.as_done.ensures c.flush_behind.ensures in
    λ heap. record {
      ran = flushed_run (IsTrue input.tells) (comes_of unsaid program c.args.limits) input input' a b end heap (as_done c.evaluate-ended.result) c.flush_behind.result (evaluated program c.args.limits input input' a b heap c.evaluate-ended.result c.evaluate-ended.ensures) flushed;
      ends = flushed_ends b end (as_done c.evaluate-ended.result) c.flush_behind.result flushed (done_ends c.evaluate-ended.result);
    }
