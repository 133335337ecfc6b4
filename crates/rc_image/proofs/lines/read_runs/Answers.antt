use Rattle.std.proofs.Common.{◌≡◌, ◌-◌, None, arith}
use Rattle.std.proofs.lemmas.Result.{err_from_is_err_and}
use Rattle.rc_image.specs.Reading.{runs_at}
use Rattle.rc_image.proofs.Runs.{runs_go_on, runs_end, runs_are_done}
use Rattle.rc_image.proofs.lines.read_runs.Goals as goal

pub returns-in_err-run : goal.returns-in_err-run
returns-in_err-run c =
    let p = err_from_is_err_and c.from_residual.result c.from_residual.ensures.1 in
    rw (p.1, p.2) (runs_end c.in_err-run.field-0.0 c.loop-done.lines.items c.args.runs c.loop-done.done c.loop-done.left c.loop-done.before c.loop-done.rest.now (runs_at c.args.runs c.args.count None c.args.bytes.now) c.loop-done-test.true c.in_err-run.ensures c.loop-done.invariant)

pub loop-done-preserved : goal.loop-done-preserved
loop-done-preserved c =
    let left_is : c.saturating_sub-left.result ≡ c.loop-done.left - c.in_ok-run.run'.count = omega arith in
    rw (c.in_ok-push_run.ensures, left_is) (runs_go_on c.loop-done.lines.items c.args.runs c.loop-done.done c.loop-done.left c.loop-done.before c.loop-done.rest.now c.in_ok-run.run' c.in_ok-run.after.now (runs_at c.args.runs c.args.count None c.args.bytes.now) c.loop-done-test.true c.in_ok-run.ensures c.loop-done.invariant)

pub returns : goal.returns
returns c = runs_are_done c.loop-done.lines.items c.args.runs c.loop-done.done c.loop-done.left c.loop-done.before c.loop-done.rest.now (runs_at c.args.runs c.args.count None c.args.bytes.now) c.loop-done-test.false c.loop-done.invariant
