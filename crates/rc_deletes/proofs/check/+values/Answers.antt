use Rattle.std.proofs.Common.{ap, sym, ◌∙◌, ◌+◌, Result, drop, map, arith}
use Rattle.rc_core.specs.Shapes as program
use Rattle.rc_deletes.specs.declared.deletes.DeletesFault.{DeletesFault}
use Rattle.rc_deletes.specs.First.{clear, and_then}
use Rattle.rc_deletes.specs.Places as rule
use Rattle.rc_deletes.proofs.Firsts.{stopped, path_at}
use Rattle.rc_deletes.proofs.check.+values.Goals as goal

pub within_path-returns-in_err-within_step : goal.within_path-returns-in_err-within_step
within_path-returns-in_err-within_step t c =
    let rest = clear (rule.within_path (map program.function_of c.args.functions.now) c.args.deletes (program.path_of (drop (c.loop-step.step-index + 1) c.args.path.now))) in
    stopped c.from_residual.result c.in_err-within_step.field-0.0 c.from_residual.ensures.1 ∙ sym (c.loop-step.invariant
    ∙ path_at (map program.function_of c.args.functions.now) c.args.deletes c.args.path.now c.loop-step.step-index c.step-item.result c.step-item.is (omega arith)
    ∙ ap (λ (w : Result (Unit {0}) DeletesFault). and_then w rest) (sym c.in_err-within_step.ensures))

pub within_path-loop-step-preserved : goal.within_path-loop-step-preserved
within_path-loop-step-preserved t c =
    let rest = clear (rule.within_path (map program.function_of c.args.functions.now) c.args.deletes (program.path_of (drop (c.loop-step.step-index + 1) c.args.path.now))) in
    c.loop-step.invariant
    ∙ path_at (map program.function_of c.args.functions.now) c.args.deletes c.args.path.now c.loop-step.step-index c.step-item.result c.step-item.is (omega arith)
    ∙ ap (λ (w : Result (Unit {0}) DeletesFault). and_then w rest) (sym c.in_ok-within_step.ensures)
