use Rattle.std.proofs.Common.{ap, sym, ◌∙◌, ◌+◌, Result, drop, map, arith}
use Rattle.rc_syntax.specs.Shape as tree
use Rattle.rc_core.specs.Shapes as program
use Rattle.rc_deletes.specs.declared.deletes.DeletesFault.{DeletesFault}
use Rattle.rc_deletes.specs.First.{clear, and_then}
use Rattle.rc_deletes.specs.Places as rule
use Rattle.rc_deletes.proofs.Firsts.{stopped, locals_at}
use Rattle.rc_deletes.proofs.check.locals.Goals as goal

pub returns-in_err-locally : goal.returns-in_err-locally
returns-in_err-locally c =
    let rest = clear (rule.locals (map program.function_of c.args.functions.now) c.args.deletes (map tree.local_of (drop (c.loop-i.i + 1) c.args.locals.now)) (program.stmts_of (drop (c.loop-i.i + 1) c.args.steps.now))) in
    stopped c.from_residual.result c.in_err-locally.field-0.0 c.from_residual.ensures.1 ∙ sym (c.loop-i.invariant
    ∙ locals_at (map program.function_of c.args.functions.now) c.args.deletes c.args.locals.now c.args.steps.now c.loop-i.i c.index-locals-i.result c.index-steps-i.result c.index-locals-i.is c.index-steps-i.is (omega arith) (omega arith)
    ∙ ap (λ (w : Result (Unit {0}) DeletesFault). and_then w rest) (sym c.in_err-locally.ensures))

pub loop-i-preserved : goal.loop-i-preserved
loop-i-preserved c =
    let rest = clear (rule.locals (map program.function_of c.args.functions.now) c.args.deletes (map tree.local_of (drop (c.loop-i.i + 1) c.args.locals.now)) (program.stmts_of (drop (c.loop-i.i + 1) c.args.steps.now))) in
    c.loop-i.invariant
    ∙ locals_at (map program.function_of c.args.functions.now) c.args.deletes c.args.locals.now c.args.steps.now c.loop-i.i c.index-locals-i.result c.index-steps-i.result c.index-locals-i.is c.index-steps-i.is (omega arith) (omega arith)
    ∙ ap (λ (w : Result (Unit {0}) DeletesFault). and_then w rest) (sym c.in_ok-locally.ensures)
