use Rattle.std.proofs.Common.{ap, sym, ◌∙◌, ◌+◌, Result, drop, map, arith}
use Rattle.rc_syntax.specs.Shape as tree
use Rattle.rc_core.specs.Shapes as program
use Rattle.rc_deletes.specs.declared.deletes.DeletesFault.{DeletesFault}
use Rattle.rc_deletes.specs.First.{clear, and_then}
use Rattle.rc_deletes.specs.Places as rule
use Rattle.rc_deletes.proofs.Firsts.{stopped, stmts_at, block_is}
use Rattle.rc_deletes.proofs.check.+statements.Goals as goal

pub statement-returns-in-Block-Block : goal.statement-returns-in-Block-Block
statement-returns-in-Block-Block t c =
    c.statements.ensures
    ∙ ap clear (sym (block_is (map program.function_of c.args.functions.now) c.args.deletes c.args.s.now c.args.step.now c.in-Block-Block.field-0-0 c.in-Block-Block.body c.in-Block-Block.steps c.deref.result.now c.deref-in-Block-Block.result.now c.in-Block-Block.is-0 c.in-Block-Block.is-1 c.deref.ensures.value c.deref-in-Block-Block.ensures.value))

pub statements-returns-in_err-statement : goal.statements-returns-in_err-statement
statements-returns-in_err-statement t c =
    let rest = clear (rule.stmts (map program.function_of c.args.functions.now) c.args.deletes (tree.stmts_of (drop (c.loop-i.i + 1) c.args.body.now)) (program.stmts_of (drop (c.loop-i.i + 1) c.args.steps.now))) in
    stopped c.from_residual.result c.in_err-statement.field-0.0 c.from_residual.ensures.1 ∙ sym (c.loop-i.invariant
    ∙ stmts_at (map program.function_of c.args.functions.now) c.args.deletes c.args.body.now c.args.steps.now c.loop-i.i c.index-body-i.result c.index-steps-i.result c.index-body-i.is c.index-steps-i.is (omega arith) (omega arith)
    ∙ ap (λ (w : Result (Unit {0}) DeletesFault). and_then w rest) (sym c.in_err-statement.ensures))

pub statements-loop-i-preserved : goal.statements-loop-i-preserved
statements-loop-i-preserved t c =
    let rest = clear (rule.stmts (map program.function_of c.args.functions.now) c.args.deletes (tree.stmts_of (drop (c.loop-i.i + 1) c.args.body.now)) (program.stmts_of (drop (c.loop-i.i + 1) c.args.steps.now))) in
    c.loop-i.invariant
    ∙ stmts_at (map program.function_of c.args.functions.now) c.args.deletes c.args.body.now c.args.steps.now c.loop-i.i c.index-body-i.result c.index-steps-i.result c.index-body-i.is c.index-steps-i.is (omega arith) (omega arith)
    ∙ ap (λ (w : Result (Unit {0}) DeletesFault). and_then w rest) (sym c.in_ok-statement.ensures)
