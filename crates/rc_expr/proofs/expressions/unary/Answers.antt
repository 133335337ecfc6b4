use Rattle.rc_expr.proofs.Closing.{unary_means}
use Rattle.rc_expr.proofs.Parts.{unary_answers}
use Rattle.rc_expr.proofs.expressions.unary.Goals as goal

pub returns-clause-grammar : goal.returns-clause-grammar
returns-clause-grammar c =
    unary_means c.args.depth c.args.tokens.now c.args.at c.operand.result c.operand.ensures.place
    (unary_answers c.args.depth c.args.at c.args.tokens.now c.operand.result c.operand.ensures.reads c.operand.ensures.quiet)

pub returns-clause-answers : goal.returns-clause-answers
returns-clause-answers c = unary_answers c.args.depth c.args.at c.args.tokens.now c.operand.result c.operand.ensures.reads c.operand.ensures.quiet
