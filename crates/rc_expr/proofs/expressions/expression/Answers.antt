use Rattle.rc_expr.proofs.Closing.{expression_means}
use Rattle.rc_expr.proofs.Parts.{expression_answers}
use Rattle.rc_expr.proofs.expressions.expression.Goals as goal

pub returns-clause-grammar : goal.returns-clause-grammar
returns-clause-grammar c =
    expression_means c.args.depth c.args.tokens.now c.args.at c.conditional.result c.conditional.ensures.place
    (expression_answers c.args.depth c.args.at c.args.tokens.now c.conditional.result c.conditional.ensures.reads c.conditional.ensures.quiet)

pub returns-clause-answers : goal.returns-clause-answers
returns-clause-answers c = expression_answers c.args.depth c.args.at c.args.tokens.now c.conditional.result c.conditional.ensures.reads c.conditional.ensures.quiet
