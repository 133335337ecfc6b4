use Rattle.std.proofs.Common.{◌≡◌, None, refl, subst}
use Rattle.std.specs.Prelude.{IfOk}
use Rattle.rc_syntax.specs.declared.word.Mark.TheVariants as m
use Rattle.rc_syntax.specs.Tokens.{mark}
use Rattle.rc_expr.specs.Goes.{boxed_of}
use Rattle.rc_words.specs.Words.{spot_of, word_at, Misses}
use Rattle.rc_expr.specs.Goes.{operator_from}
use Rattle.rc_expr.proofs.Tests.{quiet_expression}
use Rattle.rc_stmt.proofs.Going.{from_counted}
use Rattle.rc_stmt.proofs.parts.expression.Goals as goal

pub returns-clause-reads : goal.returns-clause-reads
returns-clause-reads c =
    let ts = c.args.tokens.now in
    from_counted (λ n r. refl) c.expression.ensures.place
    (λ x e. quiet_expression ts x.1 (spot_of ts c.args.at) (boxed_of x.0) (subst (λ r. IfOk r (λ y. (operator_from 0 (word_at ts y.1) ≡ None) × Misses ts y.1 (mark m.Question))) e c.expression.ensures.quiet))
    c.expression.ensures.reads
