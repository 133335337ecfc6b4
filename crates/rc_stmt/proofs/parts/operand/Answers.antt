use Rattle.std.proofs.Common.{◌≡◌, true, refl, subst}
use Rattle.std.specs.Prelude.{IfOk}
use Rattle.rc_expr.specs.Goes.{boxed_of}
use Rattle.rc_words.specs.Words.{spot_of, word_at}
use Rattle.rc_expr.specs.Goes.{no_postfix}
use Rattle.rc_expr.proofs.Tests.{quiet_unary}
use Rattle.rc_stmt.proofs.Going.{from_counted}
use Rattle.rc_stmt.proofs.parts.operand.Goals as goal

pub returns-clause-reads : goal.returns-clause-reads
returns-clause-reads c =
    let ts = c.args.tokens.now in
    from_counted (λ n r. refl) c.unary.ensures.place
    (λ x e. quiet_unary ts x.1 (spot_of ts c.args.at) (boxed_of x.0) (subst (λ r. IfOk r (λ y. no_postfix (word_at ts y.1) ≡ true)) e c.unary.ensures.quiet))
    c.unary.ensures.reads
