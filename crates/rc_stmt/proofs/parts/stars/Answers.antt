use Rattle.std.proofs.Common.{refl, subst}
use Rattle.std.specs.Prelude.{IfOk}
use Rattle.rc_syntax.specs.declared.word.Mark.TheVariants as m
use Rattle.rc_syntax.specs.Tokens.{mark}
use Rattle.rc_words.specs.Words.{spot_of, Misses}
use Rattle.rc_expr.proofs.Tests.{quiet_stars}
use Rattle.rc_stmt.proofs.Going.{on_from_anywhere}
use Rattle.rc_stmt.proofs.parts.stars.Goals as goal

pub returns-clause-reads : goal.returns-clause-reads
returns-clause-reads c =
    let ts = c.args.tokens.now in
    on_from_anywhere c.requires.few c.stars.ensures.place
    (λ x e. quiet_stars ts x.1 (spot_of ts c.args.at) x.0.items (subst (λ r. IfOk r (λ y. Misses ts y.1 (mark m.Star))) e c.stars.ensures.quiet))
    (record { none = refl; plain = λ n r. refl }) c.stars.ensures.reads
