use Rattle.std.proofs.Common.{refl}
use Rattle.rc_syntax.specs.Grammar.{Base}
use Rattle.rc_words.specs.Words.{from, spot_of}
use Rattle.rc_expr.proofs.Tests.{quiet_plain}
use Rattle.rc_stmt.proofs.Going.{from_anywhere}
use Rattle.rc_stmt.proofs.parts.base.Goals as goal

pub returns-clause-reads : goal.returns-clause-reads
returns-clause-reads c =
    let ts = c.args.tokens.now in
    let at = c.args.at in
    from_anywhere (record { none = refl; plain = λ n r. refl }) c.requires.few c.base.ensures.place
    (λ x e. quiet_plain Base (spot_of ts at) x.0 (from ts x.1) (λ p. refl)) c.base.ensures.reads
