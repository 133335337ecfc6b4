use Rattle.std.proofs.Common.{◌≤◌, ◌+◌, refl, arith}
use Rattle.rc_syntax.specs.declared.word.Mark.TheVariants as m
use Rattle.rc_syntax.specs.Tokens.{mark}
use Rattle.rc_syntax.specs.reader.Reading.{is_close, cast_to}
use Rattle.rc_words.specs.Words.{spot_of}
use Rattle.rc_expr.proofs.Running.{passes, around, expected, expected_fault}
use Rattle.rc_expr.proofs.Tests.{close_else}
use Rattle.rc_expr.proofs.casts.cast_end.Goals as goal

pub returns-in_err-end-clause-reads : goal.returns-in_err-end-clause-reads
returns-in_err-end-clause-reads c = λ root round k a.
    let ts = c.args.tokens.now in
    let shallow = c.requires.shallow in
    let past = c.requires.behind in
    let d : c.args.depth + 1 ≤ 200 = omega (arith, shallow) in
    let le : c.args.at ≤ c.args.place = omega (arith, past) in
    passes round ts _ _ _ _ _ c.from_residual.ensures.1 refl
    (expected_fault c.args.place is_close (cast_to (spot_of ts c.args.at) c.args.to) (mark m.CloseParenthesis) _ (around a) d le c.in_err-end.ensures refl (λ n. refl) close_else)

pub returns-clause-reads : goal.returns-clause-reads
returns-clause-reads c = λ root round k a.
    let ts = c.args.tokens.now in
    let shallow = c.requires.shallow in
    let past = c.requires.behind in
    let d : c.args.depth + 1 ≤ 200 = omega (arith, shallow) in
    let le : c.args.at ≤ c.args.place = omega (arith, past) in
    expected c.args.place c.in_ok-end.end is_close (cast_to (spot_of ts c.args.at) c.args.to) (mark m.CloseParenthesis) (around a) d le c.in_ok-end.ensures refl (λ n. refl)
