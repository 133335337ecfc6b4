use Rattle.std.proofs.Common.{◌≡◌, ◌*◌, take, sym, ap, arith}
use Rattle.rc_syntax.specs.Numerals.{value_in}
use Rattle.rc_lexer.proofs.Values.{too_large, value_more}
use Rattle.rc_lexer.proofs.number.value_at.Goals as goal

pub returns-then-value-gt4294967295 : goal.returns-then-value-gt4294967295
returns-then-value-gt4294967295 c =
    let base = c.args.base in
    let digits = c.args.digits.now in
    let i = c.loop-b.b-index in
    let e = value_more base digits i (omega (arith, c.loop-b-test.true)) in
    let f : c.loop-b.value * base ≡ value_in base (take i digits) * base = ap (λ z. z * base) c.loop-b.invariant.value in
    sym (too_large base digits i c.requires.least (omega (arith, e, f, c.digit_value.ensures, c.if-value-gt4294967295.true)))
