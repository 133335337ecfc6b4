use Rattle.std.proofs.Common.{◌≡◌, take, ap, sym, ◌∙◌, arith}
use Rattle.std.specs.List.{prefix_len}
use Rattle.rc_syntax.specs.Bytes.{is_hexadecimal}
use Rattle.rc_lexer.proofs.Escapes.{hexadecimal_is, hexadecimal_none}
use Rattle.rc_lexer.proofs.literal.hexadecimal_at.Goals as goal

pub overflow_cast-result : goal.overflow_cast-result
overflow_cast-result c =
    let bytes = c.args.bytes.now in
    let e : c.run_len-n.result ≡ prefix_len is_hexadecimal (take 3 bytes) = c.run_len-n.ensures.value ∙ ap (prefix_len is_hexadecimal) c.first_three.ensures in
    let x = hexadecimal_is bytes c.run_len-n.result c.in-Some.value e c.if-n-eq0.false c.if-n-eq3.false (sym c.value_at.ensures ∙ c.in-Some.is) in
    omega (arith, x.0)

pub returns-in-Some : goal.returns-in-Some
returns-in-Some c =
    let bytes = c.args.bytes.now in
    let e : c.run_len-n.result ≡ prefix_len is_hexadecimal (take 3 bytes) = c.run_len-n.ensures.value ∙ ap (prefix_len is_hexadecimal) c.first_three.ensures in
    let x = hexadecimal_is bytes c.run_len-n.result c.in-Some.value e c.if-n-eq0.false c.if-n-eq3.false (sym c.value_at.ensures ∙ c.in-Some.is) in
    sym x.1

pub returns-in-None : goal.returns-in-None
returns-in-None c =
    let bytes = c.args.bytes.now in
    let e : c.run_len-n.result ≡ prefix_len is_hexadecimal (take 3 bytes) = c.run_len-n.ensures.value ∙ ap (prefix_len is_hexadecimal) c.first_three.ensures in
    absurd (hexadecimal_none bytes c.run_len-n.result e c.if-n-eq3.false (sym c.value_at.ensures ∙ c.in-None.is))
