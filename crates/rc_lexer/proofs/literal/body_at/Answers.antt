use Rattle.std.proofs.Common.{◌≡◌, ◌<◌, ◌+◌, drop, length, get_or, Some, ap, sym, ◌∙◌, arith}
use Rattle.rc_syntax.specs.reader.Look.{value_next, body_at}
use Rattle.rc_lexer.proofs.Bodies.{prefixed, body_more, next_within, test_not, whole_rest}
use Rattle.rc_lexer.proofs.literal.body_at.Goals as goal

pub overflow_add-at : goal.overflow_add-at
overflow_add-at c =
    let text = c.args.text.now in
    let e : value_next 34 (drop c.loop-at.at text) ≡ Some (c.in-Some.n, c.in-Some.value) = ap (value_next 34) (sym (whole_rest text c.loop-at.at)) ∙ sym c.value_next.ensures ∙ c.in-Some.is in
    let l = next_within text c.loop-at.at c.in-Some.n c.in-Some.value (omega (arith, c.loop-at-test.true)) e in
    omega (arith, l.1)

pub loop-at-preserved : goal.loop-at-preserved
loop-at-preserved c =
    let text = c.args.text.now in
    let at = c.loop-at.at in
    let n = c.in-Some.n in
    let here : at < length text = omega (arith, c.loop-at-test.true) in
    let e : value_next 34 (drop at text) ≡ Some (n, c.in-Some.value) = ap (value_next 34) (sym (whole_rest text c.loop-at.at)) ∙ sym c.value_next.ensures ∙ c.in-Some.is in
    let l = next_within text at n c.in-Some.value here e in
    let m = body_more text c.loop-at.values.items at n c.in-Some.value here (test_not (get_or text at 0) 34 c.if-text-at-eq34.false) e in
    record {
      within = l.1;
      body = c.loop-at.invariant.body ∙ m ∙ ap (λ z. prefixed (at + n) z (body_at 34 0 (drop (at + n) text))) (sym c.in_ok-push-in-Some.ensures.items);
    }
