use Rattle.std.proofs.Common.{◌≡◌, ◌≤◌, None, refl, sym, ap, ◌∙◌, arith, rules}
use Rattle.rc_syntax.specs.Tree as t
use Rattle.rc_syntax.specs.Grammar.{Unary}
use Rattle.rc_syntax.specs.reader.Reading as r
use Rattle.rc_syntax.specs.Shape.{expr_of, simple_of}
use Rattle.rc_expr.specs.Goes.{boxed_of}
use Rattle.rc_words.specs.Words.{word_at}
use Rattle.rc_stmt.specs.Along.{assignment_at}
use Rattle.rc_stmt.proofs.Going.{fails_first, flat, ends_plain}
use Rattle.rc_stmt.proofs.Stated.{first_part_at, first_part_refused_at, simple_begins, unary_read, evaluated_part, evaluated_refused}
use Rattle.rc_stmt.proofs.simples.unstepped.Goals as goal

pub returns-in_err-left-clause-reads : goal.returns-in_err-left-clause-reads
returns-in_err-left-clause-reads c =
    let ts = c.args.tokens.now in
    fails_first c.from_residual.ensures.1 (flat (record { none = refl; plain = λ n l. refl })
    (first_part_refused_at Unary r.left_side boxed_of _ (simple_begins ts c.args.at c.requires.not_up c.requires.not_down)
    (unary_read tt tt c.in_err-left.ensures.reads)))

pub returns-in_err-value-clause-reads : goal.returns-in_err-value-clause-reads
returns-in_err-value-clause-reads c =
    let ts = c.args.tokens.now in
    let at = c.args.at in
    let left = c.in_ok-left.left in
    let place = c.in_ok-left.place in
    let past = c.in_ok-left.ensures.place in
    let le : at ≤ place = omega (arith, past) in
    let none : assignment_at (word_at ts place) ≡ None = first_of (cc, search rules) in
    fails_first c.from_residual-in_err-value.ensures.1 (flat (record { none = refl; plain = λ n l. refl })
    (first_part_at Unary place r.left_side boxed_of left (simple_begins ts at c.requires.not_up c.requires.not_down)
    (unary_read c.in_ok-left.ensures.place c.in_ok-left.ensures.quiet c.in_ok-left.ensures.reads)
    (evaluated_refused place left le c.in_ok-left.ensures.reads c.in_ok-left.ensures.quiet none _ c.in_err-value.ensures.reads)))

pub returns-in_default-clause-reads : goal.returns-in_default-clause-reads
returns-in_default-clause-reads c =
    let ts = c.args.tokens.now in
    let at = c.args.at in
    let left = c.in_ok-left.left in
    let place = c.in_ok-left.place in
    let value = c.in_ok-value.value in
    let end = c.in_ok-value.end in
    let past = c.in_ok-left.ensures.place in
    let past2 = c.in_ok-value.ensures.place in
    let le : at ≤ place = omega (arith, past) in
    let le2 : at ≤ end = omega (arith, past2) in
    let none : assignment_at (word_at ts place) ≡ None = first_of (cc, search rules) in
    flat (record { none = refl; plain = λ n l. refl })
    (first_part_at Unary place r.left_side boxed_of left (simple_begins ts at c.requires.not_up c.requires.not_down)
    (unary_read c.in_ok-left.ensures.place c.in_ok-left.ensures.quiet c.in_ok-left.ensures.reads)
    (evaluated_part place left le c.in_ok-left.ensures.reads c.in_ok-left.ensures.quiet none end value c.in_ok-value.ensures.reads
    (ends_plain end _ (t.expression (boxed_of value)) (ap (λ e. t.expression (expr_of e)) (sym c.into_inner.ensures) ∙ sym (ap simple_of c.in_ok-alone.ensures.ok)) le2 (λ p. refl))))

pub returns-clause-reads : goal.returns-clause-reads
returns-clause-reads c =
    let ts = c.args.tokens.now in
    let at = c.args.at in
    let left = c.in_ok-left.left in
    let place = c.in_ok-left.place in
    flat (record { none = refl; plain = λ n l. refl })
    (first_part_at Unary place r.left_side boxed_of left (simple_begins ts at c.requires.not_up c.requires.not_down)
    (unary_read c.in_ok-left.ensures.place c.in_ok-left.ensures.quiet c.in_ok-left.ensures.reads)
    c.assigned.ensures.reads)
