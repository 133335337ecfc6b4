use Rattle.std.proofs.Common.{◌≤◌, ◌+◌, refl, sym, ap, ◌∙◌, arith}
use Rattle.rc_syntax.specs.Tokens.{mark}
use Rattle.rc_syntax.specs.Tree as t
use Rattle.rc_syntax.specs.Grammar.{Unary, step_of}
use Rattle.rc_syntax.specs.reader.Todo.{build}
use Rattle.rc_syntax.specs.reader.Reading as r
use Rattle.rc_syntax.specs.Shape.{expr_of, simple_of}
use Rattle.rc_expr.specs.Goes.{boxed_of}
use Rattle.rc_words.specs.Words.{spot_of}
use Rattle.rc_stmt.proofs.Going.{fails_first, flat, first_word, part, part_refused, ends_plain}
use Rattle.rc_stmt.proofs.Stated.{step_leads}
use Rattle.rc_stmt.proofs.simples.stepped.Goals as goal

pub returns-in_err-left-clause-reads : goal.returns-in_err-left-clause-reads
returns-in_err-left-clause-reads c =
    let at = c.args.at in
    let op = c.args.op in
    let sp = spot_of c.args.tokens.now at in
    let le : at ≤ at + 1 = omega arith in
    fails_first c.from_residual.ensures.1 (flat (record { none = refl; plain = λ n l. refl })
    (first_word (at + 1) (mark (step_of op)) (r.stepped sp op) c.requires.shallow c.requires.here refl (step_leads op sp) refl
    (part_refused Unary (at + 1) (λ l. build (t.step_before sp op l)) boxed_of _ c.in_err-left.ensures.reads le)))

pub returns-clause-reads : goal.returns-clause-reads
returns-clause-reads c =
    let at = c.args.at in
    let op = c.args.op in
    let sp = spot_of c.args.tokens.now at in
    let left = c.in_ok-left.left in
    let end = c.in_ok-left.end in
    let past = c.in_ok-left.ensures.place in
    let le : at ≤ at + 1 = omega arith in
    let le2 : at ≤ end = omega (arith, past) in
    flat (record { none = refl; plain = λ n l. refl })
    (first_word (at + 1) (mark (step_of op)) (r.stepped sp op) c.requires.shallow c.requires.here refl (step_leads op sp) refl
    (part Unary (at + 1) end (λ l. build (t.step_before sp op l)) boxed_of left c.in_ok-left.ensures.reads le
    (ends_plain end _ (t.step_before sp op (boxed_of left)) (ap (λ s. t.step_before s op (boxed_of left)) (sym c.spot_at.ensures) ∙ ap (λ e. t.step_before c.spot_at.result op (expr_of e)) (sym c.into_inner.ensures) ∙ sym (ap simple_of c.in_ok-step.ensures.ok)) le2 (λ p. refl))))
