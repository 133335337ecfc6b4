use Rattle.std.proofs.Common.{◌≤◌, ◌+◌, Some, refl, sym, ap, ◌∙◌, arith}
use Rattle.rc_syntax.specs.declared.tree.Spot.{Spot}
use Rattle.rc_syntax.specs.declared.tree.BinaryOp.{BinaryOp}
use Rattle.rc_stmt.specs.declared.simples.Assignment.TheVariants as a
use Rattle.rc_syntax.specs.Tokens.{mark}
use Rattle.rc_syntax.specs.Tree as t
use Rattle.rc_syntax.specs.Grammar.{Level, Simple}
use Rattle.rc_syntax.specs.reader.Todo.{Todo, build, enter}
use Rattle.rc_syntax.specs.reader.Reading as r
use Rattle.rc_syntax.specs.Shape.{expr_of, simple_of}
use Rattle.rc_expr.specs.Goes.{boxed_of}
use Rattle.rc_words.specs.Words.{spot_of}
use Rattle.rc_stmt.proofs.Going.{fails, part, part_refused, ends_plain}
use Rattle.rc_stmt.proofs.Stated.{word_as, assigned_as}
use Rattle.rc_stmt.proofs.simples.assigned.Goals as goal

abbrev plainly : Spot → t.Expr → t.Expr → Todo Simple
plainly sp l e = build (t.assign sp l e)

abbrev updating : Spot → t.Expr → BinaryOp → t.Expr → Todo Simple
updating sp l op e = build (t.update sp op l e)

pub returns-in_err-right-in-Plain-clause-reads : goal.returns-in_err-right-in-Plain-clause-reads
returns-in_err-right-in-Plain-clause-reads c =
    let sp = spot_of c.args.tokens.now c.args.at in
    let left = boxed_of c.args.left in
    let place = c.args.place in
    let here = c.requires.here in
    let past = c.requires.behind in
    let le : c.args.at ≤ place = omega (arith, past) in
    let le2 : c.args.at ≤ place + 1 = omega (arith, past) in
    fails c.from_residual.ensures.1
    (word_as place (place + 1) (λ p. r.assigned sp left p.word) (enter (Level 0) (plainly sp left)) _ (mark here.0) c.requires.shallow le (here.1, refl) (assigned_as sp left here.0 a.Plain (here.2 ∙ ap Some c.in-Plain.is)) refl
    (part_refused (Level 0) (place + 1) (plainly sp left) boxed_of _ c.in_err-right-in-Plain.ensures.reads le2))

pub returns-in_err-right-in-Update-clause-reads : goal.returns-in_err-right-in-Update-clause-reads
returns-in_err-right-in-Update-clause-reads c =
    let sp = spot_of c.args.tokens.now c.args.at in
    let left = boxed_of c.args.left in
    let op = c.in-Update.op in
    let place = c.args.place in
    let here = c.requires.here in
    let past = c.requires.behind in
    let le : c.args.at ≤ place = omega (arith, past) in
    let le2 : c.args.at ≤ place + 1 = omega (arith, past) in
    fails c.from_residual-in_err-right-in-Update.ensures.1
    (word_as place (place + 1) (λ p. r.assigned sp left p.word) (enter (Level 0) (updating sp left op)) _ (mark here.0) c.requires.shallow le (here.1, refl) (assigned_as sp left here.0 (a.Update op) (here.2 ∙ ap Some c.in-Update.is)) refl
    (part_refused (Level 0) (place + 1) (updating sp left op) boxed_of _ c.in_err-right-in-Update.ensures.reads le2))

pub returns-in_ok-whole-in-Plain-clause-reads : goal.returns-in_ok-whole-in-Plain-clause-reads
returns-in_ok-whole-in-Plain-clause-reads c =
    let sp = spot_of c.args.tokens.now c.args.at in
    let left = boxed_of c.args.left in
    let place = c.args.place in
    let right = c.in_ok-right-in-Plain.right in
    let end = c.in_ok-right-in-Plain.end in
    let here = c.requires.here in
    let past = c.requires.behind in
    let past2 = c.in_ok-right-in-Plain.ensures.place in
    let le : c.args.at ≤ place = omega (arith, past) in
    let le2 : c.args.at ≤ place + 1 = omega (arith, past) in
    let le3 : c.args.at ≤ end = omega (arith, past, past2) in
    word_as place (place + 1) (λ p. r.assigned sp left p.word) (enter (Level 0) (plainly sp left)) _ (mark here.0) c.requires.shallow le (here.1, refl) (assigned_as sp left here.0 a.Plain (here.2 ∙ ap Some c.in-Plain.is)) refl
    (part (Level 0) (place + 1) end (plainly sp left) boxed_of right c.in_ok-right-in-Plain.ensures.reads le2
    (ends_plain end _ (t.assign sp left (boxed_of right)) (ap (λ s. t.assign s left (boxed_of right)) (sym c.spot_at-spot.ensures) ∙ sym c.in_ok-whole-in-Plain.ensures.ok) le3 (λ p. refl)))

pub returns-in_ok-whole-in-Update-clause-reads : goal.returns-in_ok-whole-in-Update-clause-reads
returns-in_ok-whole-in-Update-clause-reads c =
    let sp = spot_of c.args.tokens.now c.args.at in
    let left = boxed_of c.args.left in
    let op = c.in-Update.op in
    let place = c.args.place in
    let right = c.in_ok-right-in-Update.right in
    let end = c.in_ok-right-in-Update.end in
    let here = c.requires.here in
    let past = c.requires.behind in
    let past2 = c.in_ok-right-in-Update.ensures.place in
    let le : c.args.at ≤ place = omega (arith, past) in
    let le2 : c.args.at ≤ place + 1 = omega (arith, past) in
    let le3 : c.args.at ≤ end = omega (arith, past, past2) in
    word_as place (place + 1) (λ p. r.assigned sp left p.word) (enter (Level 0) (updating sp left op)) _ (mark here.0) c.requires.shallow le (here.1, refl) (assigned_as sp left here.0 (a.Update op) (here.2 ∙ ap Some c.in-Update.is)) refl
    (part (Level 0) (place + 1) end (updating sp left op) boxed_of right c.in_ok-right-in-Update.ensures.reads le2
    (ends_plain end _ (t.update sp op left (boxed_of right)) (ap (λ s. t.update s op left (boxed_of right)) (sym c.spot_at-spot.ensures) ∙ sym c.in_ok-whole-in-Update.ensures.ok) le3 (λ p. refl)))

pub returns-in_ok-whole-in-Step-clause-reads : goal.returns-in_ok-whole-in-Step-clause-reads
returns-in_ok-whole-in-Step-clause-reads c =
    let sp = spot_of c.args.tokens.now c.args.at in
    let left = boxed_of c.args.left in
    let op = c.in-Step.op in
    let place = c.args.place in
    let here = c.requires.here in
    let past = c.requires.behind in
    let le : c.args.at ≤ place = omega (arith, past) in
    let le2 : c.args.at ≤ place + 1 = omega (arith, past) in
    word_as place (place + 1) (λ p. r.assigned sp left p.word) (build (t.step_after sp op left)) _ (mark here.0) c.requires.shallow le (here.1, refl) (assigned_as sp left here.0 (a.Step op) (here.2 ∙ ap Some c.in-Step.is)) refl
    (ends_plain (place + 1) _ (t.step_after sp op left) (ap (λ s. t.step_after s op left) (sym c.spot_at-spot.ensures) ∙ ap (λ e. t.step_after c.spot_at-spot.result op (expr_of e)) (sym c.into_inner.ensures) ∙ sym (ap simple_of c.in_ok-whole-in-Step.ensures.ok)) le2 (λ p. refl))
