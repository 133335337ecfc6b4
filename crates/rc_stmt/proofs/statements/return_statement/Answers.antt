use Rattle.std.proofs.Common.{◌≤◌, ◌+◌, Option, refl, sym, ap, ◌∙◌, arith}
use Rattle.rc_syntax.specs.declared.word.Key.TheVariants.{Return}
use Rattle.rc_syntax.specs.declared.tree.Spot.{Spot}
use Rattle.rc_syntax.specs.Tokens.{key}
use Rattle.rc_syntax.specs.Tree as t
use Rattle.rc_syntax.specs.Grammar.{Stmt, ExprEnd}
use Rattle.rc_syntax.specs.reader.Todo.{Todo, build, enter}
use Rattle.rc_syntax.specs.Shape.{stmt_of, mapped}
use Rattle.rc_expr.specs.Goes.{boxed_of}
use Rattle.rc_words.specs.Words.{spot_of}
use Rattle.rc_stmt.proofs.Going.{fails_start, first_word, part, part_refused, ends_plain}
use Rattle.rc_stmt.proofs.Values.{expr_given}
use Rattle.rc_stmt.proofs.statements.return_statement.Goals as goal

abbrev given : Spot → Option t.Expr → Todo Stmt
given sp e = build (t.return_with sp e)

pub returns-in_err-value-clause-reads : goal.returns-in_err-value-clause-reads
returns-in_err-value-clause-reads c =
    let at = c.args.at in
    let sp = spot_of c.args.tokens.now at in
    let le : at ≤ at + 1 = omega arith in
    fails_start c.from_residual.ensures.1
    (first_word (at + 1) (key Return) (enter ExprEnd (given sp)) c.requires.shallow c.requires.here refl refl refl
    (part_refused ExprEnd (at + 1) (given sp) (λ e. mapped boxed_of e) _ c.in_err-value.ensures.reads le))

pub returns-clause-reads : goal.returns-clause-reads
returns-clause-reads c =
    let at = c.args.at in
    let sp = spot_of c.args.tokens.now at in
    let value = c.in_ok-value.value in
    let end = c.in_ok-value.end in
    let past = c.in_ok-value.ensures.place in
    let le : at ≤ at + 1 = omega arith in
    let le2 : at ≤ end = omega (arith, past) in
    first_word (at + 1) (key Return) (enter ExprEnd (given sp)) c.requires.shallow c.requires.here refl refl refl
    (part ExprEnd (at + 1) end (given sp) (λ e. mapped boxed_of e) value c.in_ok-value.ensures.reads le
    (ends_plain end _ (t.return_with sp (mapped boxed_of value)) (ap (λ s. t.return_with s (mapped boxed_of value)) (sym c.spot_at.ensures) ∙ ap (t.return_with c.spot_at.result) (sym (expr_given value c.unboxed.result c.unboxed.ensures)) ∙ sym (ap stmt_of c.in_ok-whole.ensures.ok)) le2 (λ p. refl)))
