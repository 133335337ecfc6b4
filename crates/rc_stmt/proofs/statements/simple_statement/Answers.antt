use Rattle.std.proofs.Common.{◌≤◌, refl, sym, ap, ◌∙◌, arith}
use Rattle.rc_syntax.specs.declared.word.Mark.TheVariants as m
use Rattle.rc_syntax.specs.declared.tree.Spot.{Spot}
use Rattle.rc_syntax.specs.Tokens.{mark}
use Rattle.rc_syntax.specs.Tree as t
use Rattle.rc_syntax.specs.Grammar.{Simple, Stmt}
use Rattle.rc_syntax.specs.reader.Todo.{Todo, build, read, sees}
use Rattle.rc_syntax.specs.reader.Reading.{is_semicolon}
use Rattle.rc_syntax.specs.Shape.{simple_of, stmt_of}
use Rattle.rc_stmt.specs.Shapes.{boxed_simple}
use Rattle.rc_words.specs.Words.{spot_of}
use Rattle.rc_stmt.proofs.Going.{fails_start, word, word_refused, ends_plain}
use Rattle.rc_stmt.proofs.Tests.{semicolon_else}
use Rattle.rc_stmt.proofs.Stated.{first_part_at, first_part_refused_at, stmt_simple}
use Rattle.rc_stmt.proofs.statements.simple_statement.Goals as goal

abbrev given : Spot → t.Simple → Todo Stmt
given sp x = read (sees is_semicolon (build (t.simple sp x)))

pub returns-in_err-value-clause-reads : goal.returns-in_err-value-clause-reads
returns-in_err-value-clause-reads c =
    fails_start c.from_residual.ensures.1
    (first_part_refused_at Simple given boxed_simple _ (stmt_simple c.args.tokens.now c.args.at c.requires.other) c.in_err-value.ensures.reads)

pub returns-in_err-end-clause-reads : goal.returns-in_err-end-clause-reads
returns-in_err-end-clause-reads c =
    let sp = spot_of c.args.tokens.now c.args.at in
    let behind = c.in_ok-value.behind in
    let value = c.in_ok-value.value in
    fails_start c.from_residual-in_err-end.ensures.1
    (first_part_at Simple behind given boxed_simple value (stmt_simple c.args.tokens.now c.args.at c.requires.other) c.in_ok-value.ensures.reads
    (word_refused behind is_semicolon (build (t.simple sp (boxed_simple value))) (mark m.Semicolon) _ c.in_err-end.ensures semicolon_else))

pub returns-clause-reads : goal.returns-clause-reads
returns-clause-reads c =
    let sp = spot_of c.args.tokens.now c.args.at in
    let behind = c.in_ok-value.behind in
    let value = c.in_ok-value.value in
    let end = c.in_ok-end.end in
    let past = c.in_ok-value.ensures.place in
    let next = c.in_ok-end.ensures.1 in
    let le : c.args.at ≤ behind = omega (arith, past) in
    let le2 : c.args.at ≤ end = omega (arith, past, next) in
    first_part_at Simple behind given boxed_simple value (stmt_simple c.args.tokens.now c.args.at c.requires.other) c.in_ok-value.ensures.reads
    (word behind end is_semicolon (build (t.simple sp (boxed_simple value))) _ (mark m.Semicolon) c.requires.shallow le c.in_ok-end.ensures refl refl
    (ends_plain end _ (t.simple sp (boxed_simple value)) (ap (λ s. t.simple s (boxed_simple value)) (sym c.spot_at.ensures) ∙ ap (λ e. t.simple c.spot_at.result (simple_of e)) (sym c.into_inner.ensures) ∙ sym (ap stmt_of c.in_ok-whole.ensures.ok)) le2 (λ p. refl)))
