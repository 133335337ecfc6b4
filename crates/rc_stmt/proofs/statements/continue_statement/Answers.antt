use Rattle.std.proofs.Common.{◌≤◌, ◌+◌, refl, sym, ap, ◌∙◌, arith}
use Rattle.rc_syntax.specs.declared.word.Key.TheVariants.{Continue}
use Rattle.rc_syntax.specs.declared.word.Mark.TheVariants as m
use Rattle.rc_syntax.specs.declared.tree.Spot.{Spot}
use Rattle.rc_syntax.specs.Tokens.{mark, key}
use Rattle.rc_syntax.specs.Tree as t
use Rattle.rc_syntax.specs.Grammar.{Stmt}
use Rattle.rc_syntax.specs.Shape.{stmt_of}
use Rattle.rc_syntax.specs.reader.Todo.{Todo, build, read, sees}
use Rattle.rc_syntax.specs.reader.Reading.{is_semicolon}
use Rattle.rc_words.specs.Words.{spot_of}
use Rattle.rc_stmt.proofs.Going.{fails_start, first_word, word, word_refused, ends_plain}
use Rattle.rc_stmt.proofs.Tests.{semicolon_else}
use Rattle.rc_stmt.proofs.statements.continue_statement.Goals as goal

abbrev given : Spot → Todo Stmt
given sp = build (t.continue_loop sp)

pub returns-in_err-end-clause-reads : goal.returns-in_err-end-clause-reads
returns-in_err-end-clause-reads c =
    let at = c.args.at in
    let sp = spot_of c.args.tokens.now at in
    fails_start c.from_residual.ensures.1
    (first_word (at + 1) (key Continue) (read (sees is_semicolon (given sp))) c.requires.shallow c.requires.here refl refl refl
    (word_refused (at + 1) is_semicolon (given sp) (mark m.Semicolon) _ c.in_err-end.ensures semicolon_else))

pub returns-clause-reads : goal.returns-clause-reads
returns-clause-reads c =
    let at = c.args.at in
    let sp = spot_of c.args.tokens.now at in
    let end = c.in_ok-end.end in
    let next = c.in_ok-end.ensures.1 in
    let le : at ≤ at + 1 = omega arith in
    let le2 : at ≤ end = omega (arith, next) in
    first_word (at + 1) (key Continue) (read (sees is_semicolon (given sp))) c.requires.shallow c.requires.here refl refl refl
    (word (at + 1) end is_semicolon (given sp) _ (mark m.Semicolon) c.requires.shallow le c.in_ok-end.ensures refl refl
    (ends_plain end _ (t.continue_loop sp) (ap t.continue_loop (sym c.spot_at.ensures) ∙ sym (ap stmt_of c.in_ok-whole.ensures.ok)) le2 (λ p. refl)))
