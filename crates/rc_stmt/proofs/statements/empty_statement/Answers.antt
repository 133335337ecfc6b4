use Rattle.std.proofs.Common.{◌≤◌, ◌+◌, refl, sym, ap, ◌∙◌, arith}
use Rattle.rc_syntax.specs.declared.word.Mark.TheVariants as m
use Rattle.rc_syntax.specs.Tokens.{mark}
use Rattle.rc_syntax.specs.Tree as t
use Rattle.rc_syntax.specs.Shape.{stmt_of}
use Rattle.rc_syntax.specs.reader.Todo.{build}
use Rattle.rc_words.specs.Words.{spot_of}
use Rattle.rc_stmt.proofs.Going.{first_word, ends_plain}
use Rattle.rc_stmt.proofs.statements.empty_statement.Goals as goal

pub returns-clause-reads : goal.returns-clause-reads
returns-clause-reads c =
    let at = c.args.at in
    let sp = spot_of c.args.tokens.now at in
    let le : at ≤ at + 1 = omega arith in
    first_word (at + 1) (mark m.Semicolon) (build (t.empty sp)) c.requires.shallow c.requires.here refl refl refl
    (ends_plain (at + 1) _ (t.empty sp) (ap t.empty (sym c.spot_at.ensures) ∙ sym (ap stmt_of c.in_ok-whole.ensures.ok)) le (λ p. refl))
