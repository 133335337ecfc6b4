use Rattle.std.proofs.Common.{◌≤◌, ◌+◌, refl, sym, ap, arith}
use Rattle.rc_syntax.specs.declared.word.Mark.TheVariants as m
use Rattle.rc_syntax.specs.Tokens.{mark}
use Rattle.rc_syntax.specs.Tree as t
use Rattle.rc_syntax.specs.reader.Todo.{build}
use Rattle.rc_syntax.specs.Shape.{start_of}
use Rattle.rc_stmt.proofs.Going.{flat, first_word, ends_plain}
use Rattle.rc_stmt.proofs.heads.for_start.Goals as goal

pub returns-then-is_mark-clause-reads : goal.returns-then-is_mark-clause-reads
returns-then-is_mark-clause-reads c =
    let at = c.args.at in
    let le : at ≤ at + 1 = omega arith in
    flat (record { none = refl; plain = λ n r. refl }) (first_word (at + 1) (mark m.Semicolon) (build t.nothing) c.requires.shallow (c.if-is_mark.ensures.yes refl) refl refl refl
    (ends_plain (at + 1) _ t.nothing (sym (ap start_of c.in_ok-start.ensures.ok)) le (λ p. refl)))
