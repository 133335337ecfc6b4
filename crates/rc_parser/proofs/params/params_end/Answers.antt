use Rattle.std.proofs.Common.{◌≤◌, ◌+◌, [], map, refl, sym, ap, arith}
use Rattle.rc_syntax.specs.declared.word.Key.TheVariants.{Void}
use Rattle.rc_syntax.specs.declared.word.Mark.TheVariants as m
use Rattle.rc_syntax.specs.Tokens.{mark, key}
use Rattle.rc_syntax.specs.Grammar.{ParamsEnd}
use Rattle.rc_syntax.specs.reader.Todo.{Todo, build, read, sees}
use Rattle.rc_syntax.specs.reader.Reading.{is_close}
use Rattle.rc_syntax.specs.Shape.{param_of}
use Rattle.rc_expr.proofs.Tests.{close_else}
use Rattle.rc_stmt.proofs.Going.{fails_first, flat, first_word, word, word_refused, ends_plain}
use Rattle.rc_parser.proofs.params.params_end.Goals as goal

abbrev nothing : Todo ParamsEnd
nothing = build []

pub returns-then-is_mark-clause-reads : goal.returns-then-is_mark-clause-reads
returns-then-is_mark-clause-reads c =
    let at = c.args.at in
    let le : at ≤ at + 1 = omega arith in
    flat (record { none = refl; plain = λ n r. refl }) (first_word (at + 1) (mark m.CloseParenthesis) nothing c.requires.shallow (c.if-is_mark.ensures.yes refl) refl refl refl
    (ends_plain (at + 1) _ [] (sym (ap (map param_of) c.new.ensures.items)) le (λ p. refl)))

pub returns-in_err-end-clause-reads : goal.returns-in_err-end-clause-reads
returns-in_err-end-clause-reads c =
    let at = c.args.at in
    fails_first c.from_residual.ensures.1 (flat (record { none = refl; plain = λ n r. refl }) (first_word (at + 1) (key Void) (read (sees is_close nothing)) c.requires.shallow (c.if-is_key.ensures.yes refl) refl refl refl
    (word_refused (at + 1) is_close nothing (mark m.CloseParenthesis) _ c.in_err-end.ensures close_else)))

pub returns-then-is_key-clause-reads : goal.returns-then-is_key-clause-reads
returns-then-is_key-clause-reads c =
    let at = c.args.at in
    let end = c.in_ok-end.end in
    let next = c.in_ok-end.ensures.1 in
    let le : at ≤ at + 1 = omega arith in
    let le2 : at ≤ end = omega (arith, next) in
    flat (record { none = refl; plain = λ n r. refl }) (first_word (at + 1) (key Void) (read (sees is_close nothing)) c.requires.shallow (c.if-is_key.ensures.yes refl) refl refl refl
    (word (at + 1) end is_close nothing _ (mark m.CloseParenthesis) c.requires.shallow le c.in_ok-end.ensures refl refl
    (ends_plain end _ [] (sym (ap (map param_of) c.new-then-is_key.ensures.items)) le2 (λ p. refl))))
