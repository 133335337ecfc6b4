use Rattle.std.proofs.Common.{◌≤◌, ◌+◌, Some, None, refl, arith}
use Rattle.rc_syntax.specs.declared.word.Mark.TheVariants as m
use Rattle.rc_syntax.specs.Tokens.{mark}
use Rattle.rc_syntax.specs.Tree as t
use Rattle.rc_syntax.specs.Grammar.{Simple, SimpleEnd}
use Rattle.rc_syntax.specs.reader.Todo.{Todo, build, read, sees}
use Rattle.rc_syntax.specs.reader.Reading.{is_close}
use Rattle.rc_stmt.specs.Shapes.{boxed_simple}
use Rattle.rc_stmt.proofs.Going.{fails_first, flat, first_word, first_part, first_part_refused, word, word_refused, ends_plain}
use Rattle.rc_expr.proofs.Tests.{close_else}
use Rattle.rc_stmt.proofs.Stated.{simple_end_begins}
use Rattle.rc_stmt.proofs.heads.simple_end.Goals as goal

abbrev given : t.Simple → Todo SimpleEnd
given e = read (sees is_close (build (Some e)))

pub returns-then-is_mark-clause-reads : goal.returns-then-is_mark-clause-reads
returns-then-is_mark-clause-reads c =
    let at = c.args.at in
    let le : at ≤ at + 1 = omega arith in
    flat (record { none = refl; plain = λ n r. refl }) (first_word (at + 1) (mark m.CloseParenthesis) (build None) c.requires.shallow (c.if-is_mark.ensures.yes refl) refl refl refl
    (ends_plain (at + 1) _ None refl le (λ p. refl)))

pub returns-in_err-value-clause-reads : goal.returns-in_err-value-clause-reads
returns-in_err-value-clause-reads c =
    fails_first c.from_residual.ensures.1 (flat (record { none = refl; plain = λ n r. refl })
    (first_part_refused Simple given boxed_simple _ (simple_end_begins c.args.tokens.now c.args.at (c.if-is_mark.ensures.no refl)) c.in_err-value.ensures.reads))

pub returns-in_err-end-clause-reads : goal.returns-in_err-end-clause-reads
returns-in_err-end-clause-reads c =
    let behind = c.in_ok-value.behind in
    let value = c.in_ok-value.value in
    fails_first c.from_residual-in_err-end.ensures.1 (flat (record { none = refl; plain = λ n r. refl })
    (first_part Simple behind given boxed_simple value (simple_end_begins c.args.tokens.now c.args.at (c.if-is_mark.ensures.no refl)) c.in_ok-value.ensures.reads
    (word_refused behind is_close (build (Some (boxed_simple value))) (mark m.CloseParenthesis) _ c.in_err-end.ensures close_else)))

pub returns-clause-reads : goal.returns-clause-reads
returns-clause-reads c =
    let behind = c.in_ok-value.behind in
    let value = c.in_ok-value.value in
    let end = c.in_ok-end.end in
    let past = c.in_ok-value.ensures.place in
    let next = c.in_ok-end.ensures.1 in
    let le : c.args.at ≤ behind = omega (arith, past) in
    let le2 : c.args.at ≤ end = omega (arith, past, next) in
    flat (record { none = refl; plain = λ n r. refl })
    (first_part Simple behind given boxed_simple value (simple_end_begins c.args.tokens.now c.args.at (c.if-is_mark.ensures.no refl)) c.in_ok-value.ensures.reads
    (word behind end is_close (build (Some (boxed_simple value))) _ (mark m.CloseParenthesis) c.requires.shallow le c.in_ok-end.ensures refl refl
    (ends_plain end _ (Some (boxed_simple value)) refl le2 (λ p. refl))))
