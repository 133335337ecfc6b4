use Rattle.std.proofs.Common.{◌≤◌, ◌+◌, Some, None, refl, arith}
use Rattle.rc_syntax.specs.declared.word.Mark.TheVariants as m
use Rattle.rc_syntax.specs.Tokens.{mark}
use Rattle.rc_syntax.specs.Tree as t
use Rattle.rc_syntax.specs.Grammar.{BodyEnd, Block}
use Rattle.rc_syntax.specs.reader.Todo.{Todo, build}
use Rattle.rc_syntax.specs.Shape.{stmts_of}
use Rattle.rc_stmt.proofs.Going.{fails_first, flat, first_word, first_part, first_part_refused, ends_plain}
use Rattle.rc_parser.proofs.Itemed.{body_begins}
use Rattle.rc_parser.proofs.functions.body_end.Goals as goal

abbrev given : t.Stmts → Todo BodyEnd
given a = build (Some a)

pub returns-then-is_mark-clause-reads : goal.returns-then-is_mark-clause-reads
returns-then-is_mark-clause-reads c =
    let at = c.args.at in
    let le : at ≤ at + 1 = omega arith in
    flat (record { none = refl; plain = λ n r. refl }) (first_word (at + 1) (mark m.Semicolon) (build None) c.requires.shallow (c.if-is_mark.ensures.yes refl) refl refl refl
    (ends_plain (at + 1) _ None refl le (λ p. refl)))

pub returns-in_err-body-clause-reads : goal.returns-in_err-body-clause-reads
returns-in_err-body-clause-reads c =
    fails_first c.from_residual.ensures.1 (flat (record { none = refl; plain = λ n r. refl }) (first_part_refused Block given (λ v. stmts_of v.items) _ (body_begins c.args.tokens.now c.args.at (c.if-is_mark.ensures.no refl)) c.in_err-body.ensures.reads))

pub returns-clause-reads : goal.returns-clause-reads
returns-clause-reads c =
    let end = c.in_ok-body.end in
    let body = c.in_ok-body.body in
    let past = c.in_ok-body.ensures.place in
    let le : c.args.at ≤ end = omega (arith, past) in
    flat (record { none = refl; plain = λ n r. refl }) (first_part Block end given (λ v. stmts_of v.items) body (body_begins c.args.tokens.now c.args.at (c.if-is_mark.ensures.no refl)) c.in_ok-body.ensures.reads
    (ends_plain end _ (Some (stmts_of body.items)) refl le (λ p. refl)))
