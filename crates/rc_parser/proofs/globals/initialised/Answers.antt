use Rattle.std.proofs.Common.{◌≤◌, ◌+◌, Some, None, refl, arith}
use Rattle.rc_syntax.specs.declared.word.Mark.TheVariants as m
use Rattle.rc_syntax.specs.declared.tree.Constant as constants
use Rattle.rc_syntax.specs.Tokens.{mark}
use Rattle.rc_syntax.specs.Grammar.{Dec, Constant, FieldDeclarator, GlobalDeclarator}
use Rattle.rc_syntax.specs.reader.Todo.{Todo, build, enter}
use Rattle.rc_syntax.specs.reader.Reading.{is_equal}
use Rattle.rc_parser.specs.Shapes.{declarator_of}
use Rattle.rc_stmt.proofs.Going.{fails, word, no_word, part, part_refused, ends_plain}
use Rattle.rc_stmt.proofs.Tests.{equal_else}
use Rattle.rc_parser.proofs.globals.initialised.Goals as goal

abbrev given : FieldDeclarator → constants.Constant → Todo Dec
given d i = build (record { declarator = d; constant = Some i })

abbrev plain : FieldDeclarator → GlobalDeclarator
plain d = record { declarator = d; constant = None }

pub returns-then-not-is_mark-clause-reads : goal.returns-then-not-is_mark-clause-reads
returns-then-not-is_mark-clause-reads c =
    let d = declarator_of c.args.declarator in
    let past = c.requires.behind in
    let le : c.args.at ≤ c.args.place = omega (arith, past) in
    no_word c.args.place is_equal (enter Constant (given d)) (build (plain d)) (mark m.Equal) (c.if-not-is_mark.ensures.no refl) equal_else
    (ends_plain c.args.place _ (plain d) refl le (λ p. refl))

pub returns-in_err-constant-clause-reads : goal.returns-in_err-constant-clause-reads
returns-in_err-constant-clause-reads c =
    let d = declarator_of c.args.declarator in
    let place = c.args.place in
    let past = c.requires.behind in
    let le : c.args.at ≤ place = omega (arith, past) in
    let le2 : c.args.at ≤ place + 1 = omega (arith, past) in
    fails c.from_residual.ensures.1
    (word place (place + 1) is_equal (enter Constant (given d)) (build (plain d)) (mark m.Equal) c.requires.shallow le (c.if-not-is_mark.ensures.yes refl, refl) refl refl
    (part_refused Constant (place + 1) (given d) (λ i. i) _ c.in_err-constant.ensures.reads le2))

pub returns-clause-reads : goal.returns-clause-reads
returns-clause-reads c =
    let d = declarator_of c.args.declarator in
    let place = c.args.place in
    let end = c.in_ok-constant.end in
    let constant = c.in_ok-constant.constant in
    let past = c.requires.behind in
    let past2 = c.in_ok-constant.ensures.place in
    let le : c.args.at ≤ place = omega (arith, past) in
    let le2 : c.args.at ≤ place + 1 = omega (arith, past) in
    let le3 : c.args.at ≤ end = omega (arith, past, past2) in
    let whole : GlobalDeclarator = record { declarator = d; constant = Some constant } in
    word place (place + 1) is_equal (enter Constant (given d)) (build (plain d)) (mark m.Equal) c.requires.shallow le (c.if-not-is_mark.ensures.yes refl, refl) refl refl
    (part Constant (place + 1) end (given d) (λ i. i) constant c.in_ok-constant.ensures.reads le2
    (ends_plain end _ whole refl le3 (λ p. refl)))
