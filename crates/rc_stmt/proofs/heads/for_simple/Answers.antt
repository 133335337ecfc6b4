use Rattle.std.proofs.Common.{◌≤◌, refl, sym, ap, ◌∙◌, arith}
use Rattle.rc_syntax.specs.declared.word.Mark.TheVariants as m
use Rattle.rc_syntax.specs.Tokens.{mark}
use Rattle.rc_syntax.specs.Tree as t
use Rattle.rc_syntax.specs.Grammar.{Simple, ForStart}
use Rattle.rc_syntax.specs.reader.Todo.{Todo, build, read, sees}
use Rattle.rc_syntax.specs.reader.Reading.{is_semicolon}
use Rattle.rc_syntax.specs.Shape.{simple_of, start_of}
use Rattle.rc_stmt.specs.Shapes.{boxed_simple}
use Rattle.rc_stmt.proofs.Going.{fails_first, flat, first_part, first_part_refused, word, word_refused, ends_plain}
use Rattle.rc_stmt.proofs.Tests.{semicolon_else}
use Rattle.rc_stmt.proofs.Stated.{start_simple}
use Rattle.rc_stmt.proofs.heads.for_simple.Goals as goal

abbrev given : t.Simple → Todo ForStart
given x = read (sees is_semicolon (build (t.simply x)))

pub returns-in_err-value-clause-reads : goal.returns-in_err-value-clause-reads
returns-in_err-value-clause-reads c =
    fails_first c.from_residual.ensures.1 (flat (record { none = refl; plain = λ n r. refl })
    (first_part_refused Simple given boxed_simple _ (start_simple c.args.tokens.now c.args.at c.requires.untyped c.requires.some) c.in_err-value.ensures.reads))

pub returns-in_err-end-clause-reads : goal.returns-in_err-end-clause-reads
returns-in_err-end-clause-reads c =
    let behind = c.in_ok-value.behind in
    let value = c.in_ok-value.value in
    fails_first c.from_residual-in_err-end.ensures.1 (flat (record { none = refl; plain = λ n r. refl })
    (first_part Simple behind given boxed_simple value (start_simple c.args.tokens.now c.args.at c.requires.untyped c.requires.some) c.in_ok-value.ensures.reads
    (word_refused behind is_semicolon (build (t.simply (boxed_simple value))) (mark m.Semicolon) _ c.in_err-end.ensures semicolon_else)))

pub returns-clause-reads : goal.returns-clause-reads
returns-clause-reads c =
    let behind = c.in_ok-value.behind in
    let value = c.in_ok-value.value in
    let end = c.in_ok-end.end in
    let past = c.in_ok-value.ensures.place in
    let next = c.in_ok-end.ensures.1 in
    let le : c.args.at ≤ behind = omega (arith, past) in
    let le2 : c.args.at ≤ end = omega (arith, past, next) in
    flat (record { none = refl; plain = λ n r. refl })
    (first_part Simple behind given boxed_simple value (start_simple c.args.tokens.now c.args.at c.requires.untyped c.requires.some) c.in_ok-value.ensures.reads
    (word behind end is_semicolon (build (t.simply (boxed_simple value))) _ (mark m.Semicolon) c.requires.shallow le c.in_ok-end.ensures refl refl
    (ends_plain end _ (t.simply (boxed_simple value)) (ap (λ e. t.simply (simple_of e)) (sym c.into_inner.ensures) ∙ sym (ap start_of c.in_ok-start.ensures.ok)) le2 (λ p. refl))))
