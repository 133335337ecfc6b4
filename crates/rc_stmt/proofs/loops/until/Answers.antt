use Rattle.std.proofs.Common.{◌≤◌, refl, sym, ap, ◌∙◌, arith}
use Rattle.rc_syntax.specs.declared.word.Key.TheVariants.{While}
use Rattle.rc_syntax.specs.declared.word.Mark.TheVariants as m
use Rattle.rc_syntax.specs.declared.tree.Spot.{Spot}
use Rattle.rc_syntax.specs.Tokens.{mark, key}
use Rattle.rc_syntax.specs.Tree as t
use Rattle.rc_syntax.specs.Grammar.{Stmt}
use Rattle.rc_syntax.specs.reader.Todo.{Todo, build, read, sees}
use Rattle.rc_syntax.specs.reader.Reading.{is_while, is_semicolon}
use Rattle.rc_stmt.specs.Shapes.{boxed_stmt}
use Rattle.rc_expr.specs.Goes.{boxed_of}
use Rattle.rc_words.specs.Words.{spot_of}
use Rattle.rc_stmt.specs.Along.{conditioned}
use Rattle.rc_stmt.proofs.Going.{fails, word, word_refused, ends_plain}
use Rattle.rc_stmt.proofs.Tests.{semicolon_else, while_else}
use Rattle.rc_stmt.proofs.Stated.{condition_part, condition_refused}
use Rattle.rc_stmt.proofs.loops.until.Goals as goal

abbrev given : Spot → t.Stmt → t.Expr → Todo Stmt
given sp a e = read (sees is_semicolon (build (t.do_while sp a e)))

pub returns-in_err-behind-clause-reads : goal.returns-in_err-behind-clause-reads
returns-in_err-behind-clause-reads c =
    let sp = spot_of c.args.tokens.now c.args.at in
    let body = boxed_stmt c.args.body in
    fails c.from_residual.ensures.1
    (word_refused c.args.place is_while (conditioned (given sp body)) (key While) _ c.in_err-behind.ensures while_else)

pub returns-in_err-test-clause-reads : goal.returns-in_err-test-clause-reads
returns-in_err-test-clause-reads c =
    let sp = spot_of c.args.tokens.now c.args.at in
    let body = boxed_stmt c.args.body in
    let behind = c.in_ok-behind.behind in
    let past = c.requires.behind in
    let le : c.args.at ≤ c.args.place = omega (arith, past) in
    fails c.from_residual-in_err-test.ensures.1
    (word c.args.place behind is_while (conditioned (given sp body)) _ (key While) c.requires.shallow le c.in_ok-behind.ensures refl refl
    (condition_refused (given sp body) (λ e. refl) _ c.in_err-test.ensures.reads))

pub returns-in_err-end-clause-reads : goal.returns-in_err-end-clause-reads
returns-in_err-end-clause-reads c =
    let sp = spot_of c.args.tokens.now c.args.at in
    let body = boxed_stmt c.args.body in
    let behind = c.in_ok-behind.behind in
    let test = c.in_ok-test.test in
    let semicolon = c.in_ok-test.semicolon in
    let past = c.requires.behind in
    let le : c.args.at ≤ c.args.place = omega (arith, past) in
    fails c.from_residual-in_err-end.ensures.1
    (word c.args.place behind is_while (conditioned (given sp body)) _ (key While) c.requires.shallow le c.in_ok-behind.ensures refl refl
    (condition_part (given sp body) (λ e. refl) semicolon test c.in_ok-test.ensures.reads
    (word_refused semicolon is_semicolon (build (t.do_while sp body (boxed_of test))) (mark m.Semicolon) _ c.in_err-end.ensures semicolon_else)))

pub returns-clause-reads : goal.returns-clause-reads
returns-clause-reads c =
    let sp = spot_of c.args.tokens.now c.args.at in
    let body = boxed_stmt c.args.body in
    let behind = c.in_ok-behind.behind in
    let test = c.in_ok-test.test in
    let semicolon = c.in_ok-test.semicolon in
    let end = c.in_ok-end.end in
    let past = c.requires.behind in
    let next = c.in_ok-behind.ensures.1 in
    let past2 = c.in_ok-test.ensures.place in
    let next2 = c.in_ok-end.ensures.1 in
    let le : c.args.at ≤ c.args.place = omega (arith, past) in
    let le2 : c.args.at ≤ semicolon = omega (arith, past, next, past2) in
    let le3 : c.args.at ≤ end = omega (arith, past, next, past2, next2) in
    word c.args.place behind is_while (conditioned (given sp body)) _ (key While) c.requires.shallow le c.in_ok-behind.ensures refl refl
    (condition_part (given sp body) (λ e. refl) semicolon test c.in_ok-test.ensures.reads
    (word semicolon end is_semicolon (build (t.do_while sp body (boxed_of test))) _ (mark m.Semicolon) c.requires.shallow le2 c.in_ok-end.ensures refl refl
    (ends_plain end _ (t.do_while sp body (boxed_of test)) (ap (λ s. t.do_while s body (boxed_of test)) (sym c.spot_at.ensures) ∙ sym c.in_ok-whole.ensures.ok) le3 (λ p. refl))))
