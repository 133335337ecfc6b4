use Rattle.std.proofs.Common.{◌≤◌, ◌+◌, List, Some, None, Option, refl, sym, ap, arith}
use Rattle.rc_syntax.specs.declared.word.Mark.TheVariants as m
use Rattle.rc_syntax.specs.declared.tree.Spot.{Spot}
use Rattle.rc_syntax.specs.declared.tree.Name.{Name}
use Rattle.rc_syntax.specs.declared.tree.Note.{Note}
use Rattle.rc_syntax.specs.Tokens.{mark}
use Rattle.rc_syntax.specs.Tree as t
use Rattle.rc_syntax.specs.Grammar.{LocalDec, Level, LocalDeclarator}
use Rattle.rc_syntax.specs.reader.Todo.{Todo, build, enter}
use Rattle.rc_syntax.specs.reader.Reading.{is_equal}
use Rattle.rc_expr.specs.Goes.{boxed_of}
use Rattle.rc_words.specs.Words.{spot_of}
use Rattle.rc_stmt.proofs.Going.{fails, word, no_word, part, part_refused, ends_plain}
use Rattle.rc_stmt.proofs.Tests.{equal_else}
use Rattle.rc_stmt.proofs.locals.local_named.Goals as goal

abbrev whole : List Note → Name → Option t.Expr → Spot → LocalDeclarator
whole ns x e sp = record { spot = sp; stars = ns; name = x; initial = e }

abbrev given : Spot → List Note → Name → t.Expr → Todo LocalDec
given sp ns x e = build (whole ns x (Some e) sp)

pub returns-then-not-is_mark-clause-reads : goal.returns-then-not-is_mark-clause-reads
returns-then-not-is_mark-clause-reads c =
    let sp = spot_of c.args.tokens.now c.args.at in
    let ns = c.args.stars.items in
    let past = c.requires.behind in
    let le : c.args.at ≤ c.args.place = omega (arith, past) in
    no_word c.args.place is_equal (enter (Level 0) (given sp ns c.args.name)) (build (whole ns c.args.name None sp)) (mark m.Equal) (c.if-not-is_mark.ensures.no refl) equal_else
    (ends_plain c.args.place _ (whole ns c.args.name None sp) (ap (whole ns c.args.name None) (sym c.spot_at-spot.ensures)) le (λ p. refl))

pub returns-in_err-initial-clause-reads : goal.returns-in_err-initial-clause-reads
returns-in_err-initial-clause-reads c =
    let sp = spot_of c.args.tokens.now c.args.at in
    let ns = c.args.stars.items in
    let place = c.args.place in
    let past = c.requires.behind in
    let le : c.args.at ≤ place = omega (arith, past) in
    let le2 : c.args.at ≤ place + 1 = omega (arith, past) in
    fails c.from_residual.ensures.1
    (word place (place + 1) is_equal (enter (Level 0) (given sp ns c.args.name)) (build (whole ns c.args.name None sp)) (mark m.Equal) c.requires.shallow le (c.if-not-is_mark.ensures.yes refl, refl) refl refl
    (part_refused (Level 0) (place + 1) (given sp ns c.args.name) boxed_of _ c.in_err-initial.ensures.reads le2))

pub returns-clause-reads : goal.returns-clause-reads
returns-clause-reads c =
    let sp = spot_of c.args.tokens.now c.args.at in
    let ns = c.args.stars.items in
    let place = c.args.place in
    let end = c.in_ok-initial.end in
    let initial = c.in_ok-initial.initial in
    let past = c.requires.behind in
    let past2 = c.in_ok-initial.ensures.place in
    let le : c.args.at ≤ place = omega (arith, past) in
    let le2 : c.args.at ≤ place + 1 = omega (arith, past) in
    let le3 : c.args.at ≤ end = omega (arith, past, past2) in
    word place (place + 1) is_equal (enter (Level 0) (given sp ns c.args.name)) (build (whole ns c.args.name None sp)) (mark m.Equal) c.requires.shallow le (c.if-not-is_mark.ensures.yes refl, refl) refl refl
    (part (Level 0) (place + 1) end (given sp ns c.args.name) boxed_of initial c.in_ok-initial.ensures.reads le2
    (ends_plain end _ (whole ns c.args.name (Some (boxed_of initial)) sp) (ap (whole ns c.args.name (Some (boxed_of initial))) (sym c.spot_at-spot.ensures)) le3 (λ p. refl)))
