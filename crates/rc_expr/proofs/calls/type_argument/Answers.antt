use Rattle.std.proofs.Common.{◌≤◌, ◌+◌, refl, ◌∙◌, arith}
use Rattle.rc_syntax.specs.declared.word.Mark.TheVariants as m
use Rattle.rc_syntax.specs.Tokens.{mark}
use Rattle.rc_syntax.specs.Tree as t
use Rattle.rc_syntax.specs.Grammar.{TypeName, Unary}
use Rattle.rc_syntax.specs.reader.Todo.{Todo, build, read, sees, enter}
use Rattle.rc_syntax.specs.reader.Reading.{is_close, is_comma}
use Rattle.rc_syntax.specs.Shape.{type_of}
use Rattle.rc_words.specs.Words.{spot_of, from}
use Rattle.rc_expr.specs.Goes.{inside}
use Rattle.rc_expr.proofs.Running.{passes, around, deeper_around, expected, expected_fault, part, enters}
use Rattle.rc_expr.proofs.Tests.{comma_else, close_else, quiet_plain}
use Rattle.rc_expr.proofs.calls.type_argument.Goals as goal

abbrev behind_type : (t.TypeName → t.Expr) → t.TypeName → Todo Unary
behind_type f = λ ty. read (sees is_close (build (f ty)))

pub returns-in_err-inside-clause-reads : goal.returns-in_err-inside-clause-reads
returns-in_err-inside-clause-reads c = λ f root round k a.
    let ts = c.args.tokens.now in
    let shallow = c.requires.shallow in
    let past = c.requires.behind in
    let d : c.args.depth + 1 ≤ 200 = omega (arith, shallow) in
    let le : c.args.at ≤ c.args.place = omega (arith, past) in
    passes round ts _ _ _ _ _ c.from_residual.ensures.1 refl
    (expected_fault c.args.place is_comma (enter TypeName (behind_type f)) (mark m.Comma) _ (around a) d le c.in_err-inside.ensures refl (λ n. refl) comma_else)

pub returns-in_err-type_name-clause-reads : goal.returns-in_err-type_name-clause-reads
returns-in_err-type_name-clause-reads c = λ f root round k a.
    let ts = c.args.tokens.now in
    let inner = c.in_ok-inside.inside in
    let here = c.in_ok-inside.ensures in
    let shallow = c.requires.shallow in
    let past = c.requires.behind in
    let d : c.args.depth + 1 ≤ 200 = omega (arith, shallow) in
    let le : c.args.at ≤ c.args.place = omega (arith, past) in
    let next = here.2 in
    let le2 : c.args.at ≤ inner = omega (arith, past, next) in
    passes round ts _ _ _ _ _ c.from_residual-in_err-type_name.ensures.1
    (expected c.args.place inner is_comma (enter TypeName (behind_type f)) (mark m.Comma) (around a) d le here refl (λ n. refl)
    ∙ enters round ts c.args.at inner TypeName (behind_type f) k)
    (c.in_err-type_name.ensures.reads root round (inside ts c.args.at inner (behind_type f) k) (deeper_around (c.args.depth + 1) inner (behind_type f) (λ n. refl) (around a) refl le2))

pub returns-in_err-end-clause-reads : goal.returns-in_err-end-clause-reads
returns-in_err-end-clause-reads c = λ f root round k a.
    let ts = c.args.tokens.now in
    let inner = c.in_ok-inside.inside in
    let here = c.in_ok-inside.ensures in
    let ty = type_of c.in_ok-type_name.type_name in
    let behind = c.in_ok-type_name.behind in
    let shallow = c.requires.shallow in
    let past = c.requires.behind in
    let d : c.args.depth + 1 ≤ 200 = omega (arith, shallow) in
    let le : c.args.at ≤ c.args.place = omega (arith, past) in
    let next = here.2 in
    let le2 : c.args.at ≤ inner = omega (arith, past, next) in
    let past2 = c.in_ok-type_name.ensures.place in
    let le3 : inner ≤ behind = omega (arith, past2) in
    let le4 : c.args.at ≤ behind = omega (arith, past, next, past2) in
    passes round ts _ _ _ _ _ c.from_residual-in_err-end.ensures.1
    (expected c.args.place inner is_comma (enter TypeName (behind_type f)) (mark m.Comma) (around a) d le here refl (λ n. refl)
    ∙ part TypeName round ts c.args.at inner behind (behind_type f) k ty le2 le3
    (c.in_ok-type_name.ensures.reads root round (inside ts c.args.at inner (behind_type f) k) (deeper_around (c.args.depth + 1) inner (behind_type f) (λ n. refl) (around a) refl le2))
    (quiet_plain TypeName (spot_of ts inner) ty (from ts behind) (λ p. refl)))
    (expected_fault behind is_close (build (f ty)) (mark m.CloseParenthesis) _ (around a) d le4 c.in_err-end.ensures refl (λ n. refl) close_else)

pub returns-clause-reads : goal.returns-clause-reads
returns-clause-reads c = λ f root round k a.
    let ts = c.args.tokens.now in
    let inner = c.in_ok-inside.inside in
    let here = c.in_ok-inside.ensures in
    let ty = type_of c.in_ok-type_name.type_name in
    let behind = c.in_ok-type_name.behind in
    let shallow = c.requires.shallow in
    let past = c.requires.behind in
    let d : c.args.depth + 1 ≤ 200 = omega (arith, shallow) in
    let le : c.args.at ≤ c.args.place = omega (arith, past) in
    let next = here.2 in
    let le2 : c.args.at ≤ inner = omega (arith, past, next) in
    let past2 = c.in_ok-type_name.ensures.place in
    let le3 : inner ≤ behind = omega (arith, past2) in
    let le4 : c.args.at ≤ behind = omega (arith, past, next, past2) in
    expected c.args.place inner is_comma (enter TypeName (behind_type f)) (mark m.Comma) (around a) d le here refl (λ n. refl)
    ∙ part TypeName round ts c.args.at inner behind (behind_type f) k ty le2 le3
    (c.in_ok-type_name.ensures.reads root round (inside ts c.args.at inner (behind_type f) k) (deeper_around (c.args.depth + 1) inner (behind_type f) (λ n. refl) (around a) refl le2))
    (quiet_plain TypeName (spot_of ts inner) ty (from ts behind) (λ p. refl))
    ∙ expected behind c.in_ok-end.end is_close (build (f ty)) (mark m.CloseParenthesis) (around a) d le4 c.in_ok-end.ensures refl (λ n. refl)
