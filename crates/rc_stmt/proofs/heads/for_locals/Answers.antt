use Rattle.std.proofs.Common.{◌≤◌, map, refl, sym, ap, arith}
use Rattle.rc_syntax.specs.Tree as t
use Rattle.rc_syntax.specs.Grammar.{TreeOf, Locals, ForStart}
use Rattle.rc_syntax.specs.reader.Todo.{Todo, build}
use Rattle.rc_syntax.specs.Shape.{local_of, start_of}
use Rattle.rc_stmt.proofs.Going.{fails_first, flat, first_part, first_part_refused, ends_plain}
use Rattle.rc_stmt.proofs.Stated.{start_locals}
use Rattle.rc_stmt.proofs.heads.for_locals.Goals as goal

abbrev given : TreeOf Locals → Todo ForStart
given ls = build (t.locals ls)

pub returns-in_err-locals-clause-reads : goal.returns-in_err-locals-clause-reads
returns-in_err-locals-clause-reads c =
    fails_first c.from_residual.ensures.1 (flat (record { none = refl; plain = λ n r. refl })
    (first_part_refused Locals given (λ v. map local_of v.items) _ (start_locals c.args.tokens.now c.args.at c.requires.typed) c.in_err-locals.ensures.reads))

pub returns-clause-reads : goal.returns-clause-reads
returns-clause-reads c =
    let locals = c.in_ok-locals.locals in
    let end = c.in_ok-locals.end in
    let past = c.in_ok-locals.ensures.place in
    let le : c.args.at ≤ end = omega (arith, past) in
    flat (record { none = refl; plain = λ n r. refl })
    (first_part Locals end given (λ v. map local_of v.items) locals (start_locals c.args.tokens.now c.args.at c.requires.typed) c.in_ok-locals.ensures.reads
    (ends_plain end _ (t.locals (map local_of locals.items)) (sym (ap start_of c.in_ok-start.ensures.ok)) le (λ p. refl)))
