use Rattle.std.proofs.Common.{◌<◌, ◌≤◌, ◌+◌, [], ◌∷◌, ◌++◌, map, refl, ap, ◌∙◌, subst, arith}
use Rattle.std.proofs.lemmas.List.{map-append}
use Rattle.rc_syntax.specs.Grammar.{TreeOf, Params, Param as ParamSymbol}
use Rattle.rc_syntax.specs.reader.Todo.{Todo, build, enter}
use Rattle.rc_words.specs.Words.{spot_of}
use Rattle.rc_syntax.specs.Shape.{param_of}
use Rattle.rc_stmt.specs.Along.{Proceeds}
use Rattle.rc_stmt.proofs.Going.{fails, fails_first, flat, first_part, first_part_refused, comma, part, part_refused, ends}
use Rattle.rc_stmt.proofs.Tests.{quiet_list}
use Rattle.rc_parser.proofs.params.params.Goals as goal

abbrev one : TreeOf ParamSymbol → Todo Params
one d = build (d ∷ [])

abbrev longer : TreeOf Params → TreeOf ParamSymbol → Todo Params
longer ds d = build (ds ++ d ∷ [])

pub returns-in_err-first-clause-reads : goal.returns-in_err-first-clause-reads
returns-in_err-first-clause-reads c =
    fails_first c.from_residual.ensures.1 (flat (record { none = refl; plain = λ n r. refl }) (first_part_refused ParamSymbol one param_of _ (λ p h. refl) c.in_err-first.ensures.reads))

pub loop-alloc-init : goal.loop-alloc-init
loop-alloc-init c =
    let first = c.in_ok-first.first in (
      λ r p.
          flat (record { none = refl; plain = λ n r. refl })
          (first_part ParamSymbol c.in_ok-first.after one param_of first (λ p h. refl) c.in_ok-first.ensures.reads
          (subst (λ l. Proceeds Params c.args.depth c.args.tokens.now c.args.at c.in_ok-first.after (build (map param_of l)) (λ v. map param_of v.items) r)
          (c.in_ok-add.ensures.ok ∙ ap (λ l. l ++ first ∷ []) c.new-params.ensures.items) p)),
      c.in_ok-first.ensures.place.0,
      c.in_ok-first.ensures.place.1,
    )

pub returns-in_err-param-clause-reads : goal.returns-in_err-param-clause-reads
returns-in_err-param-clause-reads c =
    let place = c.loop-alloc.place in
    let ds = map param_of c.loop-alloc.params.items in
    let past = c.loop-alloc.invariant.1 in
    let le : c.args.at ≤ place = omega (arith, past) in
    let le2 : c.args.at ≤ place + 1 = omega (arith, past) in
    c.loop-alloc.invariant.0 _ (fails c.from_residual-in_err-param.ensures.1
    (comma place ds (enter ParamSymbol (longer ds)) c.requires.shallow le (c.loop-alloc-test.ensures.yes refl) (λ p. refl) refl
    (part_refused ParamSymbol (place + 1) (longer ds) param_of _ c.in_err-param.ensures.reads le2)))

pub loop-alloc-preserved : goal.loop-alloc-preserved
loop-alloc-preserved c =
    let place = c.loop-alloc.place in
    let before = c.loop-alloc.params.items in
    let ds = map param_of before in
    let x = c.in_ok-param.param in
    let end = c.in_ok-param.end in
    let past = c.loop-alloc.invariant.1 in
    let past2 = c.in_ok-param.ensures.place in
    let le : c.args.at ≤ place = omega (arith, past) in
    let le2 : c.args.at ≤ place + 1 = omega (arith, past) in
    let lt : c.args.at < end = omega (arith, past, past2) in (
      λ r p.
          c.loop-alloc.invariant.0 r
          (comma place ds (enter ParamSymbol (longer ds)) c.requires.shallow le (c.loop-alloc-test.ensures.yes refl) (λ p. refl) refl
          (part ParamSymbol (place + 1) end (longer ds) param_of x c.in_ok-param.ensures.reads le2
          (subst (λ l. Proceeds Params c.args.depth c.args.tokens.now c.args.at end (build l) (λ v. map param_of v.items) r)
          (ap (map param_of) c.in_ok-add-2.ensures.ok ∙ map-append param_of before (x ∷ [])) p))),
      lt,
      past2.1,
    )

pub returns-clause-reads : goal.returns-clause-reads
returns-clause-reads c =
    let ts = c.args.tokens.now in
    let place = c.loop-alloc.place in
    let ds = map param_of c.loop-alloc.params.items in
    let past = c.loop-alloc.invariant.1 in
    let le : c.args.at ≤ place = omega (arith, past) in
    c.loop-alloc.invariant.0 _ (ends place c.loop-alloc.params ds refl le (quiet_list ts place (spot_of ts c.args.at) ds (enter ParamSymbol (longer ds)) (λ p. refl) (c.loop-alloc-test.ensures.no refl)))
