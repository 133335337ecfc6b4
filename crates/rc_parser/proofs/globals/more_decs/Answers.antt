use Rattle.std.proofs.Common.{◌<◌, ◌≤◌, ◌+◌, [], ◌∷◌, ◌++◌, map, refl, ap, ◌∙◌, subst, arith}
use Rattle.std.proofs.lemmas.List.{map-append}
use Rattle.rc_syntax.specs.Grammar.{TreeOf, Decs, Dec}
use Rattle.rc_syntax.specs.reader.Todo.{Todo, build, enter}
use Rattle.rc_words.specs.Words.{spot_of}
use Rattle.rc_parser.specs.Shapes.{global_of}
use Rattle.rc_stmt.specs.Along.{Proceeds}
use Rattle.rc_stmt.proofs.Going.{fails, comma, part, part_refused, ends}
use Rattle.rc_stmt.proofs.Tests.{quiet_list}
use Rattle.rc_parser.proofs.globals.more_decs.Goals as goal

abbrev longer : TreeOf Decs → TreeOf Dec → Todo Decs
longer ds d = build (ds ++ d ∷ [])

pub loop-alloc-init : goal.loop-alloc-init
loop-alloc-init c =
    let first = c.args.first in
    let same : c.args.after ≤ c.args.after = omega arith in (
      λ r p.
          subst (λ l. Proceeds Decs c.args.depth c.args.tokens.now c.args.at c.args.after (build (map global_of l)) (λ v. map global_of v.items) r)
          (c.in_ok-add.ensures.ok ∙ ap (λ l. l ++ first ∷ []) c.new-declarators.ensures.items) p,
      c.requires.behind,
      same,
      c.requires.within,
    )

pub returns-in_err-declarator-clause-reads : goal.returns-in_err-declarator-clause-reads
returns-in_err-declarator-clause-reads c =
    let place = c.loop-alloc.place in
    let ds = map global_of c.loop-alloc.declarators.items in
    let past = c.loop-alloc.invariant.1 in
    let le : c.args.at ≤ place = omega (arith, past) in
    let le2 : c.args.at ≤ place + 1 = omega (arith, past) in
    c.loop-alloc.invariant.0 _ (fails c.from_residual-in_err-declarator.ensures.1
    (comma place ds (enter Dec (longer ds)) c.requires.shallow le (c.loop-alloc-test.ensures.yes refl) (λ p. refl) refl
    (part_refused Dec (place + 1) (longer ds) global_of _ c.in_err-declarator.ensures.reads le2)))

pub loop-alloc-preserved : goal.loop-alloc-preserved
loop-alloc-preserved c =
    let place = c.loop-alloc.place in
    let before = c.loop-alloc.declarators.items in
    let ds = map global_of before in
    let x = c.in_ok-declarator.declarator in
    let end = c.in_ok-declarator.end in
    let past = c.loop-alloc.invariant.1 in
    let past2 = c.in_ok-declarator.ensures.place in
    let le : c.args.at ≤ place = omega (arith, past) in
    let le2 : c.args.at ≤ place + 1 = omega (arith, past) in
    let lt : c.args.at < end = omega (arith, past, past2) in
    let past3 = c.loop-alloc.invariant.2 in
    let le3 : c.args.after ≤ end = omega (arith, past2, past3) in (
      λ r p.
          c.loop-alloc.invariant.0 r
          (comma place ds (enter Dec (longer ds)) c.requires.shallow le (c.loop-alloc-test.ensures.yes refl) (λ p. refl) refl
          (part Dec (place + 1) end (longer ds) global_of x c.in_ok-declarator.ensures.reads le2
          (subst (λ l. Proceeds Decs c.args.depth c.args.tokens.now c.args.at end (build l) (λ v. map global_of v.items) r)
          (ap (map global_of) c.in_ok-add-2.ensures.ok ∙ map-append global_of before (x ∷ [])) p))),
      lt,
      le3,
      past2.1,
    )

pub returns-clause-reads : goal.returns-clause-reads
returns-clause-reads c =
    let ts = c.args.tokens.now in
    let place = c.loop-alloc.place in
    let ds = map global_of c.loop-alloc.declarators.items in
    let past = c.loop-alloc.invariant.1 in
    let le : c.args.at ≤ place = omega (arith, past) in
    c.loop-alloc.invariant.0 _ (ends place c.loop-alloc.declarators ds refl le (quiet_list ts place (spot_of ts c.args.at) ds (enter Dec (longer ds)) (λ p. refl) (c.loop-alloc-test.ensures.no refl)))
