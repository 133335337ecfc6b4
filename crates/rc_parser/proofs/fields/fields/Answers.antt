use Rattle.std.proofs.Common.{◌<◌, ◌≤◌, List, ◌++◌, map, refl, ap, sym, ◌∙◌, subst, arith}
use Rattle.std.proofs.lemmas.List.{map-append}
use Rattle.rc_syntax.specs.Tree as t
use Rattle.rc_syntax.specs.Grammar.{Fields, Field as FieldSymbol}
use Rattle.rc_syntax.specs.reader.Todo.{Todo, build}
use Rattle.rc_syntax.specs.Shape.{field_of}
use Rattle.rc_words.specs.Words.{spot_of}
use Rattle.rc_stmt.specs.Along.{Proceeds}
use Rattle.rc_stmt.proofs.Going.{fails, fails_first, flat, first_part, first_part_refused}
use Rattle.rc_stmt.proofs.Inside.{more_part, more_part_refused, ends_calm}
use Rattle.rc_parser.proofs.Declared.{some_base, field_enters, field_stays}
use Rattle.rc_parser.proofs.fields.fields.Goals as goal

abbrev longer : List t.Field → List t.Field → Todo Fields
longer fs hs = build (fs ++ hs)

pub returns-in_err-first-clause-reads : goal.returns-in_err-first-clause-reads
returns-in_err-first-clause-reads c =
    fails_first c.from_residual.ensures.1 (flat (record { none = refl; plain = λ n r. refl }) (first_part_refused FieldSymbol build (λ v. map field_of v.items) _ (λ p h. refl) c.in_err-first.ensures.reads))

pub loop-alloc-init : goal.loop-alloc-init
loop-alloc-init c = (
  λ r p. flat (record { none = refl; plain = λ n r. refl }) (first_part FieldSymbol c.in_ok-first.after build (λ v. map field_of v.items) c.in_ok-first.first (λ p h. refl) c.in_ok-first.ensures.reads p),
  c.in_ok-first.ensures.place.0,
  c.in_ok-first.ensures.place.1,
)

pub returns-in_err-more-clause-reads : goal.returns-in_err-more-clause-reads
returns-in_err-more-clause-reads c =
    let ts = c.args.tokens.now in
    let place = c.loop-alloc.place in
    let fs = map field_of c.loop-alloc.fields.items in
    let past = c.loop-alloc.invariant.1 in
    let le : c.args.at ≤ place = omega (arith, past) in
    let typed = sym c.loop-alloc-test.ensures in
    c.loop-alloc.invariant.0 _ (fails c.from_residual-in_err-more.ensures.1
    (more_part_refused FieldSymbol place fs (longer fs) (λ v. map field_of v.items) _ (some_base ts place typed) (field_enters ts place (spot_of ts c.args.at) fs typed) le c.in_err-more.ensures.reads))

pub loop-alloc-preserved : goal.loop-alloc-preserved
loop-alloc-preserved c =
    let ts = c.args.tokens.now in
    let place = c.loop-alloc.place in
    let before = c.loop-alloc.fields.items in
    let fs = map field_of before in
    let x = c.in_ok-more.more in
    let end = c.in_ok-more.end in
    let past = c.loop-alloc.invariant.1 in
    let past2 = c.in_ok-more.ensures.place in
    let le : c.args.at ≤ place = omega (arith, past) in
    let lt : c.args.at < end = omega (arith, past, past2) in
    let typed = sym c.loop-alloc-test.ensures in (
      λ r p.
          c.loop-alloc.invariant.0 r
          (more_part FieldSymbol place end fs (longer fs) (λ v. map field_of v.items) x (some_base ts place typed) (field_enters ts place (spot_of ts c.args.at) fs typed) le c.in_ok-more.ensures.reads
          (subst (λ l. Proceeds Fields c.args.depth ts c.args.at end (build l) (λ v. map field_of v.items) r)
          (ap (map field_of) c.in_ok-append.ensures.ok ∙ map-append field_of before x.items) p)),
      lt,
      past2.1,
    )

pub returns-clause-reads : goal.returns-clause-reads
returns-clause-reads c =
    let ts = c.args.tokens.now in
    let place = c.loop-alloc.place in
    let fs = map field_of c.loop-alloc.fields.items in
    let past = c.loop-alloc.invariant.1 in
    let le : c.args.at ≤ place = omega (arith, past) in
    c.loop-alloc.invariant.0 _ (ends_calm place c.loop-alloc.fields fs refl le (field_stays ts place c.args.at fs (sym c.loop-alloc-test.ensures)))
