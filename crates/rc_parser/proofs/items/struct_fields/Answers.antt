use Rattle.std.proofs.Common.{◌≤◌, List, [], ◌∷◌, map, refl, sym, ap, ◌∙◌, arith}
use Rattle.rc_syntax.specs.declared.word.Mark.TheVariants as m
use Rattle.rc_syntax.specs.declared.tree.Spot.{Spot}
use Rattle.rc_syntax.specs.declared.tree.Name.{Name}
use Rattle.rc_syntax.specs.Tokens.{mark}
use Rattle.rc_syntax.specs.Tree as t
use Rattle.rc_syntax.specs.Grammar.{TreeOf, Item, Fields}
use Rattle.rc_syntax.specs.reader.Todo.{Todo, build, stop, read, sees}
use Rattle.rc_syntax.specs.reader.Reading.{is_semicolon, is_close_brace}
use Rattle.rc_syntax.specs.Shape.{item_of, field_of}
use Rattle.rc_words.specs.Words.{spot_of}
use Rattle.rc_stmt.proofs.Going.{fails, part, part_refused, word, word_refused, ends_plain}
use Rattle.rc_stmt.proofs.Tests.{semicolon_else, close_brace_else}
use Rattle.rc_parser.proofs.items.struct_fields.Goals as goal

abbrev whole : Spot → Name → List t.Field → TreeOf Item
whole sp x fs = t.struct sp x fs ∷ []

abbrev ended : Spot → Name → List t.Field → Todo Item
ended sp x fs = read (sees is_semicolon (build (whole sp x fs)))

abbrev braced : Spot → Name → List t.Field → Todo Item
braced sp x fs = read (sees is_close_brace (ended sp x fs))

pub returns-in_err-fields-clause-reads : goal.returns-in_err-fields-clause-reads
returns-in_err-fields-clause-reads c =
    let sp = spot_of c.args.tokens.now c.args.at in
    let past = c.requires.behind in
    let le : c.args.at ≤ c.args.place = omega (arith, past) in
    fails c.from_residual.ensures.1 (part_refused Fields c.args.place (braced sp c.args.name) (λ v. map field_of v.items) _ c.in_err-fields.ensures.reads le)

pub returns-in_err-semicolon-clause-reads : goal.returns-in_err-semicolon-clause-reads
returns-in_err-semicolon-clause-reads c =
    let sp = spot_of c.args.tokens.now c.args.at in
    let fields = c.in_ok-fields.fields in
    let closing = c.in_ok-fields.closing in
    let past = c.requires.behind in
    let le : c.args.at ≤ c.args.place = omega (arith, past) in
    fails c.from_residual-in_err-semicolon.ensures.1 (part Fields c.args.place closing (braced sp c.args.name) (λ v. map field_of v.items) fields c.in_ok-fields.ensures.reads le
    (word_refused closing is_close_brace (ended sp c.args.name (map field_of fields.items)) (mark m.CloseBrace) _ c.in_err-semicolon.ensures close_brace_else))

pub returns-in_err-end-clause-reads : goal.returns-in_err-end-clause-reads
returns-in_err-end-clause-reads c =
    let sp = spot_of c.args.tokens.now c.args.at in
    let fields = c.in_ok-fields.fields in
    let fs = map field_of fields.items in
    let closing = c.in_ok-fields.closing in
    let semicolon = c.in_ok-semicolon.semicolon in
    let d : 0 ≤ 200 = omega arith in
    let past = c.requires.behind in
    let past2 = c.in_ok-fields.ensures.place in
    let le : c.args.at ≤ c.args.place = omega (arith, past) in
    let le2 : c.args.at ≤ closing = omega (arith, past, past2) in
    fails c.from_residual-in_err-end.ensures.1 (part Fields c.args.place closing (braced sp c.args.name) (λ v. map field_of v.items) fields c.in_ok-fields.ensures.reads le
    (word closing semicolon is_close_brace (ended sp c.args.name fs) stop (mark m.CloseBrace) d le2 c.in_ok-semicolon.ensures refl refl
    (word_refused semicolon is_semicolon (build (whole sp c.args.name fs)) (mark m.Semicolon) _ c.in_err-end.ensures semicolon_else)))

pub returns-clause-reads : goal.returns-clause-reads
returns-clause-reads c =
    let sp = spot_of c.args.tokens.now c.args.at in
    let fields = c.in_ok-fields.fields in
    let fs = map field_of fields.items in
    let closing = c.in_ok-fields.closing in
    let semicolon = c.in_ok-semicolon.semicolon in
    let end = c.in_ok-end.end in
    let d : 0 ≤ 200 = omega arith in
    let past = c.requires.behind in
    let past2 = c.in_ok-fields.ensures.place in
    let next = c.in_ok-semicolon.ensures.1 in
    let next2 = c.in_ok-end.ensures.1 in
    let le : c.args.at ≤ c.args.place = omega (arith, past) in
    let le2 : c.args.at ≤ closing = omega (arith, past, past2) in
    let le3 : c.args.at ≤ semicolon = omega (arith, past, past2, next) in
    let le4 : c.args.at ≤ end = omega (arith, past, past2, next, next2) in
    part Fields c.args.place closing (braced sp c.args.name) (λ v. map field_of v.items) fields c.in_ok-fields.ensures.reads le
    (word closing semicolon is_close_brace (ended sp c.args.name fs) stop (mark m.CloseBrace) d le2 c.in_ok-semicolon.ensures refl refl
    (word semicolon end is_semicolon (build (whole sp c.args.name fs)) stop (mark m.Semicolon) d le3 c.in_ok-end.ensures refl refl
    (ends_plain end c.in_ok-items.items (whole sp c.args.name fs) (sym (ap (map item_of) c.in_ok-items.ensures.ok ∙ ap (λ s. whole s c.args.name fs) c.spot_at.ensures)) le4 (λ p. refl))))
