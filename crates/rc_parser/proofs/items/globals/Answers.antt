use Rattle.std.proofs.Common.{◌≤◌, ◌-◌, map, refl, sym, arith}
use Rattle.rc_syntax.specs.declared.word.Mark.TheVariants as m
use Rattle.rc_syntax.specs.declared.tree.Base.{Base}
use Rattle.rc_syntax.specs.Tokens.{mark}
use Rattle.rc_syntax.specs.Grammar.{TreeOf, Item, Decs, global}
use Rattle.rc_syntax.specs.reader.Todo.{Todo, build, stop, read, sees}
use Rattle.rc_syntax.specs.reader.Reading.{is_semicolon}
use Rattle.rc_words.specs.Words.{spot_of}
use Rattle.rc_parser.specs.Shapes.{global_of}
use Rattle.rc_parser.specs.Items.{dec_rest}
use Rattle.rc_stmt.proofs.Going.{fails, word, word_refused, ends_plain}
use Rattle.rc_stmt.proofs.Inside.{resumed, resumed_refused}
use Rattle.rc_stmt.proofs.Tests.{semicolon_else}
use Rattle.rc_parser.proofs.items.globals.Goals as goal

abbrev closed_globals : Base → TreeOf Decs → Todo Item
closed_globals b ds = read (sees is_semicolon (build (map (global b) ds)))

pub returns-in_err-declarators-clause-reads : goal.returns-in_err-declarators-clause-reads
returns-in_err-declarators-clause-reads c =
    let own = c.args.head.at in
    let past = c.requires.later in
    let past2 = c.requires.behind in
    let le : c.args.at ≤ own = omega (arith, past) in
    let le2 : own ≤ c.args.place = omega (arith, past2) in
    fails c.from_residual.ensures.1 (resumed_refused Decs own c.args.place (own - c.args.at) (closed_globals c.args.base) (dec_rest (spot_of c.args.tokens.now own) c.args.head.stars.items c.args.head.name) (λ v. map global_of v.items) _ (record { none = refl; plain = λ n r. refl }) refl le le2 c.in_err-declarators.ensures.reads)

pub returns-in_err-end-clause-reads : goal.returns-in_err-end-clause-reads
returns-in_err-end-clause-reads c =
    let own = c.args.head.at in
    let ds = c.in_ok-declarators.declarators in
    let semicolon = c.in_ok-declarators.semicolon in
    let past = c.requires.later in
    let past2 = c.requires.behind in
    let le : c.args.at ≤ own = omega (arith, past) in
    let le2 : own ≤ c.args.place = omega (arith, past2) in
    fails c.from_residual-in_err-end.ensures.1 (resumed Decs own c.args.place semicolon (own - c.args.at) (closed_globals c.args.base) (dec_rest (spot_of c.args.tokens.now own) c.args.head.stars.items c.args.head.name) (λ v. map global_of v.items) ds (record { none = refl; plain = λ n r. refl }) refl le le2 c.in_ok-declarators.ensures.reads
    (word_refused semicolon is_semicolon (build (map (global c.args.base) (map global_of ds.items))) (mark m.Semicolon) _ c.in_err-end.ensures semicolon_else))

pub returns-clause-reads : goal.returns-clause-reads
returns-clause-reads c =
    let own = c.args.head.at in
    let ds = c.in_ok-declarators.declarators in
    let semicolon = c.in_ok-declarators.semicolon in
    let end = c.in_ok-end.end in
    let tree = map (global c.args.base) (map global_of ds.items) in
    let d : 0 ≤ 200 = omega arith in
    let past = c.requires.later in
    let past2 = c.requires.behind in
    let past3 = c.in_ok-declarators.ensures.place in
    let next = c.in_ok-end.ensures.1 in
    let le : c.args.at ≤ own = omega (arith, past) in
    let le2 : own ≤ c.args.place = omega (arith, past2) in
    let le3 : c.args.at ≤ semicolon = omega (arith, past, past2, past3) in
    let le4 : c.args.at ≤ end = omega (arith, past, past2, past3, next) in
    resumed Decs own c.args.place semicolon (own - c.args.at) (closed_globals c.args.base) (dec_rest (spot_of c.args.tokens.now own) c.args.head.stars.items c.args.head.name) (λ v. map global_of v.items) ds (record { none = refl; plain = λ n r. refl }) refl le le2 c.in_ok-declarators.ensures.reads
    (word semicolon end is_semicolon (build tree) stop (mark m.Semicolon) d le3 c.in_ok-end.ensures refl refl
    (ends_plain end c.in_ok-items.items tree (sym c.in_ok-items.ensures.ok) le4 (λ p. refl)))
