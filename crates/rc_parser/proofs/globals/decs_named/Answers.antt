use Rattle.std.proofs.Common.{◌≡◌, ◌≤◌, ◌-◌, [], ◌∷◌, refl, arith}
use Rattle.rc_syntax.specs.Grammar.{TreeOf, Dec, Decs}
use Rattle.rc_syntax.specs.reader.Todo.{Todo, build}
use Rattle.rc_words.specs.Words.{spot_of}
use Rattle.rc_parser.specs.Shapes.{global_of}
use Rattle.rc_parser.specs.Items.{declarator_rest}
use Rattle.rc_stmt.proofs.Going.{fails}
use Rattle.rc_stmt.proofs.Inside.{resumed, resumed_refused}
use Rattle.rc_parser.proofs.globals.decs_named.Goals as goal

abbrev one : TreeOf Dec → Todo Decs
one d = build (d ∷ [])

pub returns-in_err-first-clause-reads : goal.returns-in_err-first-clause-reads
returns-in_err-first-clause-reads c =
    let at = c.args.head.at in
    let past = c.requires.behind in
    let none : 0 ≡ at - at = omega arith in
    let same : at ≤ at = omega arith in
    let le : at ≤ c.args.place = omega (arith, past) in
    fails c.from_residual.ensures.1
    (resumed_refused Dec at c.args.place 0 one (declarator_rest (spot_of c.args.tokens.now at) c.args.head.stars.items c.args.head.name) global_of _ (record { none = refl; plain = λ n r. refl }) none same le c.in_err-first.ensures.reads)

pub returns-clause-reads : goal.returns-clause-reads
returns-clause-reads c =
    let at = c.args.head.at in
    let past = c.requires.behind in
    let none : 0 ≡ at - at = omega arith in
    let same : at ≤ at = omega arith in
    let le : at ≤ c.args.place = omega (arith, past) in
    resumed Dec at c.args.place c.in_ok-first.behind 0 one (declarator_rest (spot_of c.args.tokens.now at) c.args.head.stars.items c.args.head.name) global_of c.in_ok-first.first (record { none = refl; plain = λ n r. refl }) none same le
    c.in_ok-first.ensures.reads c.more_decs.ensures.reads
