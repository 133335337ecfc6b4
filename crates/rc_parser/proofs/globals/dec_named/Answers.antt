use Rattle.std.proofs.Common.{◌≡◌, ◌≤◌, ◌-◌, refl, arith}
use Rattle.rc_syntax.specs.Grammar.{FieldDec}
use Rattle.rc_syntax.specs.reader.Reading.{initialised, field_named}
use Rattle.rc_words.specs.Words.{spot_of}
use Rattle.rc_parser.specs.Shapes.{declarator_of}
use Rattle.rc_stmt.proofs.Going.{fails}
use Rattle.rc_stmt.proofs.Inside.{resumed, resumed_refused}
use Rattle.rc_parser.proofs.globals.dec_named.Goals as goal

pub returns-in_err-declarator-clause-reads : goal.returns-in_err-declarator-clause-reads
returns-in_err-declarator-clause-reads c =
    let at = c.args.head.at in
    let past = c.requires.behind in
    let none : 0 ≡ at - at = omega arith in
    let same : at ≤ at = omega arith in
    let le : at ≤ c.args.place = omega (arith, past) in
    fails c.from_residual.ensures.1
    (resumed_refused FieldDec at c.args.place 0 initialised (field_named (spot_of c.args.tokens.now at) c.args.head.stars.items c.args.head.name) declarator_of _ (record { none = refl; plain = λ n r. refl }) none same le c.in_err-declarator.ensures.reads)

pub returns-clause-reads : goal.returns-clause-reads
returns-clause-reads c =
    let at = c.args.head.at in
    let past = c.requires.behind in
    let none : 0 ≡ at - at = omega arith in
    let same : at ≤ at = omega arith in
    let le : at ≤ c.args.place = omega (arith, past) in
    resumed FieldDec at c.args.place c.in_ok-declarator.behind 0 initialised (field_named (spot_of c.args.tokens.now at) c.args.head.stars.items c.args.head.name) declarator_of c.in_ok-declarator.declarator (record { none = refl; plain = λ n r. refl }) none same le
    c.in_ok-declarator.ensures.reads c.initialised.ensures.reads
