use Rattle.std.proofs.Common.{◌≤◌, [], refl, arith}
use Rattle.rc_syntax.specs.Grammar.{Stars}
use Rattle.rc_syntax.specs.reader.Reading.{field_starred, field_named}
use Rattle.rc_words.specs.Words.{spot_of}
use Rattle.rc_stmt.proofs.Going.{fails_first, flat, opened_part, opened_part_refused, name_read, name_refused}
use Rattle.rc_parser.proofs.Declared.{field_starts}
use Rattle.rc_parser.proofs.fields.field_dec.Goals as goal

pub returns-in_err-stars-clause-reads : goal.returns-in_err-stars-clause-reads
returns-in_err-stars-clause-reads c =
    let at = c.args.at in
    let same : at ≤ at = omega arith in
    fails_first c.from_residual.ensures.1 (flat (record { none = refl; plain = λ n r. refl })
    (field_starts (opened_part_refused Stars at [] (field_starred (spot_of c.args.tokens.now at)) (λ v. v.items) _ (record { none = refl; plain = λ n r. refl }) c.in_err-stars.ensures.reads same)))

pub returns-in_err-name-clause-reads : goal.returns-in_err-name-clause-reads
returns-in_err-name-clause-reads c =
    let at = c.args.at in
    let sp = spot_of c.args.tokens.now at in
    let stars = c.in_ok-stars.stars in
    let same : at ≤ at = omega arith in
    fails_first c.from_residual-in_err-name.ensures.1 (flat (record { none = refl; plain = λ n r. refl })
    (field_starts (opened_part Stars at c.in_ok-stars.place [] (field_starred sp) (λ v. v.items) stars (record { none = refl; plain = λ n r. refl }) c.in_ok-stars.ensures.reads same
    (name_refused c.in_ok-stars.place (field_named sp stars.items) _ c.in_err-name.ensures))))

pub returns-clause-reads : goal.returns-clause-reads
returns-clause-reads c =
    let at = c.args.at in
    let sp = spot_of c.args.tokens.now at in
    let stars = c.in_ok-stars.stars in
    let same : at ≤ at = omega arith in
    flat (record { none = refl; plain = λ n r. refl })
    (field_starts (opened_part Stars at c.in_ok-stars.place [] (field_starred sp) (λ v. v.items) stars (record { none = refl; plain = λ n r. refl }) c.in_ok-stars.ensures.reads same
    (name_read c.in_ok-stars.place c.in_ok-name.behind (field_named sp stars.items) _ c.in_ok-name.name c.requires.shallow c.in_ok-stars.ensures.place.0 c.in_ok-name.ensures refl c.field_named.ensures.reads)))
