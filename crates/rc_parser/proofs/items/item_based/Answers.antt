use Rattle.std.proofs.Common.{◌≤◌, ◌-◌, ℕ, List, [], refl, arith}
use Rattle.rc_syntax.specs.declared.tree.Spot.{Spot}
use Rattle.rc_syntax.specs.declared.tree.Base.{Base}
use Rattle.rc_syntax.specs.declared.tree.Note.{Note}
use Rattle.rc_syntax.specs.Grammar.{Item, Stars}
use Rattle.rc_syntax.specs.reader.Todo.{Todo, stop, read}
use Rattle.rc_syntax.specs.reader.Reading.{named, item_named}
use Rattle.rc_words.specs.Words.{spot_of}
use Rattle.rc_stmt.proofs.Going.{fails, opened_part, opened_part_refused, name_read, name_refused}
use Rattle.rc_parser.proofs.Itemed.{peeked}
use Rattle.rc_parser.proofs.items.item_based.Goals as goal

abbrev starred : Spot → Base → ℕ → Spot → List Note → Todo Item
starred sp b n own ns = read (named (item_named sp b n own ns))

pub returns-in_err-stars-clause-reads : goal.returns-in_err-stars-clause-reads
returns-in_err-stars-clause-reads c =
    let ts = c.args.tokens.now in
    let sp = spot_of ts c.args.at in
    let place = c.args.place in
    let past = c.requires.behind in
    let le : c.args.at ≤ place = omega (arith, past) in
    fails c.from_residual.ensures.1 (peeked place sp c.args.base
    (opened_part_refused Stars place [] (starred sp c.args.base (place - c.args.at) (spot_of ts place)) (λ v. v.items) _ (record { none = refl; plain = λ n r. refl }) c.in_err-stars.ensures.reads le))

pub returns-in_err-name-clause-reads : goal.returns-in_err-name-clause-reads
returns-in_err-name-clause-reads c =
    let ts = c.args.tokens.now in
    let sp = spot_of ts c.args.at in
    let place = c.args.place in
    let stars = c.in_ok-stars.stars in
    let behind = c.in_ok-stars.behind in
    let past = c.requires.behind in
    let le : c.args.at ≤ place = omega (arith, past) in
    fails c.from_residual-in_err-name.ensures.1 (peeked place sp c.args.base
    (opened_part Stars place behind [] (starred sp c.args.base (place - c.args.at) (spot_of ts place)) (λ v. v.items) stars (record { none = refl; plain = λ n r. refl }) c.in_ok-stars.ensures.reads le
    (name_refused behind (item_named sp c.args.base (place - c.args.at) (spot_of ts place) stars.items) _ c.in_err-name.ensures)))

pub returns-clause-reads : goal.returns-clause-reads
returns-clause-reads c =
    let ts = c.args.tokens.now in
    let sp = spot_of ts c.args.at in
    let place = c.args.place in
    let stars = c.in_ok-stars.stars in
    let behind = c.in_ok-stars.behind in
    let d : 0 ≤ 200 = omega arith in
    let past = c.requires.behind in
    let past2 = c.in_ok-stars.ensures.place in
    let le : c.args.at ≤ place = omega (arith, past) in
    let le2 : c.args.at ≤ behind = omega (arith, past, past2) in
    peeked place sp c.args.base
    (opened_part Stars place behind [] (starred sp c.args.base (place - c.args.at) (spot_of ts place)) (λ v. v.items) stars (record { none = refl; plain = λ n r. refl }) c.in_ok-stars.ensures.reads le
    (name_read behind c.in_ok-name.end (item_named sp c.args.base (place - c.args.at) (spot_of ts place) stars.items) stop c.in_ok-name.name d le2 c.in_ok-name.ensures refl c.item_named.ensures.reads))
