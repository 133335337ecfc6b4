use Rattle.std.proofs.Common.{◌≡◌, length, slice_get, Some, sym, ap, ◌∙◌, arith}
use Rattle.std.proofs.lemmas.Bool.{ltb-true}
use Rattle.std.proofs.lemmas.Option.{slice_get-get_or}
use Rattle.rc_reached.proofs.Numbers.{one_known}
use Rattle.rc_reached.proofs.numbered.has_one_number.Goals as goal

pub returns : goal.returns
returns c = λ all cells cell row there.
    (let numbers = c.args.numbers.now in
    let number = c.in-Some.number.now in
    let lookup = c.in-Some.ensures.lookup in
    let here : slice_get numbers c.args.place ≡ Some number = slice_get-get_or numbers c.args.place number (ltb-true c.args.place (length numbers) (sym lookup.0)) ∙ ap Some (sym lookup.1) in
    one_known c.args.indices.now numbers c.numbers_from.result.now c.args.firsts.now cells c.args.place number cell c.numbers_from.ensures here (omega (arith, c.if-number-eq0.false)) (omega (arith, c.from.ensures, c.if-from-firsts.false))
    (sym c.are_numbered_all.ensures ∙ all) row there)
