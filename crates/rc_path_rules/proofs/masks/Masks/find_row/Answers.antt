use Rattle.std.proofs.Common.{◌≡◌, List, length, slice_get, Some, sym, ap, ◌∙◌}
use Rattle.std.proofs.lemmas.Bool.{ltb-true}
use Rattle.std.proofs.lemmas.Option.{slice_get-get_or}
use Rattle.rc_path_rules.specs.declared.masks.Row.{Row}
use Rattle.rc_path_rules.proofs.Made.{row_found}
use Rattle.rc_path_rules.proofs.masks.Masks.find_row.Goals as goal

pub returns : goal.returns
returns c = λ types right.
    (let row = c.in-Some.found.now in
    let number = c.row_at-number.result in
    let lookup = c.in-Some.ensures.lookup in
    let found : slice_get c.deref.result.now number ≡ Some row = slice_get-get_or c.deref.result.now number row (ltb-true number (length c.deref.result.now) (sym lookup.0)) ∙ ap Some (sym lookup.1) in
    let there : slice_get c.args.self.now.rows.items number ≡ Some row = ap (λ (rs : List Row). slice_get rs number) (sym c.deref.ensures.value) ∙ found in
    row_found types c.args.self.now.rows.items number row c.args.type_number right.rows there c.if-found-type_number.false)
