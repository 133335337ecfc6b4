use Rattle.std.proofs.Common.{rules, ◌≡◌, true, List, length, slice_get, Some, sym, ap, ◌∙◌}
use Rattle.std.proofs.lemmas.Bool.{ltb-true}
use Rattle.std.proofs.lemmas.Option.{slice_get-get_or}
use Rattle.rc_code.specs.Kinds.{same_cell}
use Rattle.rc_reached.specs.Walks.{is_there}
use Rattle.rc_reached.specs.Masks.{marks}
use Rattle.rc_path_rules.specs.declared.masks.Mask.{Mask}
use Rattle.rc_path_rules.proofs.Made.{right_found, same_found}
use Rattle.rc_path_rules.proofs.masks.Masks.find.Goals as goal

pub returns-clause-is : goal.returns-clause-is
returns-clause-is c = λ types right same cell at place marked.
    (let mask = c.in-Some.mask.now in
    let number = c.mask_at-number.result in
    let lookup = c.in-Some.ensures.lookup in
    let found : slice_get c.deref.result.now number ≡ Some mask = slice_get-get_or c.deref.result.now number mask (ltb-true number (length c.deref.result.now) (sym lookup.0)) ∙ ap Some (sym lookup.1) in
    let there : slice_get c.args.self.now.made.items number ≡ Some mask = ap (λ (ms : List Mask). slice_get ms number) (sym c.deref.ensures.value) ∙ found in
    let first = c.in-Some-get.cell.now in
    let seen = c.in-Some-get.ensures.lookup in
    let at_first : slice_get c.args.cells.now c.args.place ≡ Some first = slice_get-get_or c.args.cells.now c.args.place first (ltb-true c.args.place (length c.args.cells.now) (sym seen.0)) ∙ ap Some (sym seen.1) in
    let as_first : same_cell mask.cell first ≡ true = search rules in
    let is : same_cell mask.cell cell ≡ true = ap (same_cell mask.cell) (same_found c.args.cells.now c.args.place cell first at at_first) ∙ as_first in
    ap (λ xs. is_there cell xs place) same
    ∙ right_found types c.args.self.now.made.items number mask c.args.type_number cell right.masks there c.if-mask-type_number.false is place (sym (ap (λ ws. marks ws place) c.deref-2.ensures.value) ∙ marked))
