use Rattle.std.proofs.Common.{◌≡◌, ◌++◌, ap, ◌∙◌, sym, subst, map, rules}
use Rattle.std.specs.Prelude.{OnOk}
use Rattle.rc_core.specs.Types.{struct}
use Rattle.rc_core.specs.Layout.{cells}
use Rattle.rc_emission.specs.OperationCode.{spills}
use Rattle.rc_emission.specs.StatementCode.{cells_code, act_lines}
use Rattle.rc_rlang.specs.RegionFits.{ActFits, place_types}
use Rattle.rc_rlang.specs.Shapes.{access_of}
use Rattle.rc_lines.specs.Bare.{bare_code, lines_of}
use Rattle.rc_lines.specs.Operands.{type_of, types_on}
use Rattle.rc_lines.specs.Over.{slot_in, deleting_in, types_in, structs_in, act_in}
use Rattle.rc_lines.proofs.Copies.{added, in_ok}
use Rattle.rc_lines.proofs.Stacks.{place_below, place_above}
use Rattle.rc_lines.proofs.Walking.{at_bare}
use Rattle.rc_lines.proofs.acts.act_on.Goals as goal

pub returns-in-Update : goal.returns-in-Update
returns-in-Update c live l =
    let b = c.args.body.now in
    subst (λ x. OnOk c.update.result (lines_of c.update.new.out.items ≡ lines_of c.args.out.now.items ++ bare_code 0 (act_lines (slot_in b) (deleting_in b) (types_in b) c.args.last (act_in b x) (types_on c.args.operands.now) live))) (sym c.in-Update.is) (c.update.ensures c.args.last live)

pub returns-in_ok-keep-in-Move : goal.returns-in_ok-keep-in-Move
returns-in_ok-keep-in-Move c live l =
    let b = c.args.body.now in
    let slot = slot_in b in
    let line = c.in-Move.line in
    let tys = types_on c.args.operands.now in
    let left = access_of c.in-Move.left in
    let right = access_of c.in-Move.right in
    let kinds = cells (structs_in b) (struct c.in-Move.structure) in
    let fits = subst (λ x. ActFits (act_in b x) tys) c.in-Move.is c.requires.fits in
    let pl = ap (map type_of) c.split_at.ensures.front ∙ place_below c.args.operands.now left (place_types right) c.width-second.result c.width-second.ensures fits in
    let pr = ap (map type_of) c.split_at.ensures.back ∙ place_above c.args.operands.now left (place_types right) c.width-second.result c.width-second.ensures fits in
    let n : c.in_ok-count-in-Move.count ≡ c.size_of.result = search rules in
    let many = c.size_of.ensures (structs_in b) c.requires.laid in
    let o = lines_of c.args.out.now.items in
    let l1 = lines_of c.keep.new.out.items in
    let l2 = lines_of c.copy_cells.new.out.items in
    let both = spills slot 0 tys ++ cells_code slot (deleting_in b) (types_in b) kinds left right in
    subst (λ x. OnOk c.copy_cells.result (l2 ≡ o ++ bare_code 0 (act_lines slot (deleting_in b) (types_in b) c.args.last (act_in b x) tys live))) (sym c.in-Move.is)
    (in_ok c.copy_cells.result _ _
    (λ e. added line (spills slot 0 tys) (cells_code slot (deleting_in b) (types_in b) kinds left right) o l1 l2 c.in_ok-keep-in-Move.ensures e ∙ ap (λ ls. o ++ ls) (at_bare line both))
    (c.copy_cells.ensures kinds (sym many ∙ sym n) pl pr))
