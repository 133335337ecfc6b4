use Rattle.std.proofs.Common.{◌≡◌, ◌+◌, ◌++◌, ap, sym, ◌∙◌, map}
use Rattle.rc_syntax.specs.Shape.{item_of}
use Rattle.rc_deletes.specs.Items.{names_of, with_struct, shape_of}
use Rattle.rc_defined.proofs.Gathered.{definitions, one_more, types_before}
use Rattle.rc_defined.proofs.building.structs_in.Goals as goal

pub loop-item-preserved : goal.loop-item-preserved
loop-item-preserved c =
    let ds = definitions c.args.items.now c.loop-item.item-index in
    let step = one_more c.args.items.now c.loop-item.item-index c.item-item.result c.loop-item-test.true c.item-item.is in
    let before = types_before c.args.items.now (c.loop-item.item-index + 1) in
    let told : c.args.types.now ≡ names_of (with_struct ds (item_of c.item-item.result)) ++ before.0 = c.requires ∙ before.1 ∙ ap (λ es. names_of es ++ before.0) step in
    record { so_far = c.in_ok-add_struct.ensures.ok ds before.0 told c.loop-item.invariant.so_far ∙ ap (map (shape_of c.args.types.now)) (sym step) }
