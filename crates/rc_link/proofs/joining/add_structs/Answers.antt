use Rattle.std.proofs.Common.{◌∙◌, List, ap, sym, refl, map, arith}
use Rattle.rc_syntax.specs.declared.tree.Item.{Item}
use Rattle.rc_syntax.specs.Shape.{item_of}
use Rattle.rc_deletes.specs.Items.{names_of, with_struct, with_structs}
use Rattle.rc_defined.proofs.Walks.{front, none_left}
use Rattle.rc_link.proofs.joining.add_structs.Goals as goal

pub loop-item-init : goal.loop-item-init
loop-item-init c = record { same = λ ds h. (ds, h, refl) }

pub loop-item-preserved : goal.loop-item-preserved
loop-item-preserved c = record {
  same = λ ds h. (
      let r = c.loop-item.invariant.same ds h in
      let left = front c.args.file.now c.loop-item.item-index c.item-item.result c.loop-item-test.true c.item-item.is in
      (with_struct r.0 (item_of c.item-item.result), c.in_ok-add_struct.ensures r.0 r.1, r.2 ∙ ap (λ (xs : List Item). with_structs r.0 (map item_of xs)) left));
}

pub returns : goal.returns
returns c = λ ds h.
    let r = c.loop-item.invariant.same ds h in
    let left = none_left c.args.file.now c.loop-item.item-index (omega (arith, c.loop-item-test.false)) in
    r.1 ∙ ap names_of (sym (r.2 ∙ ap (λ (xs : List Item). with_structs r.0 (map item_of xs)) left))
