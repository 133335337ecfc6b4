use Rattle.std.proofs.Common.{List, map, arith, refl}
use Rattle.rc_syntax.specs.declared.tree.Item.{Item}
use Rattle.rc_syntax.specs.Shape.{item_of}
use Rattle.rc_deletes.specs.First.{clear}
use Rattle.rc_linking.specs.Calls.{calls_in_item, calls_in_items}
use Rattle.rc_link.specs.Missed.{missed}
use Rattle.rc_link.proofs.Called.{row_fine, row_lost}
use Rattle.rc_link.proofs.missing.calls.Goals as goal

pub returns-in_err-item : goal.returns-in_err-item
returns-in_err-item c =
    row_lost c.args.functions.now (λ (i : Item). calls_in_item (item_of i)) (λ (is : List Item). calls_in_items (map item_of is)) (λ x xs. refl) c.args.file.now c.loop-i.i-index c.i-item.result (omega arith) c.i-item.is
    (clear (missed c.args.functions.now (calls_in_items (map item_of c.args.file.now)))) c.loop-i.invariant c.from_residual.result c.in_err-item.field-0.0 c.from_residual.ensures.1 c.in_err-item.ensures

pub loop-i-preserved : goal.loop-i-preserved
loop-i-preserved c =
    row_fine c.args.functions.now (λ (i : Item). calls_in_item (item_of i)) (λ (is : List Item). calls_in_items (map item_of is)) (λ x xs. refl) c.args.file.now c.loop-i.i-index c.i-item.result (omega arith) c.i-item.is
    (clear (missed c.args.functions.now (calls_in_items (map item_of c.args.file.now)))) c.loop-i.invariant c.in_ok-item.field-0 c.in_ok-item.ensures
