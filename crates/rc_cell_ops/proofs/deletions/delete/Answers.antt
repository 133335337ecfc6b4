use Rattle.std.proofs.Common.{◌≡◌, ◌∙◌, refl, ap, sym, subst}
use Rattle.rc_code.specs.Running.{pinned}
use Rattle.rc_pile.specs.Words.{value_of}
use Rattle.rc_calls.proofs.Leading.{leads_pile, some_same}
use Rattle.rc_cell_ops.specs.Deleting.{Freed, deleting_pins}
use Rattle.rc_cell_ops.proofs.deletions.delete.Goals as goal

pub returns-in-Ok-free : goal.returns-in-Ok-free
returns-in-Ok-free g c =
    let r = c.requires.ready in
    let e : value_of c.operand.result ≡ r.3.value = some_same c.operand.ensures r.3.operand.0 in
    let pins : c.deleting_pins-pins.result.now ≡ r.0 = c.deleting_pins-pins.ensures ∙ ap deleting_pins r.1 in
    let ready = (r.3.region.2 c.in-Ok.region (sym e ∙ c.in-Ok.ensures.0)).1 c.in-Ok.ensures.1 in
    let done = subst (λ ps. Freed (pinned ps c.args.pile.now.locals) c.in-Ok.region (g.H.Heap.store c.args.heap.now) (g.H.Heap.store c.free.new.heap)) pins c.in-Ok-free.ensures in
    leads_pile _ _ _ _ _ _ _ _ _ (ready.goes_on done.other done.childless done.held done.pinned done.unnamed (g.H.Heap.store c.free.new.heap) done.freed) c.take.ensures refl
