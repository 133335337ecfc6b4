use Rattle.std.proofs.Common.{refl}
use Rattle.rc_code.specs.Running.{pinned}
use Rattle.rc_cell_ops.proofs.Deleting.{no_error, not_root, no_child, no_name, held_after, freed_after, childless_before}
use Rattle.rc_cell_ops.proofs.deletions.free_pinned.Goals as goal

pub unpin_all-requires-clause-held : goal.unpin_all-requires-clause-held
unpin_all-requires-clause-held g c =
    let before = g.H.Heap.store c.args.heap.now in
    let held = g.H.Heap.store c.pin_all.new.heap in
    let values = pinned c.args.pins.now c.args.pile.now.locals in
    let d = c.in-Ok-delete.ensures in
    let child = no_child c.args.region held (λ z. no_error _ _ _ refl (d.root.1 z)) (λ z. no_error _ _ _ refl (d.subregion.1 z)) in
    let none = no_name c.args.region held (λ z. no_error _ _ _ refl (d.root.1 z)) child (λ z. no_error _ _ _ refl (d.reference.1 z)) in
    held_after values c.args.region before held c.requires.live c.in-Ok.ensures none (g.H.Heap.store c.delete.new.self) d.ok

pub returns-in-Ok-delete : goal.returns-in-Ok-delete
returns-in-Ok-delete g c =
    let before = g.H.Heap.store c.args.heap.now in
    let held = g.H.Heap.store c.pin_all.new.heap in
    let values = pinned c.args.pins.now c.args.pile.now.locals in
    let d = c.in-Ok-delete.ensures in
    let child = no_child c.args.region held (λ z. no_error _ _ _ refl (d.root.1 z)) (λ z. no_error _ _ _ refl (d.subregion.1 z)) in
    let none = no_name c.args.region held (λ z. no_error _ _ _ refl (d.root.1 z)) child (λ z. no_error _ _ _ refl (d.reference.1 z)) in
    record {
      other = not_root c.args.region (λ z. no_error _ _ _ refl (d.root.1 z));
      childless = childless_before values c.args.region before held c.requires.live c.in-Ok.ensures none child;
      held = held;
      pinned = c.in-Ok.ensures;
      unnamed = none;
      freed = freed_after values c.args.region before held c.requires.live c.in-Ok.ensures none (g.H.Heap.store c.delete.new.self) (g.H.Heap.store c.unpin_all.new.heap) d.ok c.unpin_all.ensures;
    }
