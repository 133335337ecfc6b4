use Rattle.std.proofs.Common.{◌∙◌, Err, refl, ap, sym, subst, ◌<◌}
use Rattle.rc_code.specs.Running.{pinned}
use Rattle.rc_cell_ops.proofs.Deleting.{as_pinned, freed_so, no_child, no_error, no_name, not_root, pinned_so, refs_so}
use Rattle.rc_cell_ops.proofs.deletions.free_unnamed.Goals as goal

pub returns-in-Ok : goal.returns-in-Ok
returns-in-Ok g c =
    let before = g.H.Heap.store c.args.heap.now in
    let values = pinned c.args._pins.now c.args._pile.now.locals in
    let d = c.in-Ok.ensures in
    let child = no_child c.args.region before (λ z. no_error _ _ _ refl (d.root.1 z)) (λ z. no_error _ _ _ refl (d.subregion.1 z)) in
    let none = no_name c.args.region before (λ z. no_error _ _ _ refl (d.root.1 z)) child (λ z. no_error _ _ _ refl (d.reference.1 z)) in
    record {
      other = not_root c.args.region (λ z. no_error _ _ _ refl (d.root.1 z));
      childless = child;
      held = as_pinned values c.args.region before c.requires.unnamed;
      pinned = pinned_so values c.args.region before c.requires.unnamed;
      unnamed = refs_so values c.args.region before c.requires.unnamed ∙ none;
      freed = freed_so values c.args.region before c.requires.unnamed (g.H.Heap.store c.delete.new.self) d.ok;
    }

pub returns-in-Err-Reference : goal.returns-in-Err-Reference
returns-in-Err-Reference g c =
    let before = g.H.Heap.store c.args.heap.now in
    let values = pinned c.args._pins.now c.args._pile.now.locals in
    let d = c.in-Err-Reference.ensures.reference.0 (ap (λ e. Err e) c.in-Err-Reference.field-0-is) in
    record {
      other = not_root c.args.region d.0;
      childless = d.1;
      held = as_pinned values c.args.region before c.requires.unnamed;
      pinned = pinned_so values c.args.region before c.requires.unnamed;
      named = subst (λ n. 0 < n) (sym (refs_so values c.args.region before c.requires.unnamed)) d.2;
    }
