use Rattle.std.proofs.Common.{rules, of_z, to_z, w64, ◌≡◌, ◌<◌, ◌∙◌, ap, true, length, pos, unsigned_abs, map}
use Rattle.std.specs.Prelude.{int_le}
use Rattle.rc_core.specs.Laid.{held_kind}
use Rattle.rc_core.specs.Heap.{Pointer}
use Rattle.rc_code.specs.Running.{layout_at, reading_of}
use Rattle.rc_pile.specs.Stacks.{giving}
use Rattle.rc_store.specs.Stores.{allocated, objects_in}
use Rattle.rc_calls.proofs.Leading.{leads_pile}
use Rattle.rc_calls.proofs.objects.make.Goals as goal

pub returns-in-Ok : goal.returns-in-Ok
returns-in-Ok g c =
    let old = g.H.Heap.store c.args.heap.now in
    let within : int_le (pos 0) c.args.wanted.count ≡ true = search rules in
    let room : length (objects_in old.regions c.args.wanted.region) < old.block_limit = search rules in
    let back : to_z w64 (of_z w64 c.args.wanted.count) ≡ c.args.wanted.count = search rules in
    let same : g.H.Heap.store c.allocate.new.self ≡ allocated c.args.wanted.region (map held_kind (layout_at (reading_of c.args.setting.now.image.now) c.args.wanted.type_number)) (unsigned_abs c.args.wanted.count) old = c.in-Ok.ensures.ok ∙ (λ i. allocated c.args.wanted.region (map held_kind (c.layout_of-layout.ensures i)) ((c.elements.ensures ∙ ap unsigned_abs back) i) old) in
    leads_pile _ _ _ _ _ _ _ _ _ ((c.requires.ready.1 within).1 room) (c.give.ensures ∙ ap (λ v. giving c.args.wanted.operands v c.args.pile.now) (c.of_pointer.ensures ∙ ap (λ o. Pointer (record { region = c.args.wanted.region; object = o; index = 0 })) c.in-Ok.ensures.number)) same
