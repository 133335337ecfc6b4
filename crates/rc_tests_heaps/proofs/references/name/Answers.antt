use Rattle.std.proofs.Common.{◌∙◌, IsTrue, ap, rules}
use Rattle.rc_store.specs.Stores.{allocated, live_in}
use Rattle.rc_tests_heaps.proofs.Fresh.{fresh_may, fresh_place, fresh_plain, written_place}
use Rattle.rc_tests_heaps.proofs.references.name.Goals as goal

pub write_counted-requires-clause-may : goal.write_counted-requires-clause-may
write_counted-requires-clause-may g c =
    let s = g.H.Heap.store c.args.heap.now in
    let live : IsTrue (live_in s.regions c.args.holder) = search rules in
    let target : IsTrue (live_in s.regions c.args.target) = search rules in
    fresh_may s (g.H.Heap.store c.allocate.new.self) c.args.holder c.in-Ok.object live (c.in-Ok.ensures.ok ∙ ap (λ kinds. allocated c.args.holder kinds 1 s) c.requires) c.in-Ok.ensures.number c.args.target target

pub write_counted-requires-clause-plain : goal.write_counted-requires-clause-plain
write_counted-requires-clause-plain g c =
    let s = g.H.Heap.store c.args.heap.now in
    let live : IsTrue (live_in s.regions c.args.holder) = search rules in
    fresh_plain s (g.H.Heap.store c.allocate.new.self) c.args.holder c.in-Ok.object live (c.in-Ok.ensures.ok ∙ ap (λ kinds. allocated c.args.holder kinds 1 s) c.requires) c.in-Ok.ensures.number

pub read-requires : goal.read-requires
read-requires g c =
    let s = g.H.Heap.store c.args.heap.now in
    let live : IsTrue (live_in s.regions c.args.holder) = search rules in
    let there = fresh_place s (g.H.Heap.store c.allocate.new.self) c.args.holder c.in-Ok.object live (c.in-Ok.ensures.ok ∙ ap (λ kinds. allocated c.args.holder kinds 1 s) c.requires) c.in-Ok.ensures.number in
    written_place (g.H.Heap.store c.allocate.new.self) (g.H.Heap.store c.write_counted.new.self) _ _ there c.write_counted.ensures.written
