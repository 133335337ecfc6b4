use Rattle.std.proofs.Common.{◌∙◌, IsTrue, ap, rules}
use Rattle.rc_store.specs.Stores.{allocated, live_in}
use Rattle.rc_tests_heaps.proofs.Fresh.{fresh_place, fresh_plain, written_place}
use Rattle.rc_tests_heaps.proofs.writing.written_back.Goals as goal

pub write_back-requires-clause-place : goal.write_back-requires-clause-place
write_back-requires-clause-place g c =
    let s = g.H.Heap.store c.args.heap.now in
    let live : IsTrue (live_in s.regions c.args.region) = search rules in
    fresh_place s (g.H.Heap.store c.allocate.new.self) c.args.region c.in-Ok.object live (c.in-Ok.ensures.ok ∙ ap (λ kinds. allocated c.args.region kinds 1 s) c.requires) c.in-Ok.ensures.number

pub write_back-requires-clause-plain : goal.write_back-requires-clause-plain
write_back-requires-clause-plain g c =
    let s = g.H.Heap.store c.args.heap.now in
    let live : IsTrue (live_in s.regions c.args.region) = search rules in
    fresh_plain s (g.H.Heap.store c.allocate.new.self) c.args.region c.in-Ok.object live (c.in-Ok.ensures.ok ∙ ap (λ kinds. allocated c.args.region kinds 1 s) c.requires) c.in-Ok.ensures.number

pub read-requires : goal.read-requires
read-requires g c =
    let s = g.H.Heap.store c.args.heap.now in
    let live : IsTrue (live_in s.regions c.args.region) = search rules in
    let there = fresh_place s (g.H.Heap.store c.allocate.new.self) c.args.region c.in-Ok.object live (c.in-Ok.ensures.ok ∙ ap (λ kinds. allocated c.args.region kinds 1 s) c.requires) c.in-Ok.ensures.number in
    written_place (g.H.Heap.store c.allocate.new.self) (g.H.Heap.store c.write_back.new.heap) _ _ there c.write_back.ensures
