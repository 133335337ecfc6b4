use Rattle.std.proofs.Common.{◌≡◌, ◌∙◌, ◌+◌, ◌∷◌, ◌++◌, [], IsTrue, List, length, map, ap, arith, rules, length-append}
use Rattle.rc_core.specs.Laid.{held_kind}
use Rattle.rc_core.specs.Shapes.{kinds_in}
use Rattle.rc_store.specs.Kept.{KeptObject, KeptStore, Regions, blank}
use Rattle.rc_store.specs.Stores.{is_view, live_in, objects_in}
use Rattle.rc_store.proofs.Changed.{objects_set}
use Rattle.rc_sets.proofs.Keeping.{objects_here}
use Rattle.rc_sets.proofs.Lists.{set_same}
use Rattle.rc_tests_scripts.proofs.objects.object.Goals as goal

pub elements-requires-clause-live : goal.elements-requires-clause-live
elements-requires-clause-live g c =
    let regions = (g.H.Heap.store c.args.heap.now).regions in
    let live : IsTrue (live_in regions 0) = search rules in
    let more : List KeptObject = objects_in regions 0 ++ blank (map held_kind (kinds_in c.args.layout.now)) c.args.count ∷ [] in
    ap (λ (u : KeptStore). live_in u.regions 0) c.in-Ok.ensures.ok ∙ ap (λ (rs : Regions). live_in rs 0) (objects_set 0 more regions live) ∙ ap is_view (set_same regions 0 _ live)

pub elements-requires-clause-object : goal.elements-requires-clause-object
elements-requires-clause-object g c =
    let regions = (g.H.Heap.store c.args.heap.now).regions in
    let live : IsTrue (live_in regions 0) = search rules in
    let new : KeptObject = blank (map held_kind (kinds_in c.args.layout.now)) c.args.count in
    let long : length (objects_in (g.H.Heap.store c.allocate.new.self).regions 0) ≡ length (objects_in regions 0) + 1 =
    ap (λ (u : KeptStore). length (objects_in u.regions 0)) c.in-Ok.ensures.ok ∙ ap length (objects_here regions 0 live (objects_in regions 0 ++ new ∷ [])) ∙ length-append (objects_in regions 0) (new ∷ []) in
    let number = c.in-Ok.ensures.number in
    omega (arith, long, number)
