use Rattle.std.proofs.Common.{rules, of_z, to_z, w64, ◌≡◌, ◌∙◌, subst, sym}
use Rattle.rc_core.specs.Heap.{Handle}
use Rattle.rc_pile.specs.Words.{value_of}
use Rattle.rc_steps.specs.Ready.{IsReadyToAllocate}
use Rattle.rc_ops.specs.Going.{at_of}
use Rattle.rc_calls.proofs.Leading.{some_same}
use Rattle.rc_calls.proofs.objects.allocate_array.Goals as goal

pub make-requires-clause-ready : goal.make-requires-clause-ready
make-requires-clause-ready g c =
    let r = c.requires.ready.1 in
    let e : value_of c.operand.result ≡ r.0 = some_same c.operand.ensures r.2.0 in
    let count = c.number-count.ensures r.1 r.3.0 in
    let back : to_z w64 (of_z w64 c.number-count.result) ≡ c.number-count.result = search rules in
    subst (λ n. IsReadyToAllocate c.args.setting.now.image.now (at_of c.args.running c.args.at.now) c.args.pile.now (g.H.Heap.store c.args.heap.now) 2 c.args.type_number n c.in-Ok.region) (sym (back ∙ count))
    ((r.5.2 c.in-Ok.region (sym e ∙ c.in-Ok.ensures.0)).1 c.in-Ok.ensures.1)
