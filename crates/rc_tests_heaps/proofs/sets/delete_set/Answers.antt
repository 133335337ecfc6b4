use Rattle.rc_tests_heaps.proofs.Pinned.{pins_kept}
use Rattle.rc_tests_heaps.proofs.sets.delete_set.Goals as goal

pub returns : goal.returns
returns g c = pins_kept c.delete_set.result c.args.set.now (g.H.Heap.store c.args.heap.now) (g.H.Heap.store c.delete_set.new.self) c.delete_set.ensures.ok c.delete_set.ensures.err
