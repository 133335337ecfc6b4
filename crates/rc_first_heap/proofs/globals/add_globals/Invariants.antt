use Rattle.std.proofs.Common.{◌≡◌, take}
use Rattle.std.specs.List.{AllByRecursion as Every}
use Rattle.rc_code.specs.declared.image.Global.{Global}
use Rattle.rc_worlds.specs.Meanings.{AreBytes}
use Rattle.rc_first_heap.specs.First.{holding}
use Rattle.rc_first_heap.proofs.Each.{objects_of}
use Rattle.rc_first_heap.proofs.globals.add_globals.Given as goal

abbrev pub invariant-loop-global : goal.invariant-loop-global
invariant-loop-global g l = record {
  heap : g.H.Heap.store l.heap ≡ holding (objects_of l.image (take l.global-index l.global-items)) (g.H.Heap.store l.fn.heap);
  bytes : Every (λ (x : Global). AreBytes x.initial) (take l.global-index l.global-items);
}
