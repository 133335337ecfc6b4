use Rattle.std.proofs.Common.{◌≡◌, ◌++◌, ◌∷◌, [], take}
use Rattle.std.specs.List.{AllByRecursion as Every}
use Rattle.rc_core.specs.Numbers.{IsByte}
use Rattle.rc_first_heap.specs.First.{first_of, holding}
use Rattle.rc_first_heap.proofs.Filling.{begun, numbers}
use Rattle.rc_first_heap.proofs.globals.add_bytes.Given as goal

abbrev pub invariant-loop-element : goal.invariant-loop-element
invariant-loop-element g l = record {
  heap : g.H.Heap.store l.heap ≡ holding (first_of (g.H.Heap.store l.fn.heap) ++ numbers l.n (begun l.bytes l.element) ∷ []) (g.H.Heap.store l.fn.heap);
  bytes : Every IsByte (take l.element l.bytes);
}
