use Rattle.std.proofs.Common.{length}
use Rattle.rc_replies.specs.Commands.{lines_of}
use Rattle.rc_replies.specs.Replies.{first_store, heap_store, heap_text, replies, store_behind}
use Rattle.rc_replies.specs.Stores.{IsSame}
use Rattle.rc_sets.specs.Records.{IsKeptBy}
use Rattle.rc_sets.specs.Scripts.{limits_of}
use Rattle.rc_sets.proofs.Runs.{Obeyed, SoFar}
use Rattle.rc_sets.proofs.run.script.Given as goal

abbrev pub invariant-loop-rest : goal.invariant-loop-rest
invariant-loop-rest g l = record {
  put : SoFar (heap_text l.fn.text (limits_of (g.H.Heap.store l.fn.heap))) (replies (lines_of l.rest) (g.H.Heap.store l.heap)) (g.O.Sink.state l.fn.out) (g.O.Sink.state l.out);
  store : IsSame (heap_store l.fn.text (limits_of (g.H.Heap.store l.fn.heap))) (store_behind (lines_of l.rest) (g.H.Heap.store l.heap));
  obeyed : Obeyed (lines_of l.fn.text) (lines_of l.rest) (first_store (limits_of (g.H.Heap.store l.fn.heap))) (g.H.Heap.store l.heap);
  kept : IsKeptBy l.records (g.H.Heap.store l.heap);
}

abbrev pub decreases-loop-rest : goal.decreases-loop-rest
decreases-loop-rest g l = length l.rest
