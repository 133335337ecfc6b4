use Rattle.std.proofs.Common.{◌≡◌, false, take}
use Rattle.std.specs.List.{list_any}
use Rattle.rc_core.specs.Evaluation.{local_at}
use Rattle.rc_core.specs.Heap.{names}
use Rattle.rc_cell_ops.proofs.deletions.names_any.Given as goal

abbrev pub invariant-loop-local : goal.invariant-loop-local
invariant-loop-local l = list_any (λ x. names l.region (local_at l.pile.locals x)) (take l.local-index l.pins) ≡ false
