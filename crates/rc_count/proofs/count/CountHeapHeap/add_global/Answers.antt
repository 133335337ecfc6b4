use Rattle.std.proofs.Common.{subst}
use Rattle.rc_store.specs.Stores.{IsLive}
use Rattle.rc_count.proofs.count.CountHeapHeap.add_global.Goals as goal

pub objects-number-requires : goal.objects-number-requires
objects-number-requires g c = c.self.invariant.whole.root

pub append-requires-clause-live : goal.append-requires-clause-live
append-requires-clause-live g c = subst (λ x. IsLive x 0) c.self.view_is c.self.invariant.whole.root
