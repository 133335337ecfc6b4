use Rattle.rc_first_heap.proofs.Keeping.{changes_the_store}
use Rattle.rc_first_heap.proofs.laws.the_store_is_changed.Goals as goal

pub returns : goal.returns
returns c = changes_the_store c.a_heap_keeps_the_store.ensures
