use Rattle.rc_store.proofs.Keeping.{keeps_the_store}
use Rattle.rc_store.proofs.laws.a_heap_keeps_the_store.Goals as goal

pub returns : goal.returns
returns c = keeps_the_store
