use Rattle.rc_first_heap.proofs.Keeping.{shows_the_store}
use Rattle.rc_first_heap.proofs.laws.the_store_is_shown.Goals as goal

pub returns : goal.returns
returns c = shows_the_store
