use Rattle.std.proofs.Common.{◌∙◌, sym, ap, subst}
use Rattle.rc_core.specs.Runs.{Run, Go, bind}
use Rattle.rc_nodes.specs.Coming.{Comes}
use Rattle.rc_memory.specs.KeptWorld.{KeptWorld, kept, with_heap}
use Rattle.rc_nodes.specs.Stepping.{Doing, going_next}
use Rattle.rc_values.specs.Values.{value_of}
use Rattle.rc_nodes.proofs.Results.{stops_on}
use Rattle.rc_nodes.proofs.storing.update_from.Goals as goal

pub returns-in-Ok : goal.returns-in-Ok
returns-in-Ok c = λ program frames env w at_heap.
    let P : Run KeptWorld Doing → Type 0 = Comes c.store.result frames env c.store.new.heap w in
    subst P (sym (ap (λ m. bind m (λ new w1. bind (kept.store c.args.line c.args.target.now new w1) (going_next program frames env))) (c.in-Ok.ensures program w at_heap ∙ ap (λ h. Go (value_of c.in-Ok.new) (with_heap w h)) (sym at_heap))))
    (c.store.ensures program frames env w at_heap)

pub returns-in-Err : goal.returns-in-Err
returns-in-Err c = λ program frames env w at_heap. stops_on c.in-Err.stop w _ _ (c.in-Err.ensures program w at_heap)
