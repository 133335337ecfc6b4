use Rattle.std.proofs.Common.{sym, ap, subst}
use Rattle.rc_core.specs.Runs.{Run}
use Rattle.rc_core.specs.Shapes.{stmt_of}
use Rattle.rc_nodes.specs.Coming.{Comes}
use Rattle.rc_memory.specs.KeptWorld.{KeptWorld}
use Rattle.rc_nodes.specs.Stepping.{Doing, stored_step}
use Rattle.rc_values.specs.Values.{value_of}
use Rattle.rc_nodes.proofs.storing.value_to_storing_statement.Goals as goal

pub returns-in-Store : goal.returns-in-Store
returns-in-Store c = λ program frames env w at_heap.
    let P : Run KeptWorld Doing → Type 0 = Comes c.store.result frames env c.store.new.heap w in
    subst P (sym (ap (λ s. stored_step program (stmt_of s) c.args.target.now (value_of c.args.value) frames env w) c.in-Store.is)) (c.store.ensures program frames env w at_heap)

pub returns-in-Update : goal.returns-in-Update
returns-in-Update c = λ program frames env w at_heap.
    let P : Run KeptWorld Doing → Type 0 = Comes c.update.result frames env c.update.new.heap w in
    subst P (sym (ap (λ s. stored_step program (stmt_of s) c.args.target.now (value_of c.args.value) frames env w) c.in-Update.is)) (c.update.ensures program frames env w at_heap)
