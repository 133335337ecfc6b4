use Rattle.std.proofs.Common.{rules}
use Rattle.rc_values.proofs.Lists.{changed_at}
use Rattle.rc_memory.proofs.heap.push_object.Goals as goal

pub returns-in_ok-push-clause-pushed : goal.returns-in_ok-push-clause-pushed
returns-in_ok-push-clause-pushed c = changed_at c.args.regions.now.items c.args.region _ c.index_mut.result.now c.push.new.self (search rules) (search rules) (search rules)
