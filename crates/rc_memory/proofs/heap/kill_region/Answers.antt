use Rattle.std.proofs.Common.{rules}
use Rattle.rc_values.proofs.Lists.{changed_at}
use Rattle.rc_memory.proofs.heap.kill_region.Goals as goal

pub returns-then-region-len : goal.returns-then-region-len
returns-then-region-len c = changed_at c.args.regions.now.items c.args.region _ c.index_mut.result.now c.kill.new.self (search rules) (search rules) c.kill.ensures
