use Rattle.std.proofs.Common.{rules}
use Rattle.rc_values.proofs.Lists.{changed_at}
use Rattle.rc_memory.proofs.heap.write_region.Goals as goal

pub returns-then-spot-len : goal.returns-then-spot-len
returns-then-spot-len c = changed_at c.args.regions.now.items c.args.spot.region _ c.index_mut.result.now c.write.new.self (search rules) (search rules) c.write.ensures
