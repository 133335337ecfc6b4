use Rattle.std.proofs.Common.{rules}
use Rattle.rc_values.proofs.Lists.{changed_at}
use Rattle.rc_memory.proofs.region.write_object.Goals as goal

pub returns-then-number-len : goal.returns-then-number-len
returns-then-number-len c = changed_at c.args.objects.now.items c.args.number _ c.index_mut.result.now c.write.new.self (search rules) (search rules) c.write.ensures
