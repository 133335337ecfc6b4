use Rattle.std.proofs.Common.{◌≡◌, map}
use Rattle.rc_prove.specs.Family.{items_of}
use Rattle.rc_prove.proofs.released.all_facts.Given as goal

abbrev pub invariant-loop-sets : goal.invariant-loop-sets
invariant-loop-sets l = map items_of l.all.items ≡ map items_of l.yielded
