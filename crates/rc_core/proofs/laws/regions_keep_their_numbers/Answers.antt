use Rattle.std.proofs.Common.{arith}
use Rattle.rc_core.proofs.RunLaws.{always}
use Rattle.rc_core.proofs.laws.regions_keep_their_numbers.Goals as goal

pub returns-clause-made : goal.returns-clause-made
returns-clause-made c = always _ (λ u w s l. l.heap.longer)

pub returns-clause-parents : goal.returns-clause-parents
returns-clause-parents c = always _ (λ u w s l r lt. (l.heap.at r lt).parent)

pub returns-clause-dead : goal.returns-clause-dead
returns-clause-dead c = always _ (λ u w s l r lt e. (l.heap.at r lt).dead e)

pub returns-clause-objects : goal.returns-clause-objects
returns-clause-objects c = always _ (λ u w s l r o lt lo. omega (arith, lo, (l.heap.at r lt).objects.longer))

pub returns-clause-layouts : goal.returns-clause-layouts
returns-clause-layouts c = always _ (λ u w s l r o lt lo. ((l.heap.at r lt).objects.at o lo).layout)

pub returns-clause-lengths : goal.returns-clause-lengths
returns-clause-lengths c = always _ (λ u w s l r o lt lo. ((l.heap.at r lt).objects.at o lo).count)

pub returns-clause-limits : goal.returns-clause-limits
returns-clause-limits c = always _ (λ u w s l. (l.regions, l.blocks))
