use Rattle.rc_kinds.proofs.Stated.{keeps_to_types, values_say}
use Rattle.rc_kinds.proofs.Demanded.{part_is_answered}
use Rattle.rc_kinds.proofs.PartsMeet.{part_meets}
use Rattle.rc_kinds.proofs.values_keep_their_types.Goals as goal

pub returns-clause-kept : goal.returns-clause-kept
returns-clause-kept c = keeps_to_types

pub returns-clause-said : goal.returns-clause-said
returns-clause-said c = values_say

pub returns-clause-everywhere : goal.returns-clause-everywhere
returns-clause-everywhere c = part_meets

pub returns-clause-answered : goal.returns-clause-answered
returns-clause-answered c = part_is_answered
