use Rattle.rc_safety.proofs.Never.{never_touches_deleted, leaves_sound_heap}
use Rattle.rc_safety.proofs.no_deleted_region_is_touched.Goals as goal

pub returns-clause-never : goal.returns-clause-never
returns-clause-never c = never_touches_deleted

pub returns-clause-left : goal.returns-clause-left
returns-clause-left c = leaves_sound_heap
