use Rattle.std.proofs.Common.{arith}
use Rattle.rc_tests_sealed.proofs.pins.is_told.Goals as goal

pub first_unpinned-requires-clause-narrow : goal.first_unpinned-requires-clause-narrow
first_unpinned-requires-clause-narrow c = c.requires.narrow 0 (let m = c.requires.fields.main in omega (arith, m))
