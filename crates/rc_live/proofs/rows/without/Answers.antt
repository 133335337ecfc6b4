use Rattle.rc_live.proofs.Bits.{shows_without}
use Rattle.rc_live.proofs.rows.without.Goals as goal

pub returns-in-Some : goal.returns-in-Some
returns-in-Some c live s = shows_without c.args.names.now c.args.row c.without.result c.in-Some.bit c.args.local live c.requires.once c.in-Some.ensures.1 c.without.ensures s
