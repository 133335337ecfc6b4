use Rattle.rc_live.proofs.Bits.{shows_with}
use Rattle.rc_live.proofs.rows.with.Goals as goal

pub returns-in-Some : goal.returns-in-Some
returns-in-Some c live s = shows_with c.args.names.now c.args.row c.with.result c.in-Some.bit c.args.local live c.requires.once c.in-Some.ensures.1 c.with.ensures s
