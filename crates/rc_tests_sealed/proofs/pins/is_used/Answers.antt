use Rattle.std.proofs.Common.{arith}
use Rattle.rc_pinning.proofs.Judging.{few}
use Rattle.rc_tests_sealed.proofs.pins.is_used.Goals as goal

pub used_in-requires-clause-few : goal.used_in-requires-clause-few
used_in-requires-clause-few c = few c.args.parts.now 0 (c.requires.narrow 0 (let m = c.requires.fields.main in omega (arith, m)))
