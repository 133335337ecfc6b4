use Rattle.std.proofs.Common.{length, refl}
use Rattle.rc_boundaries.specs.Every.{every_fact}
use Rattle.rc_boundaries.proofs.Every.{read_is}
use Rattle.rc_prove.proofs.reading.read.Goals as goal

pub returns-clause-facts : goal.returns-clause-facts
returns-clause-facts c = read_is c.args.names.now c.args.set.now _ _ (every_fact (length c.args.names.now)) c.in_ok-found.ensures.facts refl c.gather.ensures.facts
