use Rattle.rc_store.specs.Values.{value_of}
use Rattle.rc_tally.proofs.Taken.{value_taken}
use Rattle.rc_tally.proofs.tally.take_back.Goals as goal

pub returns-then-region-holder : goal.returns-then-region-holder
returns-then-region-holder c = value_taken c.in-Some.region (value_of c.args.value) c.in-Some.ensures c.args.holder c.if-region-holder.true c.args.directory.now c.lower.new.self c.requires c.lower.ensures
