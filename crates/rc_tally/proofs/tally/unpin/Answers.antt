use Rattle.rc_store.specs.Values.{value_of}
use Rattle.rc_tally.proofs.Taken.{pin_taken}
use Rattle.rc_tally.proofs.tally.unpin.Goals as goal

pub returns-in-Some : goal.returns-in-Some
returns-in-Some c = pin_taken c.in-Some.region (value_of c.args.value) c.in-Some.ensures c.args.directory.now c.lower.new.self c.requires c.lower.ensures
