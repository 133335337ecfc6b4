use Rattle.rc_store.specs.Values.{value_of}
use Rattle.rc_tally.proofs.Taken.{pin_given}
use Rattle.rc_tally.proofs.tally.pin.Goals as goal

pub returns-in-Some : goal.returns-in-Some
returns-in-Some c = pin_given c.in-Some.region (value_of c.args.value) c.in-Some.ensures c.args.directory.now c.raise.new.self c.requires.live c.raise.ensures
