use Rattle.std.proofs.Common.{sym}
use Rattle.rc_store.specs.Values.{value_of}
use Rattle.rc_tally.proofs.Taken.{value_given}
use Rattle.rc_tally.proofs.tally.give.Goals as goal

pub returns-then-holder-region : goal.returns-then-holder-region
returns-then-holder-region c = value_given c.in-Some.region (value_of c.args.value) c.in-Some.ensures c.args.holder (λ e. c.if-holder-region.true (sym e)) c.args.directory.now c.raise.new.self c.requires.live c.raise.ensures
