use Rattle.rc_live.proofs.Doing.{repeat_tells}
use Rattle.rc_live.proofs.effects.of_repeat.Goals as goal

pub returns : goal.returns
returns c names line steps test body short r t = repeat_tells names line body steps test c.args.row c.args.body c.passing.result c.reading.result c.round.result r t c.passing.ensures c.reading.ensures c.round.ensures short
