use Rattle.rc_boundaries.proofs.Lost.{lost_at}
use Rattle.rc_prove.proofs.losing.lose_target.Goals as goal

pub returns : goal.returns
returns c = lost_at c.meet_target.result c.args.sets.now c.meet_target.new.sets c.args.at c.args.other.now c.meet_target.ensures.long c.meet_target.ensures.variables c.meet_target.ensures.others c.meet_target.ensures.there c.meet_target.ensures.fewer
