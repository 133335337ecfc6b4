use Rattle.rc_boundaries.proofs.Lost.{lost_at}
use Rattle.rc_prove.proofs.losing.lose.Goals as goal

pub returns : goal.returns
returns c = lost_at c.meet_at.result c.args.sets.now c.meet_at.new.sets c.args.at c.args.other.now c.meet_at.ensures.long c.meet_at.ensures.variables c.meet_at.ensures.others c.meet_at.ensures.there c.meet_at.ensures.fewer
