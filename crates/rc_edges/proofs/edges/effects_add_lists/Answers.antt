use Rattle.rc_edges.proofs.Adding.{news_are}
use Rattle.rc_edges.proofs.edges.effects_add_lists.Goals as goal

pub returns : goal.returns
returns c = news_are
