use Rattle.std.proofs.Common.{get_or, ap, ◌∙◌}
use Rattle.rc_graph.proofs.Numbering.{rank_is}
use Rattle.rc_graph.proofs.names.Names.copy.Goals as goal

pub returns : goal.returns
returns c f n = c.rank.ensures ∙ ap (λ xs. get_or xs c.args.local c.args.self.now.all) (c.as_slice.ensures.value ∙ n.ranks) ∙ rank_is f.locals c.args.local c.args.self.now.all n.all
