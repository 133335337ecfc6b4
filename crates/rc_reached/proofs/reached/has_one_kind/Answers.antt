use Rattle.std.proofs.Common.{◌∙◌}
use Rattle.rc_reached.proofs.Alike.{one_first}
use Rattle.rc_reached.proofs.reached.has_one_kind.Goals as goal

pub returns : goal.returns
returns c = c.in_ok-alike.ensures ∙ one_first c.args.indices.now c.args.cells.now c.args.place c.cells_from-from.result.now _ c.in-len1-up.len_at_least c.cells_from-from.ensures c.requires
