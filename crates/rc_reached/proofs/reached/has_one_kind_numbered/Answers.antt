use Rattle.std.proofs.Common.{sym}
use Rattle.rc_reached.proofs.Alike.{one_everywhere}
use Rattle.rc_reached.proofs.reached.has_one_kind_numbered.Goals as goal

pub returns-then-is_one_numbered : goal.returns-then-is_one_numbered
returns-then-is_one_numbered c =
    sym (one_everywhere c.args.indices.now c.args.cells.now c.args.place c.requires.fit (λ cell at. c.is_one_numbered.ensures c.if-is_one_numbered.true c.args.cells.now cell c.requires.is at))
