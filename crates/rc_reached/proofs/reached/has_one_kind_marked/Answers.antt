use Rattle.std.proofs.Common.{sym, ◌∙◌, arith}
use Rattle.rc_reached.proofs.Alike.{one_marked, reach_low}
use Rattle.rc_reached.proofs.reached.has_one_kind_marked.Goals as goal

pub are_marked-requires-clause-small : goal.are_marked-requires-clause-small
are_marked-requires-clause-small c = let low = reach_low c.args.indices.now c.args.cells.now c.args.place c.requires.fit in omega (arith, low, c.requires.few)

pub returns-then-marked : goal.returns-then-marked
returns-then-marked c =
    sym (one_marked c.args.indices.now c.args.cells.now c.args.place c.args.mask.now c.requires.is c.requires.fit (sym c.in_ok-marked.ensures ∙ c.if-marked.true))
