use Rattle.rc_live.proofs.Doing.{before_shows}
use Rattle.rc_live.proofs.effects.Effect.before.Goals as goal

pub returns : goal.returns
returns c names f k t w =
    before_shows names c.args.self c.args.ways.now c.intersection-next.result c.intersection-broken.result c.intersection-continued.result c.union.result c.union-2.result c.union-3.result
    c.intersection-next.ensures c.intersection-broken.ensures c.intersection-continued.ensures c.union.ensures c.union-2.ensures c.union-3.ensures f k t w
