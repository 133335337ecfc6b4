use Rattle.std.proofs.Common.{rules, ◌≡◌, length}
use Rattle.rc_reached.proofs.Narrowing.{walk_none, walk_more, first_some, first_inside}
use Rattle.rc_reached.proofs.masks.is_marked_all.Goals as goal

pub loop-rest-init : goal.loop-rest-init
loop-rest-init c = walk_none c.args.words.now c.args.indices.now c.args.reach c.requires.fit c.requires.reach c.requires.room c.requires.small

pub narrow_along-reach-requires-clause-some : goal.narrow_along-reach-requires-clause-some
narrow_along-reach-requires-clause-some c = first_some c.loop-rest.rest.now _ c.in-len1-up.len_at_least c.loop-rest.invariant.fit

pub narrow_along-reach-requires-clause-inside : goal.narrow_along-reach-requires-clause-inside
narrow_along-reach-requires-clause-inside c = first_inside c.loop-rest.rest.now _ c.in-len1-up.len_at_least c.loop-rest.reach c.loop-rest.invariant.far

pub loop-rest-preserved : goal.loop-rest-preserved
loop-rest-preserved c =
    let long : length c.narrow_along-reach.new.words ≡ length c.loop-rest.words = search rules in
    walk_more c.args.words.now c.loop-rest.words c.narrow_along-reach.new.words c.args.indices.now c.loop-rest.rest.now _ c.loop-rest.reach c.narrow_along-reach.result c.in-len1-up.len_at_least c.loop-rest.invariant long
    c.narrow_along-reach.ensures.rest c.narrow_along-reach.ensures.along
